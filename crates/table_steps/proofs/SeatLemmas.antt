-- A seat may take its step at the place that its function computes, and what it knows then: for the steps of the seats.
use Rattle.table_steps.proofs.Common.{common_steps, ◌≡◌, ℕ, ◌+◌, ◌<◌, ◌≤◌, false, List, [], ◌∷◌, ◌++◌, length, sym, ap, ◌∙◌, subst, arith, none}
use Rattle.table_steps.proofs.Common.{Step, Allows, Request, Event, requests_taken, Setup, Spent, Client, Desk, Both, ClientView, DeskView, AreInTurn, request_spelled, RequestFits, IsProcess, posted, taken, answered, index_of, client_of, desk_of, before_of, tally_at, new_client, Kept, request_cell, answer_cell, Seated, HasClient, HasDesk, client_posted, desk_looked, IsRunOf, met_desk, met_client, before_meeting}
use Rattle.atomic_table.specs.Table.{step, Splits, Joins}
use Rattle.session_core.specs.declared.TheConstants.{N_MAX}
use Rattle.table_steps.specs.declared.before.Before.{Before}
use Rattle.table_steps.specs.Steps.{HasBoth, Fills, Posts, Finds, Gets, Collects, Looks, Reads, Takes, FillsAnswer, Publishes, desk_published, desk_told, GoesOn, IsFilled, joined, desk_parted, client_parted, desk_before, client_made}
use Rattle.table_steps.proofs.SpellingLaws.{one_request}
use Rattle.table_steps.proofs.ClientSteps.{may_fill, may_post}
use Rattle.table_steps.proofs.Collecting.{may_find, may_get, may_collect}
use Rattle.table_steps.proofs.DeskSteps.{may_look, may_read}
use Rattle.table_steps.proofs.Taking.{may_take}
use Rattle.table_steps.proofs.Publishing.{may_fill_answer, may_publish}
use Rattle.table_steps.proofs.Joining.{may_make, may_join, may_part}

pub client_is : (c : ClientView) (me : Seated) → HasClient c me → client_of me.0 ≡ c
client_is c me is = ap (λ (m : Seated). client_of m.0) is

pub client_own : (c : ClientView) (me : Seated) → HasClient c me → HasClient (client_of me.0) me
client_own c me is = is ∙ ap (λ (v : ClientView). (Client v, [])) (sym (client_is c me is))

pub desk_is : (d : DeskView) (me : Seated) → HasDesk d me → desk_of me.0 ≡ d
desk_is d me is = ap (λ (m : Seated). desk_of m.0) is

pub desk_own : (d : DeskView) (me : Seated) → HasDesk d me → HasDesk (desk_of me.0) me
desk_own d me is = is ∙ ap (λ (v : DeskView). (Desk v, [])) (sym (desk_is d me is))

pub both_own : (d : DeskView) (c : ClientView) (before : Before) (me : Seated) → HasBoth d c before me
    → HasBoth (desk_of me.0) (client_of me.0) (before_of me.0) me
both_own d c before me is =
    is ∙ (λ i. (Both (desk_of (sym is i).0) (client_of (sym is i).0) (before_of (sym is i).0), []))

module _ (setup key : Setup) (slots id : ℕ) (me : Seated) (told : Step (Unit {0})) (same : key ≡ setup) where
  pub fill_as : (c : ClientView) (p before i word x : ℕ)
      → HasClient c me → c.process ≡ p → length c.posted ≡ before → length c.filled ≡ i
      → before < c.collected + setup.depth → i < 6
      → word ≡ index_of setup.processes setup.depth (request_cell setup.depth p before i)
      → Allows (Kept key) slots id me word (λ _. x) (λ _. Fills told me x)
  fill_as c p before i word x is process posted_is filled_is room few where_is =
      subst (λ (k : Setup). Allows (Kept k) slots id me word (λ _. x) (λ _. Fills told me x)) (sym same)
      (may_fill setup slots id me c word x told is (omega arith) (omega arith)
      (where_is ∙ (λ j. index_of setup.processes setup.depth
      (request_cell setup.depth (sym process j) (sym posted_is j) (sym filled_is j)))))

  pub publish_as : (c : ClientView) (r : Request) (p before word x : ℕ)
      → HasClient c me → c.process ≡ p → length c.posted ≡ before → before < N_MAX → before < c.collected + setup.depth
      → RequestFits r → c.filled ≡ request_spelled r → x ≡ before + 1
      → word ≡ index_of setup.processes setup.depth (posted p)
      → Allows (Kept key) slots id me word (λ _. x) (λ _. Posts told me x)
  publish_as c r p before word x is process posted_is few room fits spelled number where_is =
      subst (λ (k : Setup). Allows (Kept k) slots id me word (λ _. x) (λ _. Posts told me x)) (sym same)
      (may_post setup slots id me c r word x told is (omega arith) (omega arith) (omega arith) fits (sym spelled)
      (where_is ∙ ap (λ (q : ℕ). index_of setup.processes setup.depth (posted q)) (sym process)))

  pub find_as : (c : ClientView) (p word : ℕ) → HasClient c me → c.process ≡ p
      → word ≡ index_of setup.processes setup.depth (answered p)
      → Allows (Kept key) slots id me word (λ n. n) (Finds told me)
  find_as c p word is process where_is =
      subst (λ (k : Setup). Allows (Kept k) slots id me word (λ n. n) (Finds told me)) (sym same)
      (may_find setup slots id me c word told is
      (where_is ∙ ap (λ (q : ℕ). index_of setup.processes setup.depth (answered q)) (sym process)))

  pub get_as : (c : ClientView) (p before i word : ℕ) → HasClient c me → c.process ≡ p → c.collected ≡ before
      → length c.read ≡ i → i < 5 → before < c.known
      → word ≡ index_of setup.processes setup.depth (answer_cell setup.depth p before i)
      → Allows (Kept key) slots id me word (λ n. n) (Gets told me)
  get_as c p before i word is process collected_is read_is few known where_is =
      subst (λ (k : Setup). Allows (Kept k) slots id me word (λ n. n) (Gets told me)) (sym same)
      (may_get setup slots id me c word told is (omega arith) (omega arith)
      (where_is ∙ (λ j. index_of setup.processes setup.depth
      (answer_cell setup.depth (sym process j) (sym collected_is j) (sym read_is j)))))

  pub collect_as : (c : ClientView) (p before word : ℕ) → HasClient c me → c.process ≡ p → c.collected ≡ before
      → length c.read ≡ 5 → before < c.known
      → word ≡ index_of setup.processes setup.depth (answer_cell setup.depth p before 5)
      → Allows (Kept key) slots id me word (λ n. n) (Collects told me)
  collect_as c p before word is process collected_is read_is known where_is =
      subst (λ (k : Setup). Allows (Kept k) slots id me word (λ n. n) (Collects told me)) (sym same)
      (may_collect setup slots id me c word told is (omega arith) read_is
      (where_is ∙ (λ j. index_of setup.processes setup.depth
      (answer_cell setup.depth (sym process j) (sym collected_is j) (sym read_is j)))))

  pub read_as : (d : DeskView) (p before i word : ℕ) → IsProcess setup.processes p → HasDesk d me → d.reading.0 ≡ p
      → before ≡ length (requests_taken p d.journal) → before < (tally_at d.tallies p).looked → i ≡ length d.reading.1 → i < 6
      → word ≡ index_of setup.processes setup.depth (request_cell setup.depth p before i)
      → Allows (Kept key) slots id me word (λ n. n) (Reads told me)
  read_as d p before i word l is mine next some_left read_is few where_is =
      subst (λ (k : Setup). Allows (Kept k) slots id me word (λ n. n) (Reads told me)) (sym same)
      (may_read setup slots id me d p word told l is mine (omega arith) (omega arith)
      (where_is ∙ (λ j. index_of setup.processes setup.depth (request_cell setup.depth p (next j) (read_is j)))))

  pub take_as : (d : DeskView) (p word x : ℕ) (e named : Event) → named ≡ e → IsProcess setup.processes p → HasDesk d me
      → d.closed ≡ false → d.reading ≡ (p, request_spelled e.request) → RequestFits e.request → e.p ≡ p
      → x ≡ length (requests_taken p d.journal) + 1 → IsRunOf setup (d.journal ++ e ∷ [])
      → ((q : ℕ) → AreInTurn q (d.journal ++ e ∷ []))
      → word ≡ index_of setup.processes setup.depth (taken p)
      → Allows (Kept key) slots id me word (λ _. x) (λ _. Takes named told me x)
  take_as d p word x e named name l is live reading fits process number run in_turn where_is =
      subst (λ (y : Setup × Event). Allows (Kept y.0) slots id me word (λ _. x) (λ _. Takes y.1 told me x))
      (λ i. (sym same i, sym name i))
      (may_take setup slots id me d p word x e told l is live (ap (λ (y : ℕ × List ℕ). y.0) reading)
      (ap (λ (y : ℕ × List ℕ). y.1) reading) fits process number run (λ q _. in_turn q) where_is)

  pub fill_answer_as : (d : DeskView) (p before i word x named : ℕ) → named ≡ p → IsProcess setup.processes p → HasDesk d me
      → before ≡ (tally_at d.tallies p).published → i ≡ length d.filling.1 → GoesOn d p x
      → word ≡ index_of setup.processes setup.depth (answer_cell setup.depth p before i)
      → Allows (Kept key) slots id me word (λ _. x) (λ _. FillsAnswer named told me x)
  fill_answer_as d p before i word x named name l is number filled_is on where_is =
      subst (λ (y : Setup × ℕ). Allows (Kept y.0) slots id me word (λ _. x) (λ _. FillsAnswer y.1 told me x))
      (λ j. (sym same j, sym name j))
      (may_fill_answer setup slots id me d p word x on.answer told l is on.own on.next on.begins
      (where_is ∙ (λ j. index_of setup.processes setup.depth (answer_cell setup.depth p (number j) (filled_is j)))))

  pub publish_answer_as : (d : DeskView) (p word x : ℕ) → IsProcess setup.processes p → HasDesk d me → IsFilled d p
      → x ≡ (tally_at d.tallies p).published + 1
      → word ≡ index_of setup.processes setup.depth (answered p)
      → Allows (Kept key) slots id me word (λ _. x) (λ _. Publishes told me x)
  publish_answer_as d p word x l is filled number where_is =
      subst (λ (y : Setup). Allows (Kept y) slots id me word (λ _. x) (λ _. Publishes told me x)) (sym same)
      (may_publish setup slots id me d p word x filled.answer told l is filled.own filled.spelled filled.fits filled.next number
      where_is)

-- the request that the filled words spell is the one that is posted
pub has_posted : (c : ClientView) (r : Request) (after : Seated) → RequestFits r → c.filled ≡ request_spelled r
    → ((x : Request) × RequestFits x × (request_spelled x ≡ c.filled) × HasClient (client_posted c x) after)
    → HasClient (client_posted c r) after
has_posted c r after fits spelled told =
    let same : told.0 ≡ r = one_request told.0 r told.1 fits (told.2 ∙ spelled) in
    told.3 ∙ ap (λ (x : Request). (Client (client_posted c x), [])) same

-- the process whose cell was filled is the one that is told
pub has_told : (d : DeskView) (p : ℕ) (after : Seated) → IsFilled d p → HasDesk (desk_published d) after → HasDesk (desk_told d p) after
has_told d p after filled is = is ∙ ap (λ (q : ℕ). (Desk (desk_told d q), [])) filled.own

module _ (setup key : Setup) (same : key ≡ setup) where
  pub make_as : (id : ℕ) (me : Seated) (d : DeskView) → HasDesk d me → d.made < setup.processes
      → Splits (Kept key) id me.0 (desk_before me.0) (client_made me.0)
  make_as id me d is room =
      subst (λ (y : Setup × Seated). Splits (Kept y.0) id y.1.0 (desk_before y.1.0) (client_made y.1.0)) (λ i. (sym same i, sym is i))
      (may_make setup id d room)

pub join_as : (setup : Setup) (id other : ℕ) (me his : Seated) (d : DeskView) (c : ClientView) → HasDesk d me → HasClient c his
    → Joins (Kept setup) id me.0 other his.0 (joined me.0 his.0) Spent
join_as setup id other me his d c is his_is = grind (arith, common_steps, may_join)

pub joined_is : (me his after : Seated) (d : DeskView) (c : ClientView) → HasDesk d me → HasClient c his
    → after ≡ (joined me.0 his.0, me.1) → HasBoth (met_desk d c) (met_client d c) (before_meeting d c) after
joined_is me his after d c is his_is e = e ∙ (λ i. (joined (is i).0 (his_is i).0, (is i).1))

pub part_as : (setup : Setup) (id : ℕ) (me : Seated) (d : DeskView) (c : ClientView) (before : Before)
    → HasBoth d c before me → Splits (Kept setup) id me.0 (desk_parted me.0) (client_parted me.0)
part_as setup id me d c before is = subst (λ (y : Seated). Splits (Kept setup) id y.0 (desk_parted y.0) (client_parted y.0))
    (sym is) (may_part setup id d c before)

pub parted_is : (me after : Seated) (d : DeskView) (c : ClientView) (before : Before) → HasBoth d c before me
    → after ≡ (desk_parted me.0, me.1) → HasDesk d after
parted_is me after d c before is e = e ∙ (λ i. (desk_parted (is i).0, (is i).1))

pub other_is : (me after : Seated) (d : DeskView) (c : ClientView) (before : Before) → HasBoth d c before me
    → after ≡ (client_parted me.0, []) → HasClient c after
other_is me after d c before is e = e ∙ (λ i. (client_parted (is i).0, []))

pub desk_next : (d : DeskView) (me after : Seated) → HasDesk d me → after ≡ (desk_before me.0, me.1)
    → HasDesk (record d { made = d.made + 1 }) after
desk_next d me after is e = e ∙ (λ i. (desk_before (is i).0, (is i).1))

pub client_next : (d : DeskView) (me after : Seated) → HasDesk d me → after ≡ (client_made me.0, [])
    → HasClient (new_client d.setup (d.made + 1)) after
client_next d me after is e = e ∙ (λ i. (client_made (is i).0, []))

pub look_as : (setup key : Setup) (slots id : ℕ) (me : Seated) → key ≡ setup → (d : DeskView) (p word : ℕ)
    → IsProcess setup.processes p → HasDesk d me → word ≡ index_of setup.processes setup.depth (posted p)
    → Allows (Kept key) slots id me word (λ n. n) (Looks (step slots word 0 0 none) me)
look_as setup key slots id me same d p word l is where_is =
    subst (λ (k : Setup). Allows (Kept k) slots id me word (λ n. n) (Looks (step slots word 0 0 none) me)) (sym same)
    (may_look setup slots id me d word (subst (IsProcess setup.processes) (sym where_is) l) is)

-- what a look tells
pub record HasLooked (d : DeskView) (p found : ℕ) (after : Seated) : Type 0 where
  pub view : HasDesk (desk_looked d p found) after
  pub grows : (tally_at d.tallies p).looked ≤ found
  pub taken : length (requests_taken p d.journal) ≤ found
  pub few : found ≤ N_MAX

pub looked_as : (d : DeskView) (p word slots found : ℕ) (me after : Seated) → word ≡ p → HasDesk d me
    → Looks (step slots word 0 0 none) me found after → HasLooked d p found after
looked_as d p word slots found me after is has told =
    subst (λ (q : ℕ). HasLooked d q found after) is
    (let t = told d has in record { view = t.0; grows = t.1; taken = t.2; few = t.3 })

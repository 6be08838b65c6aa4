-- The steps by which a client collects keep the rule: for `Client::closed` and `Client::collect`.
use Rattle.table_steps.proofs.Common.{common_steps, set-get_or, ◌≡◌, ◌⊎◌, ⊎_elim, ℕ, ◌+◌, ◌<◌, ◌≤◌, Bool, true, false, eq-eqb, List, [], ◌∷◌, ◌++◌, length, get_or, set, refl, sym, ap, ◌∙◌, subst, arith, length-append, append_assoc, some}
use Rattle.table_steps.proofs.Common.{State, Step, keeps, Allows, Reply, Event, IsRun, IsPrefixOf, answers_to, Setup, View, Client, ClientView, DeskView, answer_spelled, ReplyFits, Place, answered, index_of, IsProcess, word_at, tally_at, answer_cell, ClosingAgrees, Agrees, mark_of, Kept, Seated, HasClient}
use Rattle.std.proofs.lemmas.Bool.{eqb-true}
use Rattle.std.specs.Prelude.{◌||◌, ◌&&◌, ◌==◌}
use lib.ListN.{get_elem?}
use Rattle.atomic_table.proofs.Lists.{at_longer}
use Rattle.lock_manager.specs.State as manager
use Rattle.session_core.specs.Mail.{answers_in, answers_from}
use Rattle.table_steps.specs.Steps.{client_found, client_read, client_collected, client_marked, IsSeen, Finds, Gets, Collects, Marks}
use Rattle.table_steps.proofs.Pushing.{some_at, prefix_more, prefix_all}
use Rattle.table_steps.proofs.Frames.{answer_six, requests_same, answers_same, answers_found, closing_same}
use Rattle.table_steps.proofs.Moves.{client_moves}
use Rattle.table_steps.proofs.ClientSteps.{client_is}

-- what a load of a client owes
pub client_loads : (setup : Setup) (s : State (Unit {0}) View) (k : Kept setup s) (id : ℕ) (c now : ClientView) (word : ℕ)
    → get_elem? s.views id ≡ some (Client c)
    → now.process ≡ c.process → now.setup ≡ c.setup
    → (IsProcess setup.processes c.process → Agrees setup.depth c.process (word_at setup.processes setup.depth s.words) k.desk c
    → Agrees setup.depth c.process (word_at setup.processes setup.depth s.words) k.desk now)
    → Kept setup record { words = set s.words word (get_or s.words word 0); homes = s.homes; views = set s.views id (Client now) }
client_loads setup s k id c now word here process told mine =
    let stands = k.stands id (Client c) here in
    subst (λ (words : List ℕ). Kept setup record { words = words; homes = s.homes; views = set s.views id (Client now) })
    (sym (set-get_or s.words word 0))
    (client_moves setup s k id c now s.words here process told refl (λ a t other. refl)
    (λ _ agrees. mine (stands.least, omega (arith, stands.most, k.made_most)) agrees))

-- what holds of the client's process, at the view of its seat
pub mine_at : (setup : Setup) (s : State (Unit {0}) View) (k : Kept setup s) (id : ℕ) (c : ClientView)
    → get_elem? s.views id ≡ some (Client c)
    → Agrees setup.depth c.process (word_at setup.processes setup.depth s.words) k.desk c
mine_at setup s k id c here =
    let stands = k.stands id (Client c) here in
    subst (Agrees setup.depth c.process (word_at setup.processes setup.depth s.words) k.desk) (sym stands.view_is)
    (k.each c.process stands.least (omega (arith, stands.most, k.made_most)))

-- the answers to a process in the front of a journal are the front of its answers
pub answers_front : (p place : ℕ) (H rest : List Event)
    → (more : List (ℕ × Reply × ℕ)) × (answers_from p place (H ++ rest) ≡ answers_from p place H ++ more)
answers_front p place [] rest = (answers_from p place rest, refl)
answers_front p place (x ∷ xs) rest =
    let front = answers_front p (place + 1) xs rest in (
      front.0,
      ap (λ (l : List (ℕ × Reply × ℕ)). answers_in p place x.notes ++ l) front.1
          ∙ sym (append_assoc (answers_in p place x.notes) (answers_from p (place + 1) xs) front.0),
    )

pub drained_by : (a b e : Bool) → (a || (b && e)) ≡ true → (a ≡ true) ⊎ ((b ≡ true) × (e ≡ true))
drained_by a b e h = grind (arith, common_steps)

-- a client that found the desk closed, and then all answers collected, is drained
pub closing_found : {p : ℕ} {journal seen : List Event} {published found looks : ℕ} {closed : Bool} {c : ClientView}
    → found ≡ published
    → ClosingAgrees p journal published closed c
    → ClosingAgrees p journal published closed
    (record c { known = found; seen = seen; drained = c.drained || (c.over && (found == c.collected)); looks = looks })
closing_found {found = found} {c = c} is e =
    let drained = drained_by c.drained c.over (found == c.collected) in
    record {
      all_published = e.all_published;
      over_closed = e.over_closed;
      drained_over = λ h. ⊎_elim e.drained_over (λ (now : (c.over ≡ true) × ((found == c.collected) ≡ true)). now.0) (drained h);
      drained_all = λ h. ⊎_elim e.drained_all
          (λ (now : (c.over ≡ true) × ((found == c.collected) ≡ true)).
          sym (eqb-true found c.collected now.1) ∙ is ∙ e.all_published (e.over_closed now.0)) (drained h);
    }

-- the number of published answers, at the client
finds_agree : (depth p : ℕ) (at : Place → ℕ) (d : DeskView) (c : ClientView) (found : ℕ) → found ≡ at (answered p)
    → Agrees depth p at d c → Agrees depth p at d (client_found c d.journal found)
finds_agree depth p at d c found is g = grind (arith, common_steps, requests_same, answers_found, closing_found)

pub may_find : (setup : Setup) (slots id : ℕ) (me : Seated) (c : ClientView) (word : ℕ) (told : Step (Unit {0})) → HasClient c me
    → word ≡ index_of setup.processes setup.depth (answered c.process)
    → Allows (Kept setup) slots id me word (λ n. n) (Finds told me)
may_find setup slots id me c word told is where_is =
    subst (λ (y : Seated). Allows (Kept setup) slots id y word (λ n. n) (Finds told y)) (sym is)
    (λ s k wide here _.
    let found : ℕ = get_or s.words word 0 in
    let at : Place → ℕ = word_at setup.processes setup.depth s.words in
    let g = mine_at setup s k id c here in
    let stands = k.stands id (Client c) here in
    let found_is : found ≡ at (answered c.process) = ap (λ (i : ℕ). get_or s.words i 0) where_is in
    let published : found ≡ (tally_at k.desk.tallies c.process).published = found_is ∙ g.answers.answered_word in
    let told_is : k.desk.setup ≡ c.setup = sym stands.told in
    let setup_is : setup ≡ c.setup = sym k.told ∙ told_is in (
      Client (client_found c k.desk.journal found),
      keeps,
      tt,
      client_loads setup s k id c (client_found c k.desk.journal found) word here refl refl
          (λ l agrees. finds_agree setup.depth c.process at k.desk c found found_is agrees),
      λ u e. subst (λ (v : ClientView).
          (journal : List Event) × HasClient (client_found v journal found) (Client (client_found c k.desk.journal found), [])
          × IsSeen v journal
          × (v.known ≤ found) × (found ≤ length (answers_to v.process journal)) × (v.over ≡ true
          → found ≡ length (answers_to v.process journal)) × (v.collected ≤ v.known)) (client_is c u e) (
            k.desk.journal,
            refl,
            record {
              run = subst (λ (x : Setup). ∥ ((T : manager.State) × IsRun x.rules x.processes k.desk.journal T) ∥₁) setup_is k.run;
              begins = g.answers.seen;
              taken_in_order = g.requests.in_order;
              in_turn = g.answers.in_turn;
            },
            (let x = g.answers.known_most in omega arith),
            (let x = g.answers.published_most in omega arith),
            (λ over. published ∙ g.closing.all_published (g.closing.over_closed over)),
            g.answers.collected_most,
          ),
    ))

-- the next word of the next answer, which is published
next_word : (depth p : ℕ) (at : Place → ℕ) (d : DeskView) (c : ClientView) → c.collected < c.known
    → length c.read < 6 → Agrees depth p at d c
    → (a : ℕ × Reply × ℕ) × (get_elem? (answers_to p d.journal) c.collected ≡ some a)
    × (get_elem? (answers_to p c.seen) c.collected ≡ some a) × ReplyFits a.1
    × IsPrefixOf (c.read ++ at (answer_cell depth p c.collected (length c.read)) ∷ []) (answer_spelled a.1 a.2)
next_word depth p at d c more few g =
    let t = g.answers in
    let i : ℕ = length c.read in
    let known = t.known_most in
    let seen_known = t.seen_known in
    let next : (a : ℕ × Reply × ℕ) × (get_elem? (answers_to p c.seen) c.collected ≡ some a) =
    some_at (answers_to p c.seen) c.collected (omega arith) in
    let a : ℕ × Reply × ℕ = next.0 in
    let front = answers_front p 1 c.seen t.seen.0 in
    let all : answers_to p d.journal ≡ answers_to p c.seen ++ front.0 = ap (answers_to p) t.seen.1 ∙ front.1 in
    let there : get_elem? (answers_to p d.journal) c.collected ≡ some a =
    subst (λ (l : List (ℕ × Reply × ℕ)). get_elem? l c.collected ≡ some a) (sym all)
    (at_longer (answers_to p c.seen) front.0 c.collected a next.1) in
    let word : (x : ℕ) × (get_elem? (answer_spelled a.1 a.2) i ≡ some x) =
    some_at (answer_spelled a.1 a.2) i (omega (arith, answer_six a.1 a.2)) in
    let low : c.collected ≤ c.collected = omega arith in
    let is : at (answer_cell depth p c.collected i) ≡ word.0 = t.cells c.collected a low (omega arith) there i word.0 word.1 in (
      a,
      there,
      next.1,
      t.fit c.collected a (omega arith) there,
      prefix_more c.read (answer_spelled a.1 a.2)
          (at (answer_cell depth p c.collected i)) (t.reads a there) (word.1 ∙ ap (λ (y : ℕ). some y) (sym is)),
    )

-- a word of the next answer, before the last
gets_agree : (depth p : ℕ) (at : Place → ℕ) (d : DeskView) (c : ClientView) (a : ℕ × Reply × ℕ) (found : ℕ) → c.collected < c.known
    → get_elem? (answers_to p d.journal) c.collected ≡ some a
    → IsPrefixOf (c.read ++ found ∷ []) (answer_spelled a.1 a.2) → Agrees depth p at d c → Agrees depth p at d (client_read c found)
gets_agree depth p at d c a found more there begins g = grind (arith, common_steps, requests_same, closing_same)

-- the last word of the next answer
collects_agree : (depth p : ℕ) (at : Place → ℕ) (d : DeskView) (c : ClientView) → c.collected < c.known → Agrees depth p at d c
    → Agrees depth p at d (client_collected c)
collects_agree depth p at d c more g = grind (arith, common_steps)

pub may_get : (setup : Setup) (slots id : ℕ) (me : Seated) (c : ClientView) (word : ℕ) (told : Step (Unit {0})) → HasClient c me
    → c.collected < c.known → length c.read < 6
    → word ≡ index_of setup.processes setup.depth (answer_cell setup.depth c.process c.collected (length c.read))
    → Allows (Kept setup) slots id me word (λ n. n) (Gets told me)
may_get setup slots id me c word told is more few where_is =
    subst (λ (y : Seated). Allows (Kept setup) slots id y word (λ n. n) (Gets told y)) (sym is)
    (λ s k wide here _.
    let found : ℕ = get_or s.words word 0 in
    let at : Place → ℕ = word_at setup.processes setup.depth s.words in
    let next = next_word setup.depth c.process at k.desk c more few (mine_at setup s k id c here) in
    let begins = subst (λ (x : ℕ). IsPrefixOf (c.read ++ x ∷ []) (answer_spelled next.0.1 next.0.2))
    (ap (λ (i : ℕ). get_or s.words i 0) (sym where_is)) next.4 in (
      Client (client_read c found),
      keeps,
      tt,
      client_loads setup s k id c (client_read c found) word here refl refl
          (λ l agrees. gets_agree setup.depth c.process at k.desk c next.0 found more next.1 begins agrees),
      λ u e. ap (λ (v : ClientView). (Client (client_read v found), [])) (client_is c u e),
    ))

pub may_collect : (setup : Setup) (slots id : ℕ) (me : Seated) (c : ClientView) (word : ℕ) (told : Step (Unit {0})) → HasClient c me
    → c.collected < c.known → length c.read ≡ 5
    → word ≡ index_of setup.processes setup.depth (answer_cell setup.depth c.process c.collected (length c.read))
    → Allows (Kept setup) slots id me word (λ n. n) (Collects told me)
may_collect setup slots id me c word told is more five where_is =
    subst (λ (y : Seated). Allows (Kept setup) slots id y word (λ n. n) (Collects told y)) (sym is)
    (λ s k wide here _.
    let found : ℕ = get_or s.words word 0 in
    let at : Place → ℕ = word_at setup.processes setup.depth s.words in
    let g = mine_at setup s k id c here in
    let next = next_word setup.depth c.process at k.desk c more (omega arith) g in
    let begins = subst (λ (x : ℕ). IsPrefixOf (c.read ++ x ∷ []) (answer_spelled next.0.1 next.0.2))
    (ap (λ (i : ℕ). get_or s.words i 0) (sym where_is)) next.4 in
    let whole : c.read ++ found ∷ [] ≡ answer_spelled next.0.1 next.0.2 =
    prefix_all (c.read ++ found ∷ []) (answer_spelled next.0.1 next.0.2) begins (length-append c.read (found ∷ [])
    ∙ ap (λ (n : ℕ). n + 1) five ∙ sym (answer_six next.0.1 next.0.2)) in
    let below : c.collected < length c.posted =
    (let x = g.answers.known_most in let y = g.answers.published_most in let z = g.answers.in_turn.most in
    let v = g.requests.looked_least in let w = g.requests.looked_most in omega arith) in (
      Client (client_collected c),
      keeps,
      tt,
      client_loads setup s k id c (client_collected c) word here refl refl
          (λ l agrees. collects_agree setup.depth c.process at k.desk c more agrees),
      λ u e. subst (λ (v : ClientView).
          HasClient (client_collected v) (Client (client_collected c), [])
          × ((a : ℕ × Reply × ℕ) × (get_elem? (answers_to v.process v.seen) v.collected ≡ some a) × ReplyFits a.1
          × (v.read ++ found ∷ [] ≡ answer_spelled a.1 a.2))
          × (v.collected < length v.posted)) (client_is c u e)
          (refl, (next.0, next.2, next.3, whole), below),
    ))

-- the closing mark, at the client
marks_agree : (depth p : ℕ) (at : Place → ℕ) (d : DeskView) (c : ClientView) (found : ℕ) → (found ≡ 1 → d.closed ≡ true)
    → (d.closed ≡ true → found ≡ 1) → Agrees depth p at d c → Agrees depth p at d (client_marked c found)
marks_agree depth p at d c found one closed g = grind (arith, common_steps, requests_same, answers_same, eqb-true, eq-eqb)

mark_is : (b : Bool) → mark_of b ≡ 1 → b ≡ true
mark_is true h = refl
mark_is false h = absurd (omega arith)

pub may_mark : (setup : Setup) (slots id : ℕ) (me : Seated) (c : ClientView) (told : Step (Unit {0})) → HasClient c me
    → Allows (Kept setup) slots id me 0 (λ n. n) (Marks told me)
may_mark setup slots id me c told is =
    subst (λ (y : Seated). Allows (Kept setup) slots id y 0 (λ n. n) (Marks told y)) (sym is)
    (λ s k wide here _.
    let found : ℕ = get_or s.words 0 0 in
    let at : Place → ℕ = word_at setup.processes setup.depth s.words in
    let g = mine_at setup s k id c here in
    let one : found ≡ 1 → k.desk.closed ≡ true = λ h. mark_is k.desk.closed (sym k.marked ∙ h) in
    let closed : k.desk.closed ≡ true → found ≡ 1 = λ h. k.marked ∙ ap mark_of h in (
      Client (client_marked c found),
      keeps,
      tt,
      client_loads setup s k id c (client_marked c found) 0 here refl refl (λ l agrees. marks_agree setup.depth c.process at k.desk
          c found one closed agrees),
      λ u e. subst (λ (v : ClientView). HasClient (client_marked v found) (Client (client_marked c found), []) × (v.over ≡ true
          → found ≡ 1)) (client_is c u e)
          (refl, λ over. closed (g.closing.over_closed over)),
    ))

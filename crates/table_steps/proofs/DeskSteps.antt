-- The steps by which the desk looks and reads keep the rule: for `look`.
use Rattle.table_steps.proofs.Common.{common_steps, set-get_or, ◌≡◌, ℕ, ◌<◌, ◌≤◌, List, [], ◌∷◌, ◌++◌, length, get_or, set, refl, sym, ap, ◌∙◌, subst, arith, ℕ_discrete, dite, some, none}
use Rattle.table_steps.proofs.Common.{State, Step, keeps, Allows, Request, IsPrefixOf, requests_taken, Setup, View, Desk, ClientView, DeskView, Tally, request_spelled, RequestFits, Place, posted, index_of, IsProcess, word_at, desk_of, tally_at, request_cell, Agrees, Kept, mark_of, Seated, HasDesk, desk_looked, IsRunOf}
use lib.ListN.{get_elem?}
use Rattle.atomic_table.specs.Table.{step}
use Rattle.table_steps.specs.Steps.{desk_read, Looks, Reads}
use Rattle.table_steps.proofs.Pushing.{some_at, prefix_more, tally_here, tally_else}
use Rattle.table_steps.proofs.Frames.{request_six, desk_stays}
use Rattle.table_steps.proofs.Moves.{desk_moves}

-- what a load of the desk owes
pub desk_loads : (setup : Setup) (s : State (Unit {0}) View) (k : Kept setup s) (id : ℕ) (d now : DeskView) (word : ℕ)
    → get_elem? s.views id ≡ some (Desk d)
    → now.made ≡ d.made → now.setup ≡ d.setup → now.journal ≡ d.journal → now.closed ≡ d.closed
    → ((p : ℕ) → IsProcess setup.processes p → Agrees setup.depth p (word_at setup.processes setup.depth s.words) d (k.clients p)
    → Agrees setup.depth p (word_at setup.processes setup.depth s.words) now (k.clients p))
    → Kept setup record { words = set s.words word (get_or s.words word 0); homes = s.homes; views = set s.views id (Desk now) }
desk_loads setup s k id d now word here made told journal closed each =
    subst (λ (words : List ℕ). Kept setup record { words = words; homes = s.homes; views = set s.views id (Desk now) })
    (sym (set-get_or s.words word 0))
    (desk_moves setup s k id d now s.words here made told refl
    (λ run. subst (IsRunOf setup) (sym journal) run) (λ marked. marked ∙ ap mark_of (sym closed))
    (λ p a b agrees. each p (a, b) agrees))

pub desk_is : (d u : DeskView) → HasDesk u (Desk d, []) → d ≡ u
desk_is d u e = ap (λ (m : Seated). desk_of m.0) e

-- a look: the number of posted requests of process p, at the client that posted them
looks_agree : (depth p : ℕ) (at : Place → ℕ) (d : DeskView) (c : ClientView) (found : ℕ) → found ≡ at (posted p)
    → Agrees depth p at d c → Agrees depth p at (desk_looked d p found) c
looks_agree depth p at d c found is g = grind (arith, common_steps, tally_here)

-- what holds of a process, at the view of the desk's seat
pub agrees_at : (setup : Setup) (s : State (Unit {0}) View) (k : Kept setup s) (id : ℕ) (d : DeskView)
    → get_elem? s.views id ≡ some (Desk d)
    → (p : ℕ) → IsProcess setup.processes p → Agrees setup.depth p (word_at setup.processes setup.depth s.words) d (k.clients p)
agrees_at setup s k id d here p l =
    let mine_is = k.stands id (Desk d) here in
    subst (λ (x : DeskView). Agrees setup.depth p (word_at setup.processes setup.depth s.words) x (k.clients p))
    (sym mine_is.view_is) (k.each p l.0 l.1)

pub may_look : (setup : Setup) (slots id : ℕ) (me : Seated) (d : DeskView) (word : ℕ)
    → IsProcess setup.processes word → HasDesk d me
    → Allows (Kept setup) slots id me word (λ n. n) (Looks (step slots word 0 0 none) me)
may_look setup slots id me d word l is =
    subst (λ (y : Seated). Allows (Kept setup) slots id y word (λ n. n) (Looks (step slots word 0 0 none) y)) (sym is)
    (λ s k wide here _.
    let found : ℕ = get_or s.words word 0 in
    let g = agrees_at setup s k id d here word l in
    let all = g.requests.posted_word in
    let least = g.requests.looked_least in let most = g.requests.looked_most in (
      Desk (desk_looked d word found),
      keeps,
      tt,
      desk_loads setup s k id d (desk_looked d word found) word here refl refl refl refl
          (λ q a agrees. dite (ℕ_discrete q word)
          (λ e. subst (λ (x : ℕ). Agrees setup.depth x (word_at setup.processes setup.depth s.words)
          (desk_looked d word found) (k.clients x)) (sym e)
          (looks_agree setup.depth word (word_at setup.processes setup.depth s.words) d (k.clients word) found refl g))
          (λ n. desk_stays setup.depth q (word_at setup.processes setup.depth s.words) d (desk_looked d word found) (k.clients q)
          refl refl
          (ap (λ (t : Tally). t.looked) (tally_else d.tallies word q _ n))
          (ap (λ (t : Tally). t.published) (tally_else d.tallies word q _ n))
          (λ e. absurd (n (sym e))) (λ _. refl) agrees)),
      λ u e. let same = desk_is d u e in (
        ap (λ (v : DeskView). (Desk (desk_looked v word found), [])) same,
        subst (λ (v : DeskView). (tally_at v.tallies word).looked ≤ found) same (omega arith),
        subst (λ (v : DeskView). length (requests_taken word v.journal) ≤ found) same (omega arith),
        (let few = g.requests.few in omega arith),
      ),
    ))

-- a read: a word of the next untaken request of process p
reads_agree : (depth p : ℕ) → 1 ≤ p → (at : Place → ℕ) (d : DeskView) (c : ClientView) (r : Request) (found : ℕ) → d.reading.0 ≡ p
    → get_elem? c.posted (length (requests_taken p d.journal)) ≡ some r
    → IsPrefixOf (d.reading.1 ++ found ∷ []) (request_spelled r)
    → length (requests_taken p d.journal) < (tally_at d.tallies p).looked
    → Agrees depth p at d c → Agrees depth p at (desk_read d found) c
reads_agree depth p l at d c r found mine next begins some_left g = grind (arith, common_steps)

-- the next untaken request of a process of which more was seen than taken, and its word that is next to be read
next_word : (depth p : ℕ) (at : Place → ℕ) (d : DeskView) (c : ClientView) → d.reading.0 ≡ p
    → length (requests_taken p d.journal) < (tally_at d.tallies p).looked → length d.reading.1 < 6
    → Agrees depth p at d c
    → (r : Request) × (get_elem? c.posted (length (requests_taken p d.journal)) ≡ some r) × RequestFits r
    × IsPrefixOf (d.reading.1 ++ at (request_cell depth p (length (requests_taken p d.journal)) (length d.reading.1)) ∷ [])
    (request_spelled r)
next_word depth p at d c mine some_left few g =
    let q = g.requests in
    let n : ℕ = length (requests_taken p d.journal) in
    let i : ℕ = length d.reading.1 in
    let most = q.looked_most in
    let next : (r : Request) × (get_elem? c.posted n ≡ some r) = some_at c.posted n (omega arith) in
    let r : Request = next.0 in
    let word : (x : ℕ) × (get_elem? (request_spelled r) i ≡ some x) =
    some_at (request_spelled r) i (omega (arith, request_six r)) in
    let is : at (request_cell depth p n i) ≡ word.0 = q.cells n r (let h : n ≤ n = omega arith in h) next.1 i word.0 word.1 in (
      r,
      next.1,
      q.fit n r next.1,
      prefix_more d.reading.1 (request_spelled r) (at (request_cell depth p n i))
          (q.reads mine r next.1) (word.1 ∙ ap (λ (y : ℕ). some y) (sym is)),
    )

pub may_read : (setup : Setup) (slots id : ℕ) (me : Seated) (d : DeskView) (p word : ℕ) (told : Step (Unit {0}))
    → IsProcess setup.processes p → HasDesk d me → d.reading.0 ≡ p
    → length (requests_taken p d.journal) < (tally_at d.tallies p).looked → length d.reading.1 < 6
    → word ≡ index_of setup.processes setup.depth
    (request_cell setup.depth p (length (requests_taken p d.journal)) (length d.reading.1))
    → Allows (Kept setup) slots id me word (λ n. n) (Reads told me)
may_read setup slots id me d p word told l is mine some_left few where_is =
    subst (λ (y : Seated). Allows (Kept setup) slots id y word (λ n. n) (Reads told y)) (sym is)
    (λ s k wide here _.
    let found : ℕ = get_or s.words word 0 in
    let at : Place → ℕ = word_at setup.processes setup.depth s.words in
    let g = agrees_at setup s k id d here p l in
    let next = next_word setup.depth p at d (k.clients p) mine some_left few g in
    let same : at (request_cell setup.depth p (length (requests_taken p d.journal)) (length d.reading.1)) ≡ found =
    ap (λ (i : ℕ). get_or s.words i 0) (sym where_is) in
    let begins : IsPrefixOf (d.reading.1 ++ found ∷ []) (request_spelled next.0) =
    subst (λ (x : ℕ). IsPrefixOf (d.reading.1 ++ x ∷ []) (request_spelled next.0)) same next.3 in (
      Desk (desk_read d found),
      keeps,
      tt,
      desk_loads setup s k id d (desk_read d found) word here refl refl refl refl
          (λ q a agrees. dite (ℕ_discrete q p)
          (λ e. subst (λ (x : ℕ). Agrees setup.depth x at (desk_read d found) (k.clients x)) (sym e)
          (reads_agree setup.depth p l.0 at d (k.clients p) next.0 found mine next.1 begins some_left g))
          (λ n. desk_stays setup.depth q at d (desk_read d found) (k.clients q) refl refl refl refl
          (λ e. absurd (n (sym e ∙ mine))) (λ _. refl) agrees)),
      λ u e. let same_desk = desk_is d u e in (
        ap (λ (v : DeskView). (Desk (desk_read v found), [])) same_desk,
        (
          next.0,
          next.2,
          subst (λ (v : DeskView). IsPrefixOf (v.reading.1 ++ found ∷ []) (request_spelled next.0)) same_desk
              begins,
        ),
      ),
    ))

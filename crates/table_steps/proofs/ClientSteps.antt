-- The steps by which a client posts keep the rule: for `fill` and `Client::post`.
use Rattle.table_steps.proofs.Common.{◌≡◌, ◌≢◌, ⊎_elim, ℕ, ◌+◌, ◌%◌, ◌<◌, ◌≤◌, List, [], ◌∷◌, ◌++◌, length, set, refl, sym, ap, ◌∙◌, subst, arith, length-append, length-set, append_assoc, mod-lt, some, some-ne-none}
use Rattle.table_steps.proofs.Common.{State, Step, keeps, Allows, Request, requests_taken, Setup, View, Client, ClientView, DeskView, request_spelled, RequestFits, Place, posted, taken, answered, request, answer, index_of, IsPlace, IsProcess, owner_of, word_at, client_of, tally_at, CellHas, request_cell, Agrees, Kept, Seated, HasClient, client_posted}
use lib.ListN.{get_elem?}
use Rattle.session_core.specs.declared.TheConstants.{N_MAX}
use Rattle.table_steps.specs.Steps.{client_filled, Fills, Posts}
use Rattle.table_steps.proofs.PlacesLaws.{stored_here, stored_else}
use Rattle.table_steps.proofs.Pushing.{at_push, other_cell, prefix_none}
use Rattle.table_steps.proofs.Frames.{before_length, request_six, request_cell_stays, answers_stay, answers_same, closing_same}
use Rattle.table_steps.proofs.Moves.{client_moves}

-- what a step of a client owes: whatever the words of the process and the view of the desk are, a new word at this place keeps what
-- holds of the process
module _ (setup : Setup) (s : State (Unit {0}) View) (k : Kept setup s) (id : ℕ) (c now : ClientView) (a : Place) (x : ℕ)
    (here : get_elem? s.views id ≡ some (Client c)) (process : now.process ≡ c.process) (told : now.setup ≡ c.setup) where
  abbrev P : ℕ
  P = setup.processes

  abbrev d : ℕ
  d = setup.depth

  abbrev p : ℕ
  p = c.process

  -- a store at a place of the client's own process
  pub client_stores : IsPlace P d a → owner_of a ≡ p
      → (IsProcess P p → (at now_at : Place → ℕ) → now_at a ≡ x → ((b : Place) → IsPlace P d b → b ≢ a → now_at b ≡ at b)
      → Agrees d p at k.desk c → Agrees d p now_at k.desk now)
      → Kept setup record { words = set s.words (index_of P d a) x; homes = s.homes; views = set s.views id (Client now) }
  client_stores is own mine =
      let stands = k.stands id (Client c) here in
      client_moves setup s k id c now (set s.words (index_of P d a) x) here process told (length-set s.words (index_of P d a) x)
      (λ b t other. stored_else P d s.words a b x is t (λ e. other (ap owner_of e ∙ own)))
      (λ _ agrees. mine (stands.least, omega (arith, stands.most, k.made_most)) (word_at P d s.words)
      (word_at P d (set s.words (index_of P d a) x))
      (stored_here P d s.words a x k.wide is) (λ b t other. stored_else P d s.words a b x is t other) agrees)

-- a word of the cell of the next request
fills_agree : (P d p : ℕ) → IsProcess P p → 1 ≤ d → (at now : Place → ℕ) (desk : DeskView) (c : ClientView) (x : ℕ)
    → length c.posted < c.collected + d → length c.filled < 6
    → now (request_cell d p (length c.posted) (length c.filled)) ≡ x
    → ((b : Place) → IsPlace P d b → b ≢ request_cell d p (length c.posted) (length c.filled) → now b ≡ at b)
    → Agrees d p at desk c → Agrees d p now desk (client_filled c x)
fills_agree P d p l deep at now desk c x room few stored else r =
    let q = r.requests in let t = r.answers in
    let requests : List Request = requests_taken p desk.journal in
    let cell : ℕ = length c.posted % d in
    let word : ℕ = length c.filled in
    let t1 = t.collected_most in let t2 = t.known_most in let t3 = t.published_most in let t4 = t.in_turn.most in
    record {
      requests = record {
        posted_word = else (posted p) l (λ e. cc) ∙ q.posted_word;
        taken_word = else (taken p) l (λ e. cc) ∙ q.taken_word;
        in_order = q.in_order;
        looked_least = q.looked_least;
        looked_most = q.looked_most;
        fit = q.fit;
        cells = λ before y h e i z at_i.
            let below = before_length c.posted before y e in
            let near = before_length (request_spelled y) i z at_i in
            let apart : before % d ≢ cell = other_cell before (length c.posted) d below (omega arith) in
            else (request p (before % d) i) (l, mod-lt before deep, omega (arith, request_six y)) (λ e'. apart (cc))
            ∙ q.cells before y h e i z at_i;
        few = q.few;
        room = q.room;
        filled = λ i z at_i. ⊎_elim
            (λ (old : get_elem? c.filled i ≡ some z). let near = before_length c.filled i z old in
            else (request p cell i) (l, mod-lt (length c.posted) deep, omega arith) (λ e. let same : i ≡ word = cc in
            absurd (omega arith)) ∙ q.filled i z old)
            (λ (new : (i ≡ word) × (x ≡ z)). ap (λ (j : ℕ). now (request p cell j)) new.0 ∙ stored ∙ new.1)
            (at_push c.filled x z i at_i);
        filled_most = omega (arith, length-append c.filled (x ∷ []));
        reads = q.reads;
        reads_some = q.reads_some;
      };
      answers = answers_same (answers_stay d p deep at now (else (answered p) l (λ e. cc))
          (λ b i h j. else (answer p b i) (l, h, j) (λ e. cc))
          desk.journal (tally_at desk.tallies p).published desk.filling c t);
      closing = closing_same r.closing;
    }

-- the number of posted requests
posts_agree : (P d p : ℕ) → IsProcess P p → 1 ≤ d → (at now : Place → ℕ) (desk : DeskView) (c : ClientView) (r : Request) (x : ℕ)
    → length c.posted < c.collected + d → length c.posted < N_MAX → x ≡ length c.posted + 1 → RequestFits r
    → request_spelled r ≡ c.filled
    → now (posted p) ≡ x
    → ((b : Place) → IsPlace P d b → b ≢ posted p → now b ≡ at b)
    → Agrees d p at desk c → Agrees d p now desk (client_posted c r)
posts_agree P d p l deep at now desk c r x room few number fits spelled stored else g =
    let q = g.requests in
    let requests : List Request = requests_taken p desk.journal in
    let longer : length (c.posted ++ r ∷ []) ≡ length c.posted + 1 = length-append c.posted (r ∷ []) in
    let cells_same : (b i : ℕ) → b < d → i < 6 → now (request p b i) ≡ at (request p b i) =
    λ b i h j. else (request p b i) (l, h, j) (λ e. cc) in
    record {
      requests = record {
        posted_word = stored ∙ number ∙ sym longer;
        taken_word = else (taken p) l (λ e. cc) ∙ q.taken_word;
        in_order = (
          q.in_order.0 ++ r ∷ [],
          ap (λ (l : List Request). l ++ r ∷ []) q.in_order.1
              ∙ append_assoc requests q.in_order.0 (r ∷ []),
        );
        looked_least = q.looked_least;
        looked_most = let m = q.looked_most in omega arith;
        fit = λ before y e. ⊎_elim
            (λ (old : get_elem? c.posted before ≡ some y). q.fit before y old)
            (λ (new : (before ≡ length c.posted) × (r ≡ y)). subst RequestFits new.1 fits)
            (at_push c.posted r y before e);
        cells = λ before y h e. ⊎_elim
            (λ (old : get_elem? c.posted before ≡ some y).
            request_cell_stays d p deep at now cells_same before (request_spelled y) (omega (arith, request_six y))
            (q.cells before y h old))
            (λ (new : (before ≡ length c.posted) × (r ≡ y)).
            request_cell_stays d p deep at now cells_same before (request_spelled y) (omega (arith, request_six y))
            (subst (λ (z : ℕ × List ℕ). CellHas at (request_cell d p z.0) z.1)
            (λ i. (sym new.0 i, (sym spelled ∙ ap request_spelled new.1) i)) q.filled))
            (at_push c.posted r y before e);
        few = omega arith;
        room = omega arith;
        filled = λ i z e. absurd (some-ne-none z (sym e));
        filled_most = omega arith;
        reads = λ e y h. ⊎_elim
            (λ (old : get_elem? c.posted (length requests) ≡ some y). q.reads e y old)
            (λ (new : (length requests ≡ length c.posted) × (r ≡ y)). prefix_none desk.reading.1 (request_spelled y)
            (λ some_read. let m = q.reads_some e some_read in let n = q.looked_most in omega arith))
            (at_push c.posted r y (length requests) h);
        reads_some = q.reads_some;
      };
      answers = answers_same (answers_stay d p deep at now (else (answered p) l (λ e. cc))
          (λ b i h j. else (answer p b i) (l, h, j) (λ e. cc))
          desk.journal (tally_at desk.tallies p).published desk.filling c g.answers);
      closing = closing_same g.closing;
    }

pub client_is : (c u : ClientView) → HasClient u (Client c, []) → c ≡ u
client_is c u e = ap (λ (m : Seated). client_of m.0) e

-- a word may be filled in
pub may_fill : (setup : Setup) (slots id : ℕ) (me : Seated) (c : ClientView) (word x : ℕ) (step : Step (Unit {0})) → HasClient c me
    → length c.posted < c.collected + setup.depth → length c.filled < 6
    → word ≡ index_of setup.processes setup.depth (request_cell setup.depth c.process (length c.posted) (length c.filled))
    → Allows (Kept setup) slots id me word (λ _. x) (λ _. Fills step me x)
may_fill setup slots id me c word x step is room few where_is =
    subst (λ (y : Seated × ℕ). Allows (Kept setup) slots id y.0 y.1 (λ _. x) (λ _. Fills step y.0 x))
    (λ i. (sym is i, sym where_is i))
    (λ s k wide here _. (
      Client (client_filled c x),
      keeps,
      tt,
      (let stands = k.stands id (Client c) here in
          client_stores setup s k id c (client_filled c x) (request_cell setup.depth c.process (length c.posted) (length c.filled))
          x here refl refl
          ((stands.least, omega (arith, stands.most, k.made_most)), mod-lt (length c.posted) k.deep, few) refl
          (λ l at now stored else agrees. fills_agree setup.processes setup.depth c.process l k.deep at now k.desk c x room
          few stored else agrees)),
      λ u e. ap (λ (v : ClientView). (Client (client_filled v x), [])) (client_is c u e),
    ))

-- the number of posted requests may be stored
pub may_post : (setup : Setup) (slots id : ℕ) (me : Seated) (c : ClientView) (r : Request) (word x : ℕ) (step : Step (Unit {0}))
    → HasClient c me
    → length c.posted < c.collected + setup.depth → length c.posted < N_MAX → x ≡ length c.posted + 1 → RequestFits r
    → request_spelled r ≡ c.filled
    → word ≡ index_of setup.processes setup.depth (posted c.process)
    → Allows (Kept setup) slots id me word (λ _. x) (λ _. Posts step me x)
may_post setup slots id me c r word x step is room few number fits spelled where_is =
    subst (λ (y : Seated × ℕ). Allows (Kept setup) slots id y.0 y.1 (λ _. x) (λ _. Posts step y.0 x))
    (λ i. (sym is i, sym where_is i))
    (λ s k wide here _. (
      Client (client_posted c r),
      keeps,
      tt,
      (let stands = k.stands id (Client c) here in
          client_stores setup s k id c (client_posted c r) (posted c.process) x here refl refl
          (stands.least, omega (arith, stands.most, k.made_most)) refl
          (λ l at now stored else agrees. posts_agree setup.processes setup.depth c.process l k.deep at now k.desk c r x room few
          number fits spelled stored else agrees)),
      λ u e. let same = client_is c u e in (
        r,
        fits,
        spelled ∙ ap (λ (v : ClientView). v.filled) same,
        ap (λ (v : ClientView). (Client (client_posted v r), [])) same,
      ),
    ))

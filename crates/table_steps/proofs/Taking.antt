-- The step by which the desk takes a request keeps the rule: for `Desk::close`, `find_next`, `publish_for` and others.
use Rattle.table_steps.proofs.Common.{common_steps, ◌≡◌, ◌≢◌, ℕ, ◌+◌, ◌<◌, ◌≤◌, true, false, eq-eqb, List, [], ◌∷◌, ◌++◌, length, set, refl, sym, ap, ◌∙◌, subst, arith, length-append, length-set, append-nil, ℕ_discrete, dite, some}
use Rattle.table_steps.proofs.Common.{Step, keeps, Allows, Request, Reply, Event, IsRun, IsPrefixOf, requests_taken, answers_to, Setup, Desk, ClientView, DeskView, Tally, request_spelled, answer_spelled, RequestFits, Place, mark, posted, taken, answered, request, answer, index_of, IsPlace, IsProcess, word_at, tally_at, RequestsAgree, AnswersAgree, ClosingAgrees, Kept, Seated, HasDesk, AreInTurn}
use Rattle.std.proofs.lemmas.List.Elements.{filter-append}
use Rattle.std.proofs.Common.{true≢false}
use Rattle.std.proofs.lemmas.List.{map-append}
use Rattle.std.proofs.Math.Decide.{dec_lt}
use lib.ListN.{get_elem?}
use Rattle.lock_manager.specs.State as manager
use Rattle.table_steps.specs.Rule.{BeginsRequest}
use Rattle.table_steps.specs.Steps.{desk_took, Takes}
use Rattle.table_steps.proofs.SpellingLaws.{one_request}
use Rattle.table_steps.proofs.PlacesLaws.{stored_here, stored_else}
use Rattle.table_steps.proofs.Pushing.{some_at, at_front, prefix_more, prefix_all, prefix_longer, prefix_none}
use Rattle.table_steps.proofs.Frames.{request_six, answer_six, requests_stay, request_cell_stays, answer_cell_stays}
use Rattle.table_steps.proofs.Moves.{desk_moves}
use Rattle.table_steps.proofs.DeskSteps.{desk_is}
use Rattle.table_steps.proofs.Collecting.{answers_front}

-- what one more event adds to the requests of a process that were taken
pub taken_here : (p : ℕ) (H : List Event) (e : Event) → e.p ≡ p
    → requests_taken p (H ++ e ∷ []) ≡ requests_taken p H ++ e.request ∷ []
taken_here p H e is = grind (arith, common_steps, filter-append, eq-eqb, map-append)

pub taken_else : (p : ℕ) (H : List Event) (e : Event) → e.p ≢ p → requests_taken p (H ++ e ∷ []) ≡ requests_taken p H
taken_else p H e other = grind (arith, common_steps, filter-append, append-nil)

module _ (depth p : ℕ) (l : 1 ≤ p) (deep : 1 ≤ depth) (at now : Place → ℕ) (d : DeskView) (c : ClientView) (e : Event)
    (cells_same : (cell i : ℕ) → cell < depth → i < 6 → now (request p cell i) ≡ at (request p cell i))
    (answers_same : (cell i : ℕ) → cell < depth → i < 6 → now (answer p cell i) ≡ at (answer p cell i))
    (in_turn : AreInTurn p (d.journal ++ e ∷ [])) where
  abbrev H : List Event
  H = d.journal

  abbrev longer : List Event
  longer = d.journal ++ e ∷ []

  t : Tally
  t = tally_at d.tallies p

  -- where no words are read, what was read counts for nothing
  requests_unread : (requests : List Request) → RequestsAgree depth p now requests (tally_at d.tallies p).looked d.reading c
      → RequestsAgree depth p now requests (tally_at d.tallies p).looked (0, []) c
  requests_unread requests q =
      let reads : 0 ≡ p → BeginsRequest [] c.posted (length requests) = λ is. absurd (omega arith) in
      let reads_some : 0 ≡ p → 0 < 0 → length requests < (tally_at d.tallies p).looked = λ is. absurd (omega arith) in
      assumption (q, reads, reads_some)

  -- another process' request was taken
  pub requests_else : e.p ≢ p → now (posted p) ≡ at (posted p) → now (taken p) ≡ at (taken p)
      → RequestsAgree depth p at (requests_taken p H) (tally_at d.tallies p).looked d.reading c
      → RequestsAgree depth p now (requests_taken p longer) (tally_at d.tallies p).looked (0, []) c
  requests_else other posted_same taken_same q =
      subst (λ (x : List Request). RequestsAgree depth p now x (tally_at d.tallies p).looked (0, []) c) (sym (taken_else p H e other))
      (requests_unread (requests_taken p H)
      (requests_stay depth p deep at now posted_same taken_same cells_same (requests_taken p H) (tally_at d.tallies p).looked d.reading c q))

  -- the next request of the process was taken: it is the one that was read
  pub requests_here : e.p ≡ p → d.reading.0 ≡ p → d.reading.1 ≡ request_spelled e.request → RequestFits e.request
      → now (posted p) ≡ at (posted p) → now (taken p) ≡ length (requests_taken p H) + 1
      → RequestsAgree depth p at (requests_taken p H) (tally_at d.tallies p).looked d.reading c
      → RequestsAgree depth p now (requests_taken p longer) (tally_at d.tallies p).looked (0, []) c
  requests_here is mine spelled fits posted_same stored q =
      let n : ℕ = length (requests_taken p H) in
      let some_read : 0 < length d.reading.1 = omega (arith, ap (λ (x : List ℕ). length x) spelled, request_six e.request) in
      let left : n < (tally_at d.tallies p).looked = q.reads_some mine some_read in
      let most = q.looked_most in
      let next = some_at c.posted n (omega arith) in
      let whole : request_spelled e.request ≡ request_spelled next.0 =
      prefix_all (request_spelled e.request) (request_spelled next.0) (subst (λ (x : List ℕ). IsPrefixOf x (request_spelled next.0))
      spelled (q.reads mine next.0 next.1)) (request_six e.request ∙ sym (request_six next.0)) in
      let same : e.request ≡ next.0 = one_request e.request next.0 fits (q.fit n next.0 next.1) whole in
      let more : length (requests_taken p H ++ e.request ∷ []) ≡ n + 1 = length-append (requests_taken p H) (e.request ∷ []) in
      subst (λ (x : List Request). RequestsAgree depth p now x (tally_at d.tallies p).looked (0, []) c)
      (sym (taken_here p H e is)) record {
        posted_word = posted_same ∙ q.posted_word;
        taken_word = stored ∙ sym more;
        in_order = prefix_more (requests_taken p H) c.posted e.request q.in_order (next.1
            ∙ ap (λ (r : Request). some r) (sym same));
        looked_least = omega arith;
        looked_most = q.looked_most;
        fit = q.fit;
        cells = λ before x h f. request_cell_stays depth p deep at now cells_same before (request_spelled x)
            (omega (arith, request_six x)) (q.cells before x (omega arith) f);
        few = q.few;
        room = q.room;
        filled = request_cell_stays depth p deep at now cells_same (length c.posted) c.filled q.filled_most q.filled;
        filled_most = q.filled_most;
        reads = λ is. absurd (omega arith);
        reads_some = λ is. absurd (omega arith);
      }

  -- the answers to the process grew, and none was published
  pub answers_here : now (answered p) ≡ at (answered p) → AnswersAgree depth p at H (tally_at d.tallies p).published d.filling c
      → AnswersAgree depth p now longer (tally_at d.tallies p).published d.filling c
  answers_here answered_same g =
      let grow = answers_front p 1 H (e ∷ []) in
      let total : length (answers_to p longer) ≡ length (answers_to p H) + length grow.0 =
      ap (λ (x : List (ℕ × Reply × ℕ)). length x) grow.1 ∙ length-append (answers_to p H) grow.0 in
      let front : (i : ℕ) (a : ℕ × Reply × ℕ) → i < length (answers_to p H) → get_elem? (answers_to p longer) i ≡ some a
      → get_elem? (answers_to p H) i ≡ some a =
      λ i a h f. at_front (answers_to p H) grow.0 i a h (subst (λ (x : List (ℕ × Reply × ℕ)). get_elem? x i ≡ some a) grow.1 f) in
      let published = g.published_most in
      record {
        answered_word = answered_same ∙ g.answered_word;
        collected_most = g.collected_most;
        known_most = g.known_most;
        published_most = omega arith;
        in_turn = in_turn;
        fit = λ before a h f. g.fit before a h (front before a (omega arith) f);
        cells = λ before a h k f. answer_cell_stays depth p deep at now answers_same before (answer_spelled a.1 a.2)
            (omega (arith, answer_six a.1 a.2)) (g.cells before a h k (front before a (omega arith) f));
        seen = prefix_longer c.seen H (e ∷ []) g.seen;
        seen_known = g.seen_known;
        reads = λ a f. dite (dec_lt 0 (length c.read))
            (λ some_read. let low = g.reads_known some_read in let high = g.known_most in
            g.reads a (front c.collected a (omega arith) f))
            (λ none_read. prefix_none c.read (answer_spelled a.1 a.2) none_read);
        reads_known = g.reads_known;
        filled = λ is. answer_cell_stays depth p deep at now answers_same (tally_at d.tallies p).published d.filling.1
            (g.filled_most is) (g.filled is);
        fills = λ is a f. g.fills is a (front (tally_at d.tallies p).published a (g.fills_some is) f);
        filled_most = g.filled_most;
        fills_some = λ is. let some_left = g.fills_some is in omega arith;
      }

  -- the desk was not closed
  pub closing_here : d.closed ≡ false → ClosingAgrees p H (tally_at d.tallies p).published d.closed c
      → ClosingAgrees p longer (tally_at d.tallies p).published d.closed c
  closing_here live g =
      let never : d.closed ≡ true → ⊥ = λ closed. true≢false (sym closed ∙ live) in
      record {
        all_published = λ closed. absurd (never closed);
        over_closed = g.over_closed;
        drained_over = g.drained_over;
        drained_all = λ drained. absurd (never (g.over_closed (g.drained_over drained)));
      }

-- the number of taken requests of process p may be stored: the one event of the journal
pub may_take : (setup : Setup) (slots id : ℕ) (me : Seated) (d : DeskView) (p word x : ℕ) (e : Event) (told : Step (Unit {0}))
    → IsProcess setup.processes p → HasDesk d me
    → d.closed ≡ false → d.reading.0 ≡ p → d.reading.1 ≡ request_spelled e.request → RequestFits e.request → e.p ≡ p
    → x ≡ length (requests_taken p d.journal) + 1
    → ∥ ((T : manager.State) × IsRun setup.rules setup.processes (d.journal ++ e ∷ []) T) ∥₁
    → ((q : ℕ) → IsProcess setup.processes q → AreInTurn q (d.journal ++ e ∷ []))
    → word ≡ index_of setup.processes setup.depth (taken p)
    → Allows (Kept setup) slots id me word (λ _. x) (λ _. Takes e told me x)
may_take setup slots id me d p word x e told l is live mine spelled fits process number run in_turn where_is =
    subst (λ (y : Seated × ℕ). Allows (Kept setup) slots id y.0 y.1 (λ _. x) (λ _. Takes e told y.0 x))
    (λ i. (sym is i, sym where_is i))
    (λ s k wide here _.
    let P : ℕ = setup.processes in
    let D : ℕ = setup.depth in
    let at : Place → ℕ = word_at P D s.words in
    let words : List ℕ = set s.words (index_of P D (taken p)) x in
    let now : Place → ℕ = word_at P D words in
    let else : (a : Place) → IsPlace P D a → a ≢ taken p → now a ≡ at a =
    λ a t apart. stored_else P D s.words (taken p) a x l t apart in
    let stored : now (taken p) ≡ x = stored_here P D s.words (taken p) x k.wide l in (
      Desk (desk_took d e),
      keeps,
      tt,
      desk_moves setup s k id d (desk_took d e) words here refl refl (length-set s.words (index_of P D (taken p)) x)
          (λ _. run)
          (λ marked. else mark tt (λ f. cc) ∙ marked)
          (λ q a b agrees.
          let cells_same : (cell i : ℕ) → cell < D → i < 6 → now (request q cell i) ≡ at (request q cell i) =
          λ cell i h j. else (request q cell i) ((a, b), h, j) (λ f. cc) in
          let answers_same : (cell i : ℕ) → cell < D → i < 6 → now (answer q cell i) ≡ at (answer q cell i) =
          λ cell i h j. else (answer q cell i) ((a, b), h, j) (λ f. cc) in
          let posted_same : now (posted q) ≡ at (posted q) = else (posted q) (a, b) (λ f. cc) in
          let answered_same : now (answered q) ≡ at (answered q) = else (answered q) (a, b) (λ f. cc) in
          record {
            requests = dite (ℕ_discrete q p)
                (λ same. requests_here D q a k.deep at now d (k.clients q) e cells_same answers_same (in_turn q (a, b)) (process
                ∙ sym same) (mine ∙ sym same) spelled fits posted_same
                (subst (λ (y : ℕ). now (taken y) ≡ length (requests_taken y d.journal) + 1) (sym same) (stored ∙ number))
                agrees.requests)
                (λ apart. requests_else D q a k.deep at now d (k.clients q) e cells_same answers_same (in_turn q (a, b))
                (λ f. apart (sym f ∙ process)) posted_same
                (else (taken q) (a, b) (λ f. apart (cc))) agrees.requests);
            answers = answers_here D q a k.deep at now d (k.clients q) e cells_same answers_same (in_turn q (a, b))
                answered_same agrees.answers;
            closing = closing_here D q a k.deep at now d (k.clients q) e cells_same answers_same
                (in_turn q (a, b)) live agrees.closing;
          }),
      λ u f. ap (λ (v : DeskView). (Desk (desk_took v e), [])) (desk_is d u f),
    ))

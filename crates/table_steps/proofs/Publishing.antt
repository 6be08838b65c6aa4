-- The steps by which the desk publishes answers and closes keep the rule: for `Desk::close`.
use Rattle.table_steps.proofs.Common.{◌≡◌, ◌≢◌, ◌⊎◌, ⊎_elim, ℕ, ◌+◌, ◌%◌, ◌<◌, ◌≤◌, true, List, [], ◌∷◌, ◌++◌, length, set, refl, sym, ap, ◌∙◌, subst, arith, length-append, length-set, mod-lt, ℕ_discrete, dite, some, some-injective}
use Rattle.table_steps.proofs.Common.{State, Step, keeps, Allows, Reply, IsPrefixOf, requests_taken, answers_to, Setup, View, Desk, ClientView, DeskView, Tally, answer_spelled, ReplyFits, Place, mark, posted, taken, answered, request, answer, index_of, IsPlace, IsProcess, owner_of, word_at, tally_at, CellHas, answer_cell, RequestsAgree, AnswersAgree, ClosingAgrees, Agrees, mark_of, Kept, Seated, HasDesk, IsRunOf}
use Rattle.std.proofs.Math.Decide.{dec_lt}
use lib.ListN.{get_elem?}
use Rattle.table_steps.specs.Views.{with_tally}
use Rattle.table_steps.specs.Steps.{desk_filled, desk_published, FillsAnswer, Publishes, Closes}
use Rattle.table_steps.proofs.PlacesLaws.{stored_here, stored_else}
use Rattle.table_steps.proofs.Pushing.{at_push, other_cell, prefix_length, tally_here, tally_else}
use Rattle.table_steps.proofs.Frames.{before_length, answer_six, requests_stay, answer_cell_stays, words_stay, desk_stays}
use Rattle.table_steps.proofs.Moves.{desk_moves}
use Rattle.table_steps.proofs.DeskSteps.{desk_is}

-- what a store of the desk at a place of process p owes: what holds of p, and that it leaves the desk's view of the others
pub desk_stores : (setup : Setup) (s : State (Unit {0}) View) (k : Kept setup s) (id : ℕ) (d now : DeskView) (p x : ℕ) (a : Place)
    → get_elem? s.views id ≡ some (Desk d)
    → IsPlace setup.processes setup.depth a → owner_of a ≡ p → 1 ≤ p
    → now.made ≡ d.made → now.setup ≡ d.setup → now.journal ≡ d.journal → now.closed ≡ d.closed
    → ((at now_at : Place → ℕ) (c : ClientView) → now_at a ≡ x → ((b : Place) → IsPlace setup.processes setup.depth b → b ≢ a
    → now_at b ≡ at b) → Agrees setup.depth p at d c → Agrees setup.depth p now_at now c)
    → ((q : ℕ) → q ≢ p → 1 ≤ q → (at : Place → ℕ) (c : ClientView) → Agrees setup.depth q at d c → Agrees setup.depth q at now c)
    → Kept setup record {
      words = set s.words (index_of setup.processes setup.depth a) x;
      homes = s.homes;
      views = set s.views id (Desk now);
    }
desk_stores setup s k id d now p x a here is own least made told journal closed mine others =
    let P : ℕ = setup.processes in
    let D : ℕ = setup.depth in
    let at : Place → ℕ = word_at P D s.words in
    let words : List ℕ = set s.words (index_of P D a) x in
    let now_at : Place → ℕ = word_at P D words in
    let else : (b : Place) → IsPlace P D b → b ≢ a → now_at b ≡ at b = λ b t apart. stored_else P D s.words a b x is t apart in
    desk_moves setup s k id d now words here made told (length-set s.words (index_of P D a) x)
    (λ run. subst (IsRunOf setup) (sym journal) run)
    (λ marked. else mark tt (λ e. let z = ap owner_of e ∙ own in omega arith) ∙ marked ∙ ap mark_of (sym closed))
    (λ q l m agrees. dite (ℕ_discrete q p)
    (λ e. subst (λ (y : ℕ). Agrees D y now_at now (k.clients q)) (sym e)
    (mine at now_at (k.clients q) (stored_here P D s.words a x k.wide is) else
    (subst (λ (y : ℕ). Agrees D y at d (k.clients q)) e agrees)))
    (λ n. others q n l now_at (k.clients q)
    (words_stay P D q (l, m) k.deep at now_at (λ b t o. else b t (λ e. n (sym o ∙ ap owner_of e ∙ own))) d (k.clients q) agrees)))

-- a word of the next answer to process p may be stored
fills_agree : (P depth p : ℕ) → IsProcess P p → 1 ≤ depth → (at now : Place → ℕ) (d : DeskView) (c : ClientView) (x : ℕ)
    (a : ℕ × Reply × ℕ) → (d.filling.0 ≡ p) ⊎ (d.filling.1 ≡ [])
    → get_elem? (answers_to p d.journal) (tally_at d.tallies p).published ≡ some a
    → IsPrefixOf (d.filling.1 ++ x ∷ []) (answer_spelled a.1 a.2)
    → now (answer_cell depth p (tally_at d.tallies p).published (length d.filling.1)) ≡ x
    → ((b : Place) → IsPlace P depth b → b ≢ answer_cell depth p (tally_at d.tallies p).published (length d.filling.1)
    → now b ≡ at b)
    → Agrees depth p at d c → Agrees depth p now (desk_filled d p x) c
fills_agree P depth p l deep at now d c x a whose there begins stored else g =
    let q = g.requests in let t = g.answers in
    let n : ℕ = (tally_at d.tallies p).published in
    let word : ℕ = length d.filling.1 in
    let longer : length (d.filling.1 ++ x ∷ []) ≡ word + 1 = length-append d.filling.1 (x ∷ []) in
    let most : word + 1 ≤ 6 = (let h = prefix_length (d.filling.1 ++ x ∷ []) (answer_spelled a.1 a.2) begins in let six =
    answer_six a.1 a.2 in omega arith) in
    let below : n < length (answers_to p d.journal) = before_length (answers_to p d.journal) n a there in
    let turn = t.in_turn.most in let order = q.looked_least in let looked = q.looked_most in let room = q.room in
    record {
      requests = requests_stay depth p deep at now (else (posted p) l (λ e. cc)) (else (taken p) l (λ e. cc))
          (λ b i h j. else (request p b i) (l, h, j) (λ e. cc))
          (requests_taken p d.journal) (tally_at d.tallies p).looked d.reading c q;
      answers = record {
        answered_word = else (answered p) l (λ e. cc) ∙ t.answered_word;
        collected_most = t.collected_most;
        known_most = t.known_most;
        published_most = t.published_most;
        in_turn = t.in_turn;
        fit = t.fit;
        cells = λ before b h k f i z at_i.
            let near = before_length (answer_spelled b.1 b.2) i z at_i in
            let apart : before % depth ≢ n % depth = other_cell before n depth k (omega arith) in
            else (answer p (before % depth) i) (l, mod-lt before deep, omega (arith, answer_six b.1 b.2)) (λ e. apart (cc))
            ∙ t.cells before b h k f i z at_i;
        seen = t.seen;
        seen_known = t.seen_known;
        reads = t.reads;
        reads_known = t.reads_known;
        filled = λ _ i z at_i. ⊎_elim
            (λ (old : get_elem? d.filling.1 i ≡ some z). let near = before_length d.filling.1 i z old in
            else (answer p (n % depth) i) (l, mod-lt n deep, omega arith) (λ e. let same : i ≡ word = cc in absurd (omega arith))
            ∙ was i z old)
            (λ (new : (i ≡ word) × (x ≡ z)). ap (λ (j : ℕ). now (answer p (n % depth) j)) new.0 ∙ stored ∙ new.1)
            (at_push d.filling.1 x z i at_i);
        fills = λ _ b f. subst (λ (y : ℕ × Reply × ℕ). IsPrefixOf (d.filling.1 ++ x ∷ []) (answer_spelled y.1 y.2))
            (some-injective a b (sym there ∙ f)) begins;
        filled_most = λ _. omega arith;
        fills_some = λ _. below;
      };
      closing = g.closing;
    }
  where
    was : CellHas at (answer_cell depth p (tally_at d.tallies p).published) d.filling.1
    was i z old = ⊎_elim (λ (mine : d.filling.0 ≡ p). g.answers.filled mine i z old)
        (λ (none : d.filling.1 ≡ []). absurd (let h = before_length d.filling.1 i z old in
        let e = ap (λ (w : List ℕ). length w) none in omega arith)) whose

pub may_fill_answer : (setup : Setup) (slots id : ℕ) (me : Seated) (d : DeskView) (p word x : ℕ) (a : ℕ × Reply × ℕ)
    (told : Step (Unit {0})) → IsProcess setup.processes p → HasDesk d me
    → (d.filling.0 ≡ p) ⊎ (d.filling.1 ≡ []) → get_elem? (answers_to p d.journal) (tally_at d.tallies p).published ≡ some a
    → IsPrefixOf (d.filling.1 ++ x ∷ []) (answer_spelled a.1 a.2)
    → word ≡ index_of setup.processes setup.depth (answer_cell setup.depth p (tally_at d.tallies p).published (length d.filling.1))
    → Allows (Kept setup) slots id me word (λ _. x) (λ _. FillsAnswer p told me x)
may_fill_answer setup slots id me d p word x a told l is whose there begins where_is =
    subst (λ (y : Seated × ℕ). Allows (Kept setup) slots id y.0 y.1 (λ _. x) (λ _. FillsAnswer p told y.0 x))
    (λ i. (sym is i, sym where_is i))
    (λ s k wide here _.
    let most : length d.filling.1 < 6 = (let h = prefix_length (d.filling.1 ++ x ∷ []) (answer_spelled a.1 a.2) begins in let six =
    answer_six a.1 a.2 in let f = length-append d.filling.1 (x ∷ []) in omega arith) in (
      Desk (desk_filled d p x),
      keeps,
      tt,
      desk_stores setup s k id d (desk_filled d p x) p x (answer_cell setup.depth p (tally_at d.tallies p).published
          (length d.filling.1)) here
          (l, mod-lt (tally_at d.tallies p).published k.deep, most) refl l.0 refl refl refl refl
          (λ at now c stored else g. fills_agree setup.processes setup.depth p l k.deep at now d c x a whose
          there begins stored else g)
          (λ q n _ at c g. desk_stays setup.depth q at d (desk_filled d p x) c refl refl refl refl (λ _. refl)
          (λ e. absurd (n (sym e))) g),
      λ u e. ap (λ (v : DeskView). (Desk (desk_filled v p x), [])) (desk_is d u e),
    ))

-- the number of published answers may be stored
publishes_agree : (P depth p : ℕ) → IsProcess P p → 1 ≤ depth → (at now : Place → ℕ) (d : DeskView) (c : ClientView) (x : ℕ)
    (a : ℕ × Reply × ℕ) → d.filling.0 ≡ p → d.filling.1 ≡ answer_spelled a.1 a.2
    → ReplyFits a.1 → get_elem? (answers_to p d.journal) (tally_at d.tallies p).published ≡ some a
    → x ≡ (tally_at d.tallies p).published + 1
    → now (answered p) ≡ x
    → ((b : Place) → IsPlace P depth b → b ≢ answered p → now b ≡ at b)
    → Agrees depth p at d c → Agrees depth p now (desk_published d) c
publishes_agree P depth p l deep at now d c x a mine spelled fits there number stored else g =
    let q = g.requests in let t = g.answers in
    let old : Tally = tally_at d.tallies p in
    let n : ℕ = old.published in
    let new : Tally = record { published = n + 1; looked = old.looked; probes = old.probes } in
    let is : tally_at (desk_published d).tallies p ≡ new =
    ap (λ (y : ℕ). tally_at (with_tally d.tallies y (record {
      published = (tally_at d.tallies y).published + 1;
      looked = (tally_at d.tallies y).looked;
      probes = (tally_at d.tallies y).probes;
    })) p) mine
    ∙ tally_here d.tallies p new in
    let below : n < length (answers_to p d.journal) = before_length (answers_to p d.journal) n a there in
    let cells_same : (b i : ℕ) → b < depth → i < 6 → now (answer p b i) ≡ at (answer p b i) =
    λ b i h j. else (answer p b i) (l, h, j) (λ e. cc) in
    let known = t.known_most in
    let one : (before : ℕ) (b : ℕ × Reply × ℕ) → before < n + 1 → ¬ (before < n)
    → get_elem? (answers_to p d.journal) before ≡ some b → (before ≡ n) × (a ≡ b) =
    λ before b h no f. let same : before ≡ n = omega arith in
    (same, some-injective a b (sym there ∙ subst (λ (y : ℕ). get_elem? (answers_to p d.journal) y ≡ some b) same f)) in
    record {
      requests = subst (λ (u : Tally). RequestsAgree depth p now (requests_taken p d.journal) u.looked d.reading c) (sym is)
          (requests_stay depth p deep at now (else (posted p) l (λ e. cc)) (else (taken p) l (λ e. cc))
          (λ b i h j. else (request p b i) (l, h, j) (λ e. cc))
          (requests_taken p d.journal) old.looked d.reading c q);
      answers = subst (λ (u : Tally). AnswersAgree depth p now d.journal u.published (0, []) c) (sym is) record {
        answered_word = stored ∙ number;
        collected_most = t.collected_most;
        known_most = omega arith;
        published_most = omega arith;
        in_turn = t.in_turn;
        fit = λ before b h f. dite (dec_lt before n) (λ low. t.fit before b low f)
            (λ no. subst (λ (y : ℕ × Reply × ℕ). ReplyFits y.1) (one before b h no f).1 fits);
        cells = λ before b h k f. dite (dec_lt before n)
            (λ low. answer_cell_stays depth p deep at now cells_same before (answer_spelled b.1 b.2)
            (omega (arith, answer_six b.1 b.2)) (t.cells before b h low f))
            (λ no. let same = one before b k no f in
            answer_cell_stays depth p deep at now cells_same before (answer_spelled b.1 b.2) (omega (arith, answer_six b.1 b.2))
            (subst (λ (y : ℕ × List ℕ). CellHas at (answer_cell depth p y.0) y.1)
            (λ i. (sym same.0 i, (spelled ∙ ap (λ (v : ℕ × Reply × ℕ). answer_spelled v.1 v.2) same.1) i)) (t.filled mine)));
        seen = t.seen;
        seen_known = t.seen_known;
        reads = t.reads;
        reads_known = t.reads_known;
        filled = λ e. let least = l.0 in absurd (omega arith);
        fills = λ e. let least = l.0 in absurd (omega arith);
        filled_most = λ e. let least = l.0 in absurd (omega arith);
        fills_some = λ e. let least = l.0 in absurd (omega arith);
      };
      closing = subst (λ (u : Tally). ClosingAgrees p d.journal u.published d.closed c) (sym is)
          (let all_published : d.closed ≡ true → n + 1 ≡ length (answers_to p d.journal) =
          λ closed. let all = g.closing.all_published closed in absurd (omega arith) in assumption (g.closing, all_published));
    }

pub may_publish : (setup : Setup) (slots id : ℕ) (me : Seated) (d : DeskView) (p word x : ℕ) (a : ℕ × Reply × ℕ)
    (told : Step (Unit {0})) → IsProcess setup.processes p → HasDesk d me
    → d.filling.0 ≡ p → d.filling.1 ≡ answer_spelled a.1 a.2 → ReplyFits a.1
    → get_elem? (answers_to p d.journal) (tally_at d.tallies p).published ≡ some a
    → x ≡ (tally_at d.tallies p).published + 1 → word ≡ index_of setup.processes setup.depth (answered p)
    → Allows (Kept setup) slots id me word (λ _. x) (λ _. Publishes told me x)
may_publish setup slots id me d p word x a told l is mine spelled fits there number where_is =
    subst (λ (y : Seated × ℕ). Allows (Kept setup) slots id y.0 y.1 (λ _. x) (λ _. Publishes told y.0 x))
    (λ i. (sym is i, sym where_is i))
    (λ s k wide here _. (
      Desk (desk_published d),
      keeps,
      tt,
      desk_stores setup s k id d (desk_published d) p x (answered p) here l refl l.0 refl refl refl refl
          (λ at now c stored else g. publishes_agree setup.processes setup.depth p l k.deep at now d c x a mine spelled fits
          there number stored else g)
          (λ q n least at c g. let other : q ≢ d.filling.0 = λ e. n (e ∙ mine) in
          desk_stays setup.depth q at d (desk_published d) c refl refl
          (ap (λ (t : Tally). t.looked) (tally_else d.tallies d.filling.0 q _ other))
          (ap (λ (t : Tally). t.published) (tally_else d.tallies d.filling.0 q _ other))
          (λ _. refl) (λ e. absurd (omega arith)) g),
      λ u e. ap (λ (v : DeskView). (Desk (desk_published v), [])) (desk_is d u e),
    ))

-- the closing mark may be stored
pub may_close : (setup : Setup) (slots id : ℕ) (me : Seated) (d : DeskView) (told : Step (Unit {0})) → HasDesk d me
    → ((q : ℕ) → IsProcess setup.processes q → (tally_at d.tallies q).published ≡ length (answers_to q d.journal))
    → Allows (Kept setup) slots id me 0 (λ _. 1) (λ _. Closes told me 1)
may_close setup slots id me d told is all =
    subst (λ (y : Seated). Allows (Kept setup) slots id y 0 (λ _. 1) (λ _. Closes told y 1)) (sym is)
    (λ s k wide here _.
    let P : ℕ = setup.processes in
    let D : ℕ = setup.depth in
    let now : DeskView = record d { closed = true } in
    let else : (b : Place) → IsPlace P D b → b ≢ mark → word_at P D (set s.words 0 1) b ≡ word_at P D s.words b =
    λ b t apart. stored_else P D s.words mark b 1 tt t apart in (
      Desk now,
      keeps,
      tt,
      desk_moves setup s k id d now (set s.words 0 1) here refl refl (length-set s.words 0 1)
          (λ run. run)
          (λ _. stored_here P D s.words mark 1 k.wide tt)
          (λ q l m agrees.
          let kept = words_stay P D q (l, m) k.deep (word_at P D s.words) (word_at P D (set s.words 0 1))
          (λ b t o. else b t (λ e. let z = sym o ∙ ap owner_of e in omega arith)) d (k.clients q) agrees in
          record {
            requests = kept.requests;
            answers = kept.answers;
            closing = record {
              all_published = λ _. all q (l, m);
              over_closed = λ _. refl;
              drained_over = kept.closing.drained_over;
              drained_all = kept.closing.drained_all;
            };
          }),
      λ u e. ap (λ (v : DeskView). (Desk (record v { closed = true }), [])) (desk_is d u e),
    ))

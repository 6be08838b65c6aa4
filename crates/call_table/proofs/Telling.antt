-- The answers among the notes of one more event, in the order in which they are published: for `publish_notes`.
use Rattle.call_table.proofs.Common.{common_steps, ◌≡◌, ℕ, ◌+◌, ◌<◌, get_or, take, length-append, List, [], ◌∷◌, ◌++◌, length, refl, sym, ap, ◌∙◌, subst, arith, Reply, Waits, Event, answers_to, take_more, take_all, DeskView, AreInTurn, IsProcess, tally_at}
use Rattle.std.proofs.Common.{◌≢◌, drop, eq-eqb, ne_eqb, append_assoc, append-nil}
use mathlib.Core.Option.{some}
use lib.ListN.{get_elem?}
use Rattle.lock_manager.specs.declared.request.Note.{Note}
use Rattle.lock_manager.specs.declared.request.Note.TheVariants.{Answer}
use Rattle.session_core.specs.Mail.{answers_in, answers_from}
use Rattle.std.proofs.lemmas.Bool.{cases_eq}
use Rattle.std.proofs.lemmas.List.{take-append-drop}
use Rattle.std.proofs.lemmas.List.Elements.{All-get_or}
use Rattle.session_core.specs.Headline.{told_process}
use Rattle.call_table.specs.Serving.{IsUntold, IsTold}
use Rattle.table_steps.specs.Steps.{desk_told, IsNextToTell}
use Rattle.call_table.proofs.TallyLaws.{tally_here, tally_else}
use Rattle.call_table.proofs.InTurnLaws.{number_at}

exact_from : (q place : ℕ) (H : List Event) (e : Event) → answers_from q place (H ++ e ∷ []) ≡ answers_from q place H ++ answers_in
    q (place + length H) e.notes
exact_from q place [] e = append-nil (answers_in q place e.notes) ∙ ap (λ (n : ℕ). answers_in q n e.notes) (omega arith)
exact_from q place (x ∷ xs) e = grind (arith, common_steps, exact_from q (place + 1) xs e, append_assoc)

-- what one more event answers to a process
pub answers_exact : (q : ℕ) (H : List Event) (e : Event)
    → answers_to q (H ++ e ∷ []) ≡ answers_to q H ++ answers_in q (length H + 1) e.notes
answers_exact q H e = exact_from q 1 H e ∙ ap (λ (n : ℕ). answers_to q H ++ answers_in q n e.notes) (omega arith)

pub answers_in-append : (q place : ℕ) (xs ys : List Note)
    → answers_in q place (xs ++ ys) ≡ answers_in q place xs ++ answers_in q place ys
answers_in-append q place [] ys = refl
answers_in-append q place (Answer p n reply ∷ xs) ys = grind (arith, common_steps, answers_in-append q place xs ys)
answers_in-append q place (Waits p n ∷ xs) ys = answers_in-append q place xs ys

-- the answer of the next note: to its process one more, to others none
pub answer_here : (q place n : ℕ) (reply : Reply) (notes : List Note)
    → answers_in q place (Answer q n reply ∷ notes) ≡ (n, reply, place) ∷ answers_in q place notes
answer_here q place n reply notes = grind (arith, common_steps, eq-eqb)

pub answer_else : (q p place n : ℕ) (reply : Reply) (notes : List Note) → p ≢ q
    → answers_in q place (Answer p n reply ∷ notes) ≡ answers_in q place notes
answer_else q p place n reply notes other = grind (arith, common_steps, ne_eqb)

at_middle : {A : Type 0} (xs : List A) (y : A) (ys : List A) → get_elem? (xs ++ y ∷ ys) (length xs) ≡ some y
at_middle [] y ys = refl
at_middle (x ∷ xs) y ys = at_middle xs y ys

-- where the answers of the notes before it are published, the answer of a note is the next to publish to its process
pub next_to_tell : (q n : ℕ) (reply : Reply) (H : List Event) (e : Event) (before after : List Note)
    → e.notes ≡ before ++ Answer q n reply ∷ after
    → get_elem? (answers_to q (H ++ e ∷ [])) (length (answers_to q H ++ answers_in q (length H + 1) before)) ≡ some (
      n,
      reply,
      length H + 1,
    )
next_to_tell q n reply H e before after is = grind (arith, common_steps, answers_exact, answers_in-append, answer_here, append_assoc, at_middle)

-- its number is the one after the published ones, which is what publishing stores
pub number_to_tell : (q n : ℕ) (reply : Reply) (H : List Event) (e : Event) (before after : List Note)
    → e.notes ≡ before ++ Answer q n reply ∷ after
    → AreInTurn q (H ++ e ∷ []) → n ≡ length (answers_to q H ++ answers_in q (length H + 1) before) + 1
number_to_tell q n reply H e before after is in_turn =
    number_at q (H ++ e ∷ []) in_turn (length (answers_to q H ++ answers_in q (length H + 1) before)) (n, reply, length H + 1)
    (next_to_tell q n reply H e before after is)

-- the answers among these notes were published, and nothing else changed
pub record ToldSome (processes : ℕ) (old new : DeskView) (told : List Note) : Type 0 where
  pub same : new ≡ record old { tallies = new.tallies; filling = (0, []) }
  pub looked : (q : ℕ) → (tally_at new.tallies q).looked ≡ (tally_at old.tallies q).looked
  pub probes : (q : ℕ) → (tally_at new.tallies q).probes ≡ (tally_at old.tallies q).probes
  pub published : (before : List Event) (q : ℕ) → IsProcess processes q
      → (tally_at old.tallies q).published ≡ length (answers_to q before)
      → (tally_at new.tallies q).published ≡ length (answers_to q before ++ answers_in q (length before + 1) told)

-- a note that a process waits is no answer
pub ToldSome-waits : (processes : ℕ) (old d : DeskView) (told : List Note) (p n : ℕ) → ToldSome processes old d told
    → ToldSome processes old d (told ++ Waits p n ∷ [])
ToldSome-waits processes old d told p n h = grind (arith, common_steps, answers_in-append, append-nil)

-- how many answers there are to a process with one more
one_more : (p place n : ℕ) (reply : Reply) (answers : List (ℕ × Reply × ℕ)) (told : List Note)
    → length (answers ++ answers_in p place (told ++ Answer p n reply ∷ [])) ≡ length (answers ++ answers_in p place told) + 1
one_more p place n reply answers told = grind (arith, common_steps, answers_in-append, answer_here, append_assoc, length-append)

no_more : (p q place n : ℕ) (reply : Reply) (told : List Note) → p ≢ q
    → answers_in q place (told ++ Answer p n reply ∷ []) ≡ answers_in q place told
no_more p q place n reply told other = grind (arith, common_steps, answers_in-append, answer_else, append-nil)

-- an answer was published
pub ToldSome-answer : (processes : ℕ) (old d after : DeskView) (told : List Note) (p n : ℕ) (reply : Reply) → after ≡ desk_told d p
    → ToldSome processes old d told → ToldSome processes old after (told ++ Answer p n reply ∷ [])
ToldSome-answer processes old d after told p n reply is h = grind (arith, common_steps, tally_here, tally_else, cases_eq, one_more, no_more)

-- one note more, whichever it is
pub told_more : (processes : ℕ) (old d : DeskView) (notes : List Note) (i : ℕ) (note default : Note) → i < length notes
    → get_or notes i default ≡ note
    → ToldSome processes old d (take i notes ++ note ∷ []) → ToldSome processes old d (take (i + 1) notes)
told_more processes old d notes i note default within read h = grind (arith, common_steps, take_more)

-- a note that is an answer is the next to publish to its process
pub record IsNextTold (processes : ℕ) (d : DeskView) (p n : ℕ) (reply : Reply) (place : ℕ) : Type 0 where
  pub is_process : IsProcess processes p
  pub next : IsNextToTell d p (n, reply, place)
  pub number : n ≡ (tally_at d.tallies p).published + 1

pub next_told : (processes : ℕ) (old d : DeskView) (notes : List Note) (place i p n : ℕ) (reply : Reply) (default : Note)
    → IsUntold processes old notes place
    → ToldSome processes old d (take i notes) → i < length notes → get_or notes i default ≡ Answer p n reply
    → IsNextTold processes d p n reply place
next_told processes old d notes place i p n reply default untold told within read =
    let note : Note = Answer p n reply in
    let there : IsProcess processes p =
    subst (λ (x : Note). IsProcess processes (told_process x)) read
    (All-get_or (λ (x : Note). IsProcess processes (told_process x)) notes i default within untold.in_range) in
    let split : untold.event.notes ≡ take i notes ++ note ∷ drop (i + 1) notes =
    untold.notes_are ∙ sym (take-append-drop (i + 1) notes)
    ∙ ap (λ (l : List Note). l ++ drop (i + 1) notes) (take_more notes i default within)
    ∙ append_assoc (take i notes) (get_or notes i default ∷ []) (drop (i + 1) notes)
    ∙ ap (λ (x : Note). take i notes ++ x ∷ drop (i + 1) notes) read in
    let journal : d.journal ≡ untold.before ++ untold.event ∷ [] = ap (λ (v : DeskView). v.journal) told.same ∙ untold.journal in
    let many : (tally_at d.tallies p).published ≡ length
    (answers_to p untold.before ++ answers_in p (length untold.before + 1) (take i notes)) =
    told.published untold.before p there (untold.published p there) in
    let next = next_to_tell p n reply untold.before untold.event (take i notes) (drop (i + 1) notes) split in
    let number = number_to_tell p n reply untold.before untold.event (take i notes) (drop (i + 1) notes) split
    (subst (AreInTurn p) untold.journal (untold.in_turn p)) in
    record {
      is_process = there;
      next =
          subst (λ (k : ℕ). get_elem? (answers_to p d.journal) k ≡ some (n, reply, place)) (sym many)
          (subst (λ (l : List Event). get_elem? (answers_to p l)
          (length (answers_to p untold.before ++ answers_in p (length untold.before + 1) (take i notes))) ≡ some
          (n, reply, place)) (sym journal)
          (next ∙ ap (λ (k : ℕ). some (n, reply, k)) (sym untold.at_place)));
      number = number ∙ ap (λ (k : ℕ). k + 1) (sym many);
    }

-- all are published
pub told_all : (processes : ℕ) (old d : DeskView) (notes : List Note) (place i : ℕ) → IsUntold processes old notes place
    → ToldSome processes old d (take i notes) → ¬ (i < length notes) → IsTold processes old d
told_all processes old d notes place i untold told past = grind (arith, common_steps, take_all, answers_exact)

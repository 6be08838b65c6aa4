-- Answers among notes and events, counted and looked up: for `Session::find_answer`.
use Rattle.session_core.proofs.Common.{arith, ℕ, ◌≡◌, ◌+◌, ◌<◌, refl, sym, ◌∙◌, ap, length, List, [], ◌∷◌, ◌++◌, Some, None, drop, get_or, common_steps, Reply, Note, Answer, Waits, Event, answers_in, answers_from, reply_among}
use Rattle.std.proofs.lemmas.List.{at_drop_more}
use Rattle.std.proofs.lemmas.List.Folds.{find-append}

-- a reply that isn't among the first answers is the one among the others
reply_among-after : (n : ℕ) (xs ys : List (ℕ × Reply × ℕ)) → reply_among n xs ≡ None → reply_among n (xs ++ ys) ≡ reply_among n ys
reply_among-after n xs ys none = grind (arith, common_steps, find-append)

-- a reply that is among the first answers is found
reply_among-first : (n : ℕ) (xs ys : List (ℕ × Reply × ℕ)) (reply : Reply) → reply_among n xs ≡ Some reply
    → reply_among n (xs ++ ys) ≡ Some reply
reply_among-first n xs ys reply found = grind (arith, common_steps, find-append)

-- at which place the notes stand doesn't matter to the reply
reply_among-place : (p n place other : ℕ) (notes : List Note) → reply_among n (answers_in p place notes) ≡ reply_among n (answers_in p other notes)
reply_among-place p n place other [] = refl
reply_among-place p n place other (Answer q m reply ∷ notes) = grind (arith, common_steps, reply_among-place p n place other notes)
reply_among-place p n place other (Waits q m ∷ notes) = reply_among-place p n place other notes

-- the same of events
pub reply_to-skip : (p n : ℕ) (events : List Event) (i : ℕ) (event : Event) → i < length events → event ≡ get_or events i event
    → reply_among n (answers_in p 0 event.notes) ≡ None
    → reply_among n (answers_from p (i + 1) (drop i events)) ≡ reply_among n (answers_from p (i + 1 + 1) (drop (i + 1) events))
reply_to-skip p n events i event within read none = grind (arith, common_steps, at_drop_more, reply_among-after, reply_among-place)

pub reply_to-hit : (p n : ℕ) (events : List Event) (i : ℕ) (event : Event) (reply : Reply) → i < length events
    → event ≡ get_or events i event → reply_among n (answers_in p 0 event.notes) ≡ Some reply
    → reply_among n (answers_from p (i + 1) (drop i events)) ≡ Some reply
reply_to-hit p n events i event reply within read found =
    at_drop_more (λ l. reply_among n (answers_from p (i + 1) l)) events i event within
    ∙ ap (λ x. reply_among n (answers_from p (i + 1) (x ∷ drop (i + 1) events))) (sym read)
    ∙ reply_among-first n (answers_in p (i + 1) event.notes) (answers_from p (i + 1 + 1) (drop (i + 1) events)) reply
    (reply_among-place p n (i + 1) 0 event.notes ∙ found)

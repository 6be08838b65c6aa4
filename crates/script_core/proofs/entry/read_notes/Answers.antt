use Rattle.script_core.proofs.Common.{arith, ◌≡◌, ◌<◌, [], List, length, map, take, get_or, Option, Some, None, Ok, subst, lit<, common_steps, err_from_is_err_and, pieces_of, NotesGive, words_of}
use Rattle.std.specs.Iterator.{Yields}
use Rattle.std.proofs.lemmas.Iterator.{YieldsList}
use Rattle.std.proofs.lemmas.Iterator.Consumers.{YieldsList-at, YieldsList-so_far, YieldsList-turn, YieldsList-end}
use Rattle.std.proofs.lemmas.Iterator.Splits.{YieldsList-from_str_split}
use Rattle.script_core.proofs.EntryLemmas.{notes_one, notes_fault, notes_wanted}
use Rattle.script_core.proofs.FaultLemmas.{note_never_memory}
use Rattle.script_core.proofs.entry.read_notes.Goals as goal

turn_of : {S A B : Type 0} {steps : S → Option A → S → Type 0} {s : S} (xs : List A) (t : S) (y : Yields steps s xs t)
    → (r : Option A) (u : S) (x : A) → r ≡ Some x → steps t r u
    → (v : A → B) (all : List B) → YieldsList steps v s all
    → (map v xs ≡ take (length xs) all) × ((length xs < length all) × (v x ≡ get_or all (length xs) (v x)))
turn_of xs t y r u x is step v all road = (YieldsList-so_far road xs t y, YieldsList-turn road xs t y r u x is step)

end_of : {S A B : Type 0} {steps : S → Option A → S → Type 0} {s : S} (xs : List A) (t : S) (y : Yields steps s xs t) → (r : Option A) (u : S)
    → r ≡ None → steps t r u
    → (v : A → B) (all : List B) → YieldsList steps v s all → map v xs ≡ all
end_of xs t y r u is step v all road = (YieldsList-end road xs t y r u is step).0

pub returns-in_err-note-clause-refused : goal.returns-in_err-note-clause-refused
returns-in_err-note-clause-refused c =
    let turn = turn_of c.loop-piece.yielded _ c.loop-piece.yielded_by _ _ c.in-Some.piece c.in-Some.is c.next.ensures.steps _ _
    (YieldsList-at c.into_iter-piece-iterator.ensures.into_iter_gives
    (YieldsList-from_str_split 124 c.args.text.now (lit< tt) c.split-piece-items.ensures.text c.split-piece-items.ensures.has_more c.split-piece-items.ensures.pattern)) in
    let failed = err_from_is_err_and c.from_residual.result c.from_residual.ensures.1 in
    rw (failed.1, failed.2)
    (λ other. notes_fault c.args.limits (pieces_of c.args.text.now) c.loop-piece.yielded c.in-Some.piece c.loop-piece.notes.items _ turn.0 turn.1 c.loop-piece.invariant c.in_err-note.ensures)

pub returns-in_err-note-clause-memory : goal.returns-in_err-note-clause-memory
returns-in_err-note-clause-memory c =
    let failed = err_from_is_err_and c.from_residual.result c.from_residual.ensures.1 in
    rw (failed.1, failed.2) (λ is. absurd (note_never_memory c.args.limits (words_of c.in-Some.piece.now) _ c.in_err-note.ensures is.0 is.1))

pub returns-in_err-map_err-clause-memory : goal.returns-in_err-map_err-clause-memory
returns-in_err-map_err-clause-memory c =
    let turn = turn_of c.loop-piece.yielded _ c.loop-piece.yielded_by _ _ c.in-Some.piece c.in-Some.is c.next.ensures.steps _ _
    (YieldsList-at c.into_iter-piece-iterator.ensures.into_iter_gives
    (YieldsList-from_str_split 124 c.args.text.now (lit< tt) c.split-piece-items.ensures.text c.split-piece-items.ensures.has_more c.split-piece-items.ensures.pattern)) in
    let failed = err_from_is_err_and c.from_residual-in_err-map_err.result c.from_residual-in_err-map_err.ensures.1 in
    rw (failed.1, failed.2)
    (λ is. notes_wanted c.args.limits (pieces_of c.args.text.now) c.loop-piece.yielded c.in-Some.piece c.loop-piece.notes.items c.in_ok-note.note turn.0 turn.1 c.loop-piece.invariant c.in_ok-note.ensures)

pub loop-piece-preserved : goal.loop-piece-preserved
loop-piece-preserved c = grind (arith, common_steps, notes_one)

pub returns-clause-read : goal.returns-clause-read
returns-clause-read c =
    let all = end_of c.loop-piece.yielded _ c.loop-piece.yielded_by _ _ c.in-None.is c.next.ensures.steps _ _
    (YieldsList-at c.into_iter-piece-iterator.ensures.into_iter_gives
    (YieldsList-from_str_split 124 c.args.text.now (lit< tt) c.split-piece-items.ensures.text c.split-piece-items.ensures.has_more c.split-piece-items.ensures.pattern)) in
    subst (λ pieces. NotesGive c.args.limits [] pieces (Ok c.loop-piece.notes.items)) all c.loop-piece.invariant

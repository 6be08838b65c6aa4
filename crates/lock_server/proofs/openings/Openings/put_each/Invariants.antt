use Rattle.lock_server.proofs.Common.{note_words}
use Rattle.lock_server.proofs.ExportLemmas.{IsNotedPiece}
use Rattle.lock_server.proofs.WalkLemmas.{Walked}
use Rattle.lock_server.proofs.openings.Openings.put_each.Given as goal

abbrev pub invariant-loop-file : goal.invariant-loop-file
invariant-loop-file l =
    (goal.iterator-loop-file).can_next l.file-iterator ×
    (goal.iterator-loop-file).is_finite l.file-iterator ×
    Walked (IsNotedPiece l.self) note_words l.yielded l.initial.out l.initial.behind l.out l.behind

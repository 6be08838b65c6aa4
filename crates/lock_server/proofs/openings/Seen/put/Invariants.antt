use Rattle.lock_server.proofs.Common.{note_words}
use Rattle.lock_server.proofs.ExportLemmas.{IsSeenPiece}
use Rattle.lock_server.proofs.WalkLemmas.{Walked}
use Rattle.lock_server.proofs.openings.Seen.put.Given as goal

abbrev pub invariant-loop-owner : goal.invariant-loop-owner
invariant-loop-owner l =
    (goal.iterator-loop-owner).can_next l.owner-iterator ×
    (goal.iterator-loop-owner).is_finite l.owner-iterator ×
    Walked (IsSeenPiece l.self l.file) note_words l.yielded l.initial.out l.initial.behind l.out l.behind

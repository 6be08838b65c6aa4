use Rattle.lock_server.proofs.Common.{number_words}
use Rattle.lock_server.proofs.ExportLemmas.{IsCrossedPiece}
use Rattle.lock_server.proofs.WalkLemmas.{Walked}
use Rattle.lock_server.proofs.waiters.Waiters.put_each.Given as goal

abbrev pub invariant-loop-owner : goal.invariant-loop-owner
invariant-loop-owner l =
    (goal.iterator-loop-owner).can_next l.owner-iterator ×
    (goal.iterator-loop-owner).is_finite l.owner-iterator ×
    Walked (IsCrossedPiece l.self) number_words l.yielded l.initial.out l.initial.behind l.out l.behind

use Rattle.lock_server.proofs.Common.{lock_words, file_state}
use Rattle.lock_server.proofs.ExportLemmas.{IsLockPiece}
use Rattle.lock_server.proofs.WalkLemmas.{Walked}
use Rattle.lock_server.proofs.file.LockFile.put_each_lock.Given as goal

abbrev pub invariant-loop-owner : goal.invariant-loop-owner
invariant-loop-owner l =
    (goal.iterator-loop-owner).can_next l.owner-iterator ×
    (goal.iterator-loop-owner).is_finite l.owner-iterator ×
    Walked (IsLockPiece (file_state l.self)) lock_words l.yielded l.initial.out l.initial.behind l.out l.behind

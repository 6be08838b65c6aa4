use Rattle.lock_server.proofs.Common.{◌-◌, ◌^◌, HasFlockLock, file_state, number_behind}
use Rattle.lock_server.proofs.HasLockLemmas.{NoneBelow}
use Rattle.lock_server.proofs.file.LockFile.has_flock_locks.Given as goal

abbrev pub invariant-loop-owner : goal.invariant-loop-owner
invariant-loop-owner l = NoneBelow (HasFlockLock (file_state l.self)) l.fn.owners.first (number_behind l.above)

-- each owner is above the one before
abbrev pub decreases-loop-owner : goal.decreases-loop-owner
decreases-loop-owner l = 2 ^ 64 - number_behind l.above

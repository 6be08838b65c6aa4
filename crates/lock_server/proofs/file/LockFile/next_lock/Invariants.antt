use Rattle.lock_server.proofs.Common.{◌-◌, ◌^◌, file_state}
use Rattle.lock_server.proofs.NextLockLemmas.{ArePassed}
use Rattle.lock_server.proofs.file.LockFile.next_lock.Given as goal

abbrev pub invariant-loop-other : goal.invariant-loop-other
invariant-loop-other l = ArePassed (file_state l.self) l.owner l.byte l.above

-- each owner is above the one before
abbrev pub decreases-loop-other : goal.decreases-loop-other
decreases-loop-other l = 2 ^ 64 - l.above

use Rattle.lock_server.proofs.Common.{◌<◌, ◌-◌, ◌^◌, FlockLock, file_state, number_behind}
use Rattle.lock_server.specs.Listing.{IsFlockInTheWay}
use Rattle.lock_server.proofs.file.LockFile.flock_blocker.Given as goal

-- none of the locks that were passed over is in the way
abbrev pub invariant-loop-lock : goal.invariant-loop-lock
invariant-loop-lock l = (lock : FlockLock) → lock.owner < number_behind l.above → ¬ IsFlockInTheWay (file_state l.self) l.owner l.mode lock

-- each owner is above the one before
abbrev pub decreases-loop-lock : goal.decreases-loop-lock
decreases-loop-lock l = 2 ^ 64 - number_behind l.above

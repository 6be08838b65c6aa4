use Rattle.lock_server.proofs.Common.{◌-◌, ◌^◌, lock_of, file_state, number_behind}
use Rattle.lock_server.proofs.CountLemmas.{IsCounting}
use Rattle.lock_server.proofs.file.LockFile.count_flock_locks.Given as goal

abbrev pub invariant-loop-owner : goal.invariant-loop-owner
invariant-loop-owner l = IsCounting l.fn.owners.first l.fn.owners.last (λ owner. lock_of ((file_state l.self).flocks owner)) (number_behind l.above) l.count

-- each owner is above the one before
abbrev pub decreases-loop-owner : goal.decreases-loop-owner
decreases-loop-owner l = 2 ^ 64 - number_behind l.above

use Rattle.lock_server.proofs.Common.{ℕ, ◌-◌, ◌^◌, HaveLocks, number_behind, state_of}
use Rattle.lock_server.proofs.HasLockLemmas.{NoneBelow}
use Rattle.lock_server.proofs.server.LockServer.has_locks.Given as goal

abbrev pub invariant-loop-owner : goal.invariant-loop-owner
invariant-loop-owner l = NoneBelow (λ (owner : ℕ). HaveLocks (state_of l.self) owner owner) l.first (number_behind l.before)

-- each owner is above the one before
abbrev pub decreases-loop-owner : goal.decreases-loop-owner
decreases-loop-owner l = 2 ^ 64 - number_behind l.before

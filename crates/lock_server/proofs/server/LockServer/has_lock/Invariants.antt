use Rattle.lock_server.proofs.Common.{ℕ, ◌-◌, ◌^◌, ◌<◌, HaveLocksOn, state_of}
use Rattle.lock_server.proofs.ForgetLemmas.{next_of}
use Rattle.lock_server.proofs.server.LockServer.has_lock.Given as goal

abbrev pub invariant-loop-file : goal.invariant-loop-file
invariant-loop-file l = (file : ℕ) → file < next_of l.above → ¬ HaveLocksOn ((state_of l.self).files file) l.owner l.owner

-- each file is above the one before
abbrev pub decreases-loop-file : goal.decreases-loop-file
decreases-loop-file l = 2 ^ 64 - next_of l.above

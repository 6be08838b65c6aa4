use Rattle.script_core.proofs.Common.{ℕ, ◌<◌, get_or, Held, IsLockAgainst}
use Rattle.script_core.proofs.deadlock.first_lock.Given as goal

abbrev pub invariant-loop-line : goal.invariant-loop-line
invariant-loop-line l = (k : ℕ) (d : Held) → k < l.line-index → ¬ IsLockAgainst l.q l.wait (get_or l.lines k d)

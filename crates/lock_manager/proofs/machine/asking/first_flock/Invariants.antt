use Rattle.lock_manager.proofs.Common.{ℕ, ◌<◌, get_or, Held}
use Rattle.lock_manager.specs.Asking.{IsFlockAgainst}
use Rattle.lock_manager.proofs.machine.asking.first_flock.Given as goal

abbrev pub invariant-loop-line : goal.invariant-loop-line
invariant-loop-line l = (k : ℕ) (d : Held) → k < l.line-index → ¬ IsFlockAgainst l.wait (get_or l.lines k d)

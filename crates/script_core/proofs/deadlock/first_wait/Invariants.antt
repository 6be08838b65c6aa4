use Rattle.script_core.proofs.Common.{ℕ, ◌<◌, get_or, Wait, IsWaitAgainst}
use Rattle.script_core.proofs.deadlock.first_wait.Given as goal

abbrev pub invariant-loop-other : goal.invariant-loop-other
invariant-loop-other l = (k : ℕ) (d : Wait) → k < l.other-index → ¬ IsWaitAgainst l.q l.wait (get_or l.waits k d)

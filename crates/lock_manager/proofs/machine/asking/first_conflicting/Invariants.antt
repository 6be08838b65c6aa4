use Rattle.lock_manager.proofs.Common.{ℕ, ◌<◌, get_or, Wait}
use Rattle.wait_core.specs.Blocking.{WaitsConflict}
use Rattle.lock_manager.proofs.machine.asking.first_conflicting.Given as goal

abbrev pub invariant-loop-other : goal.invariant-loop-other
invariant-loop-other l = (k : ℕ) (d : Wait) → k < l.other-index → ¬ WaitsConflict (get_or l.waits k d) l.wait

use Rattle.script_core.proofs.Common.{ℕ, ◌<◌}
use Rattle.script_core.specs.Deadlocks.{BlocksAt}
use Rattle.script_core.proofs.deadlock.link_from.Given as goal

abbrev pub invariant-loop-place : goal.invariant-loop-place
invariant-loop-place l = (k : ℕ) → k < l.place → ¬ BlocksAt l.policy l.held l.waits l.p l.q k

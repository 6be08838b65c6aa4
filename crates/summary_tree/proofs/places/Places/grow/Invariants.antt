use Rattle.std.proofs.Common.{◌≤◌, ◌-◌}
use Rattle.summary_tree.proofs.places.Places.grow.Given as goal

abbrev pub invariant-loop-self : goal.invariant-loop-self
invariant-loop-self g l = l.fn.self ≤ l.self

abbrev pub decreases-loop-self : goal.decreases-loop-self
decreases-loop-self g l = l.count - l.self

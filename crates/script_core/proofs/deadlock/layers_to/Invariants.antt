use Rattle.script_core.proofs.Common.{not}
use Rattle.std.proofs.Common.{count_by}
use Rattle.script_core.proofs.DeadlockLemmas.{AreLayersSoFar}
use Rattle.script_core.proofs.deadlock.layers_to.Given as goal

abbrev pub invariant-loop-policy : goal.invariant-loop-policy
invariant-loop-policy l = AreLayersSoFar l.policy l.held l.waits l.wanted l.layers.items l.layer

abbrev pub decreases-loop-policy : goal.decreases-loop-policy
decreases-loop-policy l = count_by not l.layer

use Rattle.std.proofs.Common.{vec_len}
use Rattle.script_core.proofs.DeadlockLemmas.{HaveGoneOn}
use Rattle.script_core.proofs.deadlock.links_through.Given as goal

abbrev pub invariant-loop-layer : goal.invariant-loop-layer
invariant-loop-layer l = HaveGoneOn l.policy l.held l.waits l.wanted l.layers.items l.links.items l.start

abbrev pub decreases-loop-layer : goal.decreases-loop-layer
decreases-loop-layer l = vec_len l.layers

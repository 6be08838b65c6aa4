use Rattle.script_core.proofs.DeadlockLemmas.{HasGrown}
use Rattle.script_core.proofs.deadlock.grown.Given as goal

abbrev pub invariant-loop-wait : goal.invariant-loop-wait
invariant-loop-wait l = HasGrown l.policy l.held l.waits l.layer l.next l.wait-index l.has_grown

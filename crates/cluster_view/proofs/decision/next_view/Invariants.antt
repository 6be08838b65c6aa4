use Rattle.std.proofs.Common.{take}
use Rattle.cluster_view.specs.Decisions.{IsNext}
use Rattle.cluster_view.proofs.decision.next_view.Given as goal

abbrev pub invariant-loop-hello : goal.invariant-loop-hello
invariant-loop-hello l = IsNext l.ring (take l.hello-index l.hellos) l.view

use Rattle.std.proofs.Common.{take}
use Rattle.cluster_view.specs.Bases.{IsBaseSoFar}
use Rattle.cluster_view.proofs.base.base_of.Given as goal

abbrev pub invariant-loop-hello : goal.invariant-loop-hello
invariant-loop-hello l = IsBaseSoFar l.view (take l.hello-index l.hellos) l.base

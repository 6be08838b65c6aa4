use Rattle.std.proofs.Common.{take}
use Rattle.cluster_view.specs.Bases.{IsLatestSoFar}
use Rattle.cluster_view.proofs.base.latest.Given as goal

abbrev pub invariant-loop-hello : goal.invariant-loop-hello
invariant-loop-hello l = IsLatestSoFar (take l.hello-index l.hellos) l.latest

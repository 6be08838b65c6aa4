use Rattle.cluster_view.proofs.StepLemmas.{latest_told, latest_none}
use Rattle.cluster_view.proofs.base.latest.Goals as goal
use Rattle.cluster_view.proofs.base.latest.Goals.{then-hello, else-hello}

pub loop-hello-preserved : goal.loop-hello-preserved
loop-hello-preserved c = elim c.if-hello.branch [
  | then-hello w ↦ rw (w.latest-is, w.later.ensures) (latest_told _ _ _ _ c.loop-hello-test.true w.if-hello.true c.loop-hello.invariant)
  | else-hello w ↦ rw w.latest-is (latest_none _ _ _ _ c.loop-hello-test.true w.if-hello.false c.loop-hello.invariant)
]

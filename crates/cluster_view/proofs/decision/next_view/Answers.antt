use Rattle.std.proofs.Common.{subst}
use Rattle.cluster_view.specs.declared.view.View.{View}
use Rattle.cluster_view.specs.Views.{IsNextFrom}
use Rattle.cluster_view.proofs.StepLemmas.{next_more}
use Rattle.cluster_view.proofs.decision.next_view.Goals as goal

pub loop-hello-preserved : goal.loop-hello-preserved
loop-hello-preserved c =
    next_more _ _ _ _ _ _ c.loop-hello-test.true c.loop-hello.invariant
    (subst (λ (known : View). IsNextFrom c.loop-hello.view known c.in_ok-view.view) c.latest.ensures c.in_ok-view.ensures)

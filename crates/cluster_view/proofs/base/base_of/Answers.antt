use Rattle.std.proofs.Common.{◌∙◌, sym}
use Rattle.cluster_view.proofs.StepLemmas.{base_none, base_told}
use Rattle.cluster_view.proofs.base.base_of.Goals as goal
use Rattle.cluster_view.proofs.base.base_of.Goals.{then-tells, else-tells}

pub loop-hello-preserved : goal.loop-hello-preserved
loop-hello-preserved c = elim c.if-tells.branch [
  | then-tells w ↦ rw (w.base-is, w.better.ensures)
      (base_told _ _ _ _ _ c.loop-hello-test.true (sym c.tells.ensures ∙ w.if-tells.true) c.loop-hello.invariant)
  | else-tells w ↦ rw w.base-is (base_none _ _ _ _ _ c.loop-hello-test.true (sym c.tells.ensures ∙ w.if-tells.false) c.loop-hello.invariant)
]

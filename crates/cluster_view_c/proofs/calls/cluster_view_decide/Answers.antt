use Rattle.std.proofs.Common.{ℕ, List, arith, subst, sym}
use Rattle.cluster_view_c.specs.Outcomes.{ArePartsOf}
use Rattle.cluster_view_c.proofs.calls.cluster_view_decide.Goals as goal
use Rattle.cluster_view_c.proofs.calls.cluster_view_decide.Goals.{then-hellos-le65536, else-hellos-le65536}

pub returns : goal.returns
returns c = record {
  decision = c.decide-decision.result;
  decides = c.decide-decision.ensures;
  number = c.number.ensures;
  told = c.tell.ensures;
  parts_are = elim c.if-hellos-le65536.branch [
    | then-hellos-le65536 w ↦ λ few.
        subst (λ (parts : List ℕ). ArePartsOf c.decide-decision.result c.args.hellos.now parts) (sym w.parts-is) w.write_parts.ensures
    | else-hellos-le65536 w ↦ λ few. absurd (omega (arith, w.if-hellos-le65536.false))
  ];
}

use Rattle.script_core.proofs.Common.{◌<◌, inl, inr, subst, false, List, Bool, get_or, length, arith, IsTrue}
use Rattle.script_core.proofs.DeadlockLemmas.{process_joins, process_stays, all_covered}
use Rattle.script_core.proofs.deadlock.grown.Goals as goal
use Rattle.script_core.proofs.deadlock.grown.Goals.{then-not-next-p+then-leads_into, else-not-next-p, else-not-next-p-via-then-not-next-p+else-leads_into, else-not-next-p-via-else-not-next-p}

pub loop-wait-preserved : goal.loop-wait-preserved
loop-wait-preserved c =
    let few : c.from-p.result < length c.args.layer.now = omega (arith, c.told-layer) in
    elim c.if-not-next-p.branch [
      | then-not-next-p+then-leads_into w ↦
          process_joins c.args.policy c.args.held.now c.args.waits.now c.args.layer.now c.loop-wait.next c.if-not-next-p.next c.loop-wait.wait-index
          c.loop-wait.has_grown c.if-not-next-p.has_grown _ c.from-p.result c.loop-wait.invariant c.loop-wait-test.true few c.from-p.ensures
          w.if-not-next-p.true (w.leads_into.ensures.yes w.if-leads_into.true) w.next-is w.has_grown-is
      | else-not-next-p w ↦ elim w.else-not-next-p.branch [
        | else-not-next-p-via-then-not-next-p+else-leads_into v ↦
            process_stays c.args.policy c.args.held.now c.args.waits.now c.args.layer.now c.loop-wait.next c.if-not-next-p.next c.loop-wait.wait-index
            c.loop-wait.has_grown c.if-not-next-p.has_grown _ c.from-p.result c.loop-wait.invariant c.loop-wait-test.true c.from-p.ensures
            (inr (v.leads_into.ensures.no v.if-leads_into.false)) w.next-is w.has_grown-is
        | else-not-next-p-via-else-not-next-p v ↦
            process_stays c.args.policy c.args.held.now c.args.waits.now c.args.layer.now c.loop-wait.next c.if-not-next-p.next c.loop-wait.wait-index
            c.loop-wait.has_grown c.if-not-next-p.has_grown _ c.from-p.result c.loop-wait.invariant c.loop-wait-test.true c.from-p.ensures
            (inl v.if-not-next-p.false) w.next-is w.has_grown-is
      ]
    ]

pub returns-then-has_grown-clause-members : goal.returns-then-has_grown-clause-members
returns-then-has_grown-clause-members c p = (
  c.loop-wait.invariant.sound p,
  λ why. elim why [
    | inl old ↦ c.loop-wait.invariant.kept p old
    | inr new ↦ all_covered c.args.policy c.args.held.now c.args.waits.now c.args.layer.now c.loop-wait.next c.loop-wait.wait-index c.loop-wait.has_grown
        c.loop-wait.invariant c.loop-wait-test.false p new.0 new.1 new.2
  ],
)

pub returns-else-has_grown-clause-closed : goal.returns-else-has_grown-clause-closed
returns-else-has_grown-clause-closed c p q waits member =
    subst (λ (l : List Bool). IsTrue (get_or l p false)) (c.loop-wait.invariant.same c.if-has_grown.false)
    (all_covered c.args.policy c.args.held.now c.args.waits.now c.args.layer.now c.loop-wait.next c.loop-wait.wait-index c.loop-wait.has_grown
    c.loop-wait.invariant c.loop-wait-test.false p q waits member)

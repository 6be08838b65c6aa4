use Rattle.script_core.proofs.Common.{List, ◌∙◌, sym, ap, subst, Held, mode_in, flock_mode_in, IsHeldReport, AsksFor, Event, is_deadlock}
use Rattle.script_core.proofs.ExplainLemmas.{cycle_found}
use Rattle.script_core.proofs.explain.deadlock_of.Goals as goal

pub returns : goal.returns
returns c =
    cycle_found (λ links. links.items) c.args.policy c.args.manager.now c.deref.result.now c.args.entry.now c.in-Some.wait c.deref-2.result.now
    c.cycle_of_traditional.result
    (ap (λ (e : Event). is_deadlock e.notes) (sym c.entry.view_is) ∙ ap is_deadlock (sym c.as_slice.ensures) ∙ sym c.is_deadlock.ensures ∙ c.if-not-is_deadlock.false)
    (λ T h. subst (λ (e : Event). AsksFor T e.p e.n e.request c.in-Some.wait) c.entry.view_is (c.in-Some.ensures.asks T h))
    (λ T h. subst (λ (l : List Held). IsHeldReport (mode_in T.changes) (flock_mode_in T.flock_changes) l) (sym c.deref.ensures.value) (c.in_ok-held.ensures T h))
    (λ T h. c.deref-2.ensures.value ∙ c.in_ok-waits.ensures T h) c.cycle_of_traditional.ensures

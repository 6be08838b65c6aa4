use Rattle.script_core.proofs.Common.{List, subst, sym, descriptor_limit, processes_of, StateLine, AreStateLines}
use Rattle.script_core.proofs.StateLemmas.{state_pushed}
use Rattle.script_core.proofs.states.push_state.Goals as goal

pub returns-clause-ok : goal.returns-clause-ok
returns-clause-ok c =
    state_pushed c.push_lines.result c.args.manager.now (descriptor_limit c.args.limits) c.args.text.now.items c.push_lines.new.text.items c.deref.result.now
    (λ S stands.
    subst (λ (l : List StateLine). AreStateLines (processes_of c.args.manager.now) (descriptor_limit c.args.limits) S l) (sym c.deref.ensures.value)
    (c.in_ok-told.ensures S stands)) c.push_lines.ensures

use Rattle.script_core.proofs.Common.{◌∙◌, List, rules, subst, sym, descriptor_limit, Held, mode_in, flock_mode_in, IsHeldReport}
use Rattle.script_core.proofs.StateLemmas.{lines_told}
use Rattle.script_core.proofs.state_lines.whole_state.Goals as goal

pub returns : goal.returns
returns c = λ S stands.
    lines_told c.args.manager.now (descriptor_limit c.args.limits) S c.deref.result.now c.deref-2.result.now c.new-told.result.items
    c.add_locks.new.told.items c.add_waits.new.told.items c.add_processes.new.told.items c.add_all_descriptors.new.told.items c.add_sections.new.told.items
    c.add_files.new.told.items stands
    (subst (λ (l : List Held). IsHeldReport (mode_in S.changes) (flock_mode_in S.flock_changes) l) (sym c.deref.ensures.value) (c.in_ok-held.ensures S stands))
    (c.deref-2.ensures.value ∙ c.in_ok-waits.ensures S stands) (search rules) c.in_ok-add_locks.ensures c.in_ok-add_waits.ensures
    c.in_ok-add_processes.ensures (c.in_ok-add_all_descriptors.ensures S stands) (c.in_ok-add_sections.ensures S stands)
    (c.in_ok-add_files.ensures S stands)

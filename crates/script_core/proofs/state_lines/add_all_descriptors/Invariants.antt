use Rattle.script_core.proofs.Common.{◌≡◌, ◌++◌, descriptor_limit, State, StandsFor}
use Rattle.script_core.specs.StateText.{all_descriptor_lines}
use Rattle.script_core.proofs.state_lines.add_all_descriptors.Given as goal

abbrev pub invariant-loop-index : goal.invariant-loop-index
invariant-loop-index l =
    (S : State) → StandsFor l.manager S → l.told.items ≡ l.fn.told.items ++ all_descriptor_lines S.descriptors (descriptor_limit l.limits) l.index

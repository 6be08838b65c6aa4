use Rattle.script_core.proofs.Common.{◌≡◌, ◌++◌, State, StandsFor}
use Rattle.script_core.specs.StateText.{descriptor_lines}
use Rattle.script_core.proofs.state_lines.add_descriptors.Given as goal

abbrev pub invariant-loop-fd : goal.invariant-loop-fd
invariant-loop-fd l = (S : State) → StandsFor l.manager S → l.told.items ≡ l.fn.told.items ++ descriptor_lines S.descriptors l.p l.fd

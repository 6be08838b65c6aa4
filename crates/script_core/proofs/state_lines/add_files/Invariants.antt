use Rattle.script_core.proofs.Common.{◌≡◌, ◌++◌, State, StandsFor}
use Rattle.script_core.specs.StateText.{size_lines}
use Rattle.script_core.proofs.state_lines.add_files.Given as goal

abbrev pub invariant-loop-file : goal.invariant-loop-file
invariant-loop-file l = (S : State) → StandsFor l.manager S → l.told.items ≡ l.fn.told.items ++ size_lines S.descriptors.sizes l.file

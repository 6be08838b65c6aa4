use Rattle.script_core.proofs.Common.{◌≡◌, ◌++◌, State, StandsFor, processes_of}
use Rattle.script_core.specs.StateText.{section_lines}
use Rattle.script_core.proofs.state_lines.add_sections.Given as goal

abbrev pub invariant-loop-section : goal.invariant-loop-section
invariant-loop-section l =
    (S : State) → StandsFor l.manager S → l.told.items ≡ l.fn.told.items ++ section_lines S.visits (processes_of l.manager) l.section

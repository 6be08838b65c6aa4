use Rattle.script_core.proofs.Common.{◌≡◌, ◌++◌, State, StandsFor}
use Rattle.script_core.specs.StateText.{visit_lines}
use Rattle.script_core.proofs.state_lines.add_visits.Given as goal

abbrev pub invariant-loop-index : goal.invariant-loop-index
invariant-loop-index l = (S : State) → StandsFor l.manager S → l.told.items ≡ l.fn.told.items ++ visit_lines S.visits l.section l.index

use Rattle.script_core.proofs.Common.{◌≡◌, ◌++◌, state_at}
use Rattle.script_core.specs.StateText.{standing_lines}
use Rattle.script_core.proofs.state_lines.add_processes.Given as goal

abbrev pub invariant-loop-index : goal.invariant-loop-index
invariant-loop-index l = l.told.items ≡ l.fn.told.items ++ standing_lines (state_at l.manager) l.index

use Rattle.script_core.proofs.Common.{◌≡◌, ◌++◌, map, take}
use Rattle.script_core.specs.declared.state_lines.StateLine.TheVariants.{Waits}
use Rattle.script_core.proofs.state_lines.add_waits.Given as goal

abbrev pub invariant-loop-wait : goal.invariant-loop-wait
invariant-loop-wait l = l.told.items ≡ l.fn.told.items ++ map Waits (take l.wait-index l.waits)

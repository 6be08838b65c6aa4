use Rattle.script_core.proofs.Common.{◌≡◌, ◌++◌, map, take}
use Rattle.script_core.specs.declared.state_lines.StateLine.TheVariants.{Held}
use Rattle.script_core.proofs.state_lines.add_locks.Given as goal

abbrev pub invariant-loop-held : goal.invariant-loop-held
invariant-loop-held l = l.told.items ≡ l.fn.told.items ++ map Held (take l.held-index l.locks)

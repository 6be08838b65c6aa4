use Rattle.script_core.proofs.Common.{◌≡◌, ◌++◌, map, take}
use Rattle.script_core.specs.declared.report.ReportLine.TheVariants.{Held}
use Rattle.script_core.proofs.report.push_locks.Given as goal

abbrev pub invariant-loop-held : goal.invariant-loop-held
invariant-loop-held l = l.lines.items ≡ l.fn.lines.items ++ map Held (take l.held-index l.locks)

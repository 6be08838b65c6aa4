use Rattle.script_core.proofs.Common.{◌≡◌, ◌++◌, map, take}
use Rattle.script_core.specs.declared.report.ReportLine.TheVariants.{Waits}
use Rattle.script_core.proofs.report.push_waits.Given as goal

abbrev pub invariant-loop-wait : goal.invariant-loop-wait
invariant-loop-wait l = l.lines.items ≡ l.fn.lines.items ++ map Waits (take l.wait-index l.waits)

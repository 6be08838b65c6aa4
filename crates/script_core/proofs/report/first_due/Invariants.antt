use Rattle.script_core.proofs.Common.{drop}
use Rattle.script_core.proofs.ReportReadingLemmas.{Owes}
use Rattle.script_core.proofs.report.first_due.Given as goal

abbrev pub invariant-loop-line : goal.invariant-loop-line
invariant-loop-line l = Owes l.lines (drop l.line-index l.lines)

use Rattle.script_core.proofs.Common.{drop}
use Rattle.script_core.proofs.ReportReadingLemmas.{SkipsTo}
use Rattle.script_core.proofs.report.passed.Given as goal

abbrev pub invariant-loop-index : goal.invariant-loop-index
invariant-loop-index l = SkipsTo l.lines l.text (drop l.index l.lines)

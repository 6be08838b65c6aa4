use Rattle.script_core.proofs.Common.{rules}
use Rattle.script_core.proofs.ReportReadingLemmas.{few_first}
use Rattle.script_core.proofs.report.ReportReader.new.Goals as goal

pub returns-clause-few : goal.returns-clause-few
returns-clause-few c =
    c.push_processes.ensures.few
    (few_first _ _ c.new-lines.result.items c.push_locks.new.lines.items c.push_waits.new.lines.items (search rules) c.in_ok-push_locks.ensures
    c.in_ok-push_waits.ensures)

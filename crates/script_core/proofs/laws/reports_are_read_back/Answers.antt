use Rattle.script_core.proofs.ReportReadingLaws.{reports_read_back}
use Rattle.script_core.proofs.laws.reports_are_read_back.Goals as goal

pub returns : goal.returns
returns c = reports_read_back c.locks_have_one_report.ensures

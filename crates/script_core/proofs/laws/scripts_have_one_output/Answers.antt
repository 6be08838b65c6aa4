use Rattle.script_core.proofs.OutputLaws.{IsOutput-unique}
use Rattle.script_core.proofs.laws.scripts_have_one_output.Goals as goal

pub returns : goal.returns
returns c = IsOutput-unique c.locks_have_one_report.ensures c.arrivals_have_one_drain.ensures

use Rattle.script_core.proofs.OutputReadingLaws.{outputs_legal}
use Rattle.script_core.proofs.laws.outputs_are_legal.Goals as goal

pub returns : goal.returns
returns c = outputs_legal c.locks_have_one_report.ensures

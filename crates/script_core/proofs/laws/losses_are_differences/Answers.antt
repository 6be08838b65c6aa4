use Rattle.script_core.proofs.gone.DifferenceLaws.{losses_are_differences}
use Rattle.script_core.proofs.laws.losses_are_differences.Goals as goal

pub returns : goal.returns
returns c = losses_are_differences c.locks_have_one_report.ensures

use Rattle.session_core.proofs.runs.GoingOnLaws.{goes_on}
use Rattle.session_core.proofs.laws.every_run_goes_on.Goals as goal

pub returns : goal.returns
returns c = goes_on c.step_has_some_outcome.ensures

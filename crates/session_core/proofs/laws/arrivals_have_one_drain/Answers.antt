use Rattle.session_core.proofs.runs.DrainLaws.{IsDrain-unique}
use Rattle.session_core.proofs.laws.arrivals_have_one_drain.Goals as goal

pub returns : goal.returns
returns c = IsDrain-unique c.step_has_one_outcome.ensures

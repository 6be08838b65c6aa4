use Rattle.lock_manager.proofs.unique.OutcomeLaws.{Step-unique}
use Rattle.lock_manager.proofs.laws.step_has_one_outcome.Goals as goal

pub returns : goal.returns
returns c = Step-unique

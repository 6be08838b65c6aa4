use Rattle.lock_manager.proofs.some.WholeLemmas.{some_step}
use Rattle.lock_manager.proofs.laws.step_has_some_outcome.Goals as goal

pub returns : goal.returns
returns c = some_step

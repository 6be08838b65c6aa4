use Rattle.lock_manager.proofs.apart.ApartLemmas.{step_moves}
use Rattle.lock_manager.proofs.laws.sections_change_nothing_else.Goals as goal

pub returns : goal.returns
returns c = step_moves

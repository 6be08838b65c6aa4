use Rattle.lock_manager.proofs.Common.{arith, common_steps}
use Rattle.lock_manager.proofs.calls.AskingLemmas.{first_at}
use Rattle.lock_manager.proofs.machine.asking.first_flock.Goals as goal

pub returns-then-is_flock_against : goal.returns-then-is_flock_against
returns-then-is_flock_against c = grind (arith, common_steps, first_at)

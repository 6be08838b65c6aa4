use Rattle.lock_manager.proofs.Common.{arith, common_steps}
use Rattle.lock_manager.proofs.calls.AskingLemmas.{first_at}
use Rattle.lock_manager.proofs.machine.asking.first_conflicting.Goals as goal

pub returns-then-conflicts_with : goal.returns-then-conflicts_with
returns-then-conflicts_with c = grind (arith, common_steps, first_at)

use Rattle.script_core.proofs.Common.{arith, common_steps}
use Rattle.script_core.proofs.DeadlockLemmas.{first_at}
use Rattle.script_core.proofs.deadlock.first_wait.Goals as goal

pub returns-then-is_wait_against : goal.returns-then-is_wait_against
returns-then-is_wait_against c = grind (arith, common_steps, first_at)

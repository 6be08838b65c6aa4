use Rattle.script_core.proofs.Common.{arith, common_steps}
use Rattle.script_core.proofs.DeadlockLemmas.{first_at}
use Rattle.script_core.proofs.deadlock.first_lock.Goals as goal

pub returns-then-is_lock_against : goal.returns-then-is_lock_against
returns-then-is_lock_against c = grind (arith, common_steps, first_at)

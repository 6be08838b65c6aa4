use Rattle.script_core.proofs.Common.{arith, common_steps}
use Rattle.script_core.proofs.DeadlockLemmas.{leads_some}
use Rattle.script_core.proofs.deadlock.leads_into.Goals as goal

pub returns-clause-yes : goal.returns-clause-yes
returns-clause-yes c is = grind (arith, common_steps, leads_some)

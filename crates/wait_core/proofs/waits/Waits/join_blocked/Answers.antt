use Rattle.wait_core.proofs.Common.{arith, common_steps, waits_of, policy_of, changed_files}
use Rattle.wait_core.proofs.SettledLemmas.{elsewhere_joined}
use Rattle.wait_core.proofs.waits.Waits.join_blocked.Goals as goal

pub returns-clause-blocked : goal.returns-clause-blocked
unfolding waits_of policy_of changed_files
returns-clause-blocked c was = grind (arith, common_steps, elsewhere_joined)

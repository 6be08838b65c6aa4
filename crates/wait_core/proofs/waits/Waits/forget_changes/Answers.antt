use Rattle.wait_core.proofs.Common.{arith, common_steps, changed_files, waits_of, policy_of}
use Rattle.wait_core.proofs.SettledLemmas.{elsewhere_all}
use Rattle.wait_core.proofs.waits.Waits.forget_changes.Goals as goal

pub returns-clause-blocked : goal.returns-clause-blocked
unfolding waits_of policy_of changed_files
returns-clause-blocked c locks all = grind (arith, common_steps, elsewhere_all)

use Rattle.script_core.proofs.Common.{arith, common_steps}
use Rattle.script_core.proofs.StateLemmas.{changes_pushed}
use Rattle.script_core.proofs.states.push_changes.Goals as goal

pub returns-clause-ok : goal.returns-clause-ok
returns-clause-ok c = grind (arith, common_steps, changes_pushed)

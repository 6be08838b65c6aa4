use Rattle.script_core.proofs.Common.{arith, append-nil, common_steps}
use Rattle.script_core.proofs.explain.push_ended_of.Goals as goal

pub returns-in-Some-clause-ok : goal.returns-in-Some-clause-ok
returns-in-Some-clause-ok c = grind (arith, common_steps)

pub returns-in-None-clause-ok : goal.returns-in-None-clause-ok
returns-in-None-clause-ok c = grind (arith, common_steps, append-nil)

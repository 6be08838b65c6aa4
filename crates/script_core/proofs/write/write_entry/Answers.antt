use Rattle.script_core.proofs.Common.{arith, common_steps}
use Rattle.script_core.proofs.TextLemmas.{cut_back}
use Rattle.script_core.proofs.write.write_entry.Goals as goal

pub returns-in-Err-clause-err : goal.returns-in-Err-clause-err
returns-in-Err-clause-err c = grind (arith, common_steps, cut_back)

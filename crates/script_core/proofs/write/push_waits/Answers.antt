use Rattle.script_core.proofs.Common.{arith, common_steps, err_from_is_err_and}
use Rattle.script_core.proofs.TextLemmas.{kept_behind}
use Rattle.script_core.proofs.write.push_waits.Goals as goal

pub returns-in_err-push_wait : goal.returns-in_err-push_wait
returns-in_err-push_wait c = grind (arith, common_steps, err_from_is_err_and, kept_behind)

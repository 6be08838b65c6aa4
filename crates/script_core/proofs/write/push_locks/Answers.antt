use Rattle.script_core.proofs.Common.{arith, common_steps, err_from_is_err_and}
use Rattle.script_core.proofs.TextLemmas.{kept_behind}
use Rattle.script_core.proofs.write.push_locks.Goals as goal

pub returns-in_err-push_held : goal.returns-in_err-push_held
returns-in_err-push_held c = grind (arith, common_steps, err_from_is_err_and, kept_behind)

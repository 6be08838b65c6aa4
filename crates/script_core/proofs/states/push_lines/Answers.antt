use Rattle.script_core.proofs.Common.{arith, common_steps, err_from_is_err_and}
use Rattle.script_core.proofs.TextLemmas.{kept_behind}
use Rattle.script_core.proofs.states.push_lines.Goals as goal

pub returns-in_err-push_marked : goal.returns-in_err-push_marked
returns-in_err-push_marked c = grind (arith, common_steps, err_from_is_err_and, kept_behind)

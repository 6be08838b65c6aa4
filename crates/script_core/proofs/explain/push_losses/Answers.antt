use Rattle.script_core.proofs.Common.{arith, common_steps, err_from_is_err_and}
use Rattle.script_core.proofs.TextLemmas.{kept_behind}
use Rattle.script_core.proofs.explain.push_losses.Goals as goal

pub returns-in_err-push_loss : goal.returns-in_err-push_loss
returns-in_err-push_loss c = grind (arith, common_steps, err_from_is_err_and, kept_behind)

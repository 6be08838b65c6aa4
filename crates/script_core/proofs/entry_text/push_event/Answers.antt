use Rattle.script_core.proofs.Common.{arith, common_steps, err_from_is_err_and}
use Rattle.script_core.proofs.TextLemmas.{kept_behind}
use Rattle.script_core.proofs.entry_text.push_event.Goals as goal

pub returns-in_err-push_note : goal.returns-in_err-push_note
returns-in_err-push_note c = grind (arith, common_steps, err_from_is_err_and, kept_behind)

use Rattle.script_core.proofs.Common.{common_steps, err_from_is_err_and, rules, append_assoc, arith}
use Rattle.script_core.proofs.TextLemmas.{join_words, kept_behind}
use Rattle.script_core.proofs.request_text.push_lock.Goals as goal

pub returns-in_err-push_integer-2 : goal.returns-in_err-push_integer-2
returns-in_err-push_integer-2 c = grind (arith, common_steps, err_from_is_err_and, kept_behind)

pub returns : goal.returns
returns c = search (rules, append_assoc, join_words)

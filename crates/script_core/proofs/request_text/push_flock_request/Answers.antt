use Rattle.script_core.proofs.Common.{rules, append_assoc}
use Rattle.script_core.proofs.TextLemmas.{join_words}
use Rattle.script_core.proofs.request_text.push_flock_request.Goals as goal

pub returns : goal.returns
returns c = search (rules, append_assoc, join_words)

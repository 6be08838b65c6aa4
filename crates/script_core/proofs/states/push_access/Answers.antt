use Rattle.script_core.proofs.Common.{rules, append_assoc}
use Rattle.script_core.proofs.states.push_access.Goals as goal

pub returns : goal.returns
returns c = search (rules, append_assoc)

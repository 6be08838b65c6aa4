use Rattle.script_core.proofs.EntryLemmas.{one_entry}
use Rattle.script_core.proofs.entry.parse_entry.Goals as goal

pub returns-clause-determined : goal.returns-clause-determined
returns-clause-determined c = one_entry c.args.limits c.args.line.now

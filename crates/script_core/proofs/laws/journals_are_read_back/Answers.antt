use Rattle.script_core.proofs.JournalBackLemmas.{entries_read_back, journals_read_back}
use Rattle.script_core.proofs.laws.journals_are_read_back.Goals as goal

pub returns-clause-read : goal.returns-clause-read
returns-clause-read c = entries_read_back

pub returns-clause-legal : goal.returns-clause-legal
returns-clause-legal c = journals_read_back

use Rattle.script_core.proofs.JournalLemmas.{one_end}
use Rattle.script_core.proofs.laws.journals_have_one_end.Goals as goal

pub returns : goal.returns
returns c = one_end

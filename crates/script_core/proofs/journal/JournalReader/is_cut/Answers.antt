use Rattle.script_core.proofs.Common.{arith, common_steps}
use Rattle.script_core.proofs.JournalSeamLemmas.{cut_is}
use Rattle.script_core.proofs.journal.JournalReader.is_cut.Goals as goal

pub returns-in-Report-Some : goal.returns-in-Report-Some
returns-in-Report-Some c = grind (arith, common_steps, cut_is)

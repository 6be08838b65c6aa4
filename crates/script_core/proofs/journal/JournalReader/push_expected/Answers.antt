use Rattle.script_core.proofs.Common.{arith, common_steps}
use Rattle.script_core.proofs.JournalSeamLemmas.{expected_due}
use Rattle.script_core.proofs.journal.JournalReader.push_expected.Goals as goal

pub returns-in-None-default-Some : goal.returns-in-None-default-Some
returns-in-None-default-Some c = grind (arith, common_steps, expected_due)

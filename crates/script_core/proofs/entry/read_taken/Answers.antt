use Rattle.script_core.proofs.Common.{arith, common_steps}
use Rattle.script_core.proofs.NoteLemmas.{taken_first_words}
use Rattle.script_core.proofs.entry.read_taken.Goals as goal

pub returns : goal.returns
returns c = grind (arith, common_steps, taken_first_words)

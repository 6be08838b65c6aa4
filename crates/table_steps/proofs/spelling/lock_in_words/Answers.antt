use Rattle.table_steps.proofs.Common.{arith, common_steps}
use Rattle.std.proofs.lemmas.Int.{to_z-of_z}
use Rattle.table_steps.proofs.spelling.lock_in_words.Goals as goal

pub returns : goal.returns
returns c = grind (arith, common_steps, to_z-of_z)

use Rattle.wait_core.proofs.Common.{arith, common_steps}
use Rattle.wait_core.proofs.ProcessLemmas.{none_in}
use Rattle.wait_core.proofs.pairs.row_of.Goals as goal

pub returns-then-is_traditional : goal.returns-then-is_traditional
returns-then-is_traditional c q one few = grind (arith, common_steps)

pub returns-else-is_traditional : goal.returns-else-is_traditional
returns-else-is_traditional c q one few = grind (arith, common_steps, none_in)

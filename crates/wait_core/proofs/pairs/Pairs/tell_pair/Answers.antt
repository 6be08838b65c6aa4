use Rattle.wait_core.proofs.Common.{arith, common_steps, pair_in}
use Rattle.wait_core.proofs.pairs.Pairs.tell_pair.Goals as goal

pub returns-clause-told : goal.returns-clause-told
unfolding pair_in
returns-clause-told c locks same = let told = c.waits_for-blocks.ensures locks same in grind (arith, common_steps)

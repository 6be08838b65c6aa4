use Rattle.wait_core.proofs.Common.{common_steps, arith, pair_in}
use Rattle.wait_core.proofs.PairLemmas.{put_row}
use Rattle.wait_core.proofs.pairs.Pairs.tell.Goals as goal

pub returns-clause-told : goal.returns-clause-told
unfolding pair_in
returns-clause-told c q one few = grind (arith, common_steps, put_row)

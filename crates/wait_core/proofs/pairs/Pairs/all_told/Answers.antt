use Rattle.wait_core.proofs.Common.{common_steps, arith, cases_lt, pair_in}
use Rattle.wait_core.proofs.PairLemmas.{none_past}
use Rattle.wait_core.proofs.pairs.Pairs.all_told.Goals as goal

pub returns : goal.returns
unfolding pair_in
returns c p q known = grind (arith, common_steps, cases_lt, none_past)

use Rattle.wait_core.proofs.Common.{common_steps, arith, cases_lt, pair_in}
use Rattle.wait_core.proofs.PairLemmas.{put_row, none_past}
use Rattle.wait_core.proofs.ProcessLemmas.{none_in}
use Rattle.wait_core.proofs.pairs.Pairs.forget.Goals as goal

pub returns-in-Some-clause-forgotten : goal.returns-in-Some-clause-forgotten
unfolding pair_in
returns-in-Some-clause-forgotten c q has = grind (arith, common_steps, put_row, none_in)

pub returns-in_default-clause-forgotten : goal.returns-in_default-clause-forgotten
unfolding pair_in
returns-in_default-clause-forgotten c q = grind (arith, common_steps, cases_lt, none_past)

use Rattle.history_judge.proofs.MergeLemmas.{reached_apart}
use Rattle.history_judge.proofs.laws.orders_are_judged_apart.Goals as goal

pub returns : goal.returns
returns c = reached_apart

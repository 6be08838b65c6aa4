use Rattle.history_judge.proofs.MergeLemmas.{ends_apart}
use Rattle.history_judge.proofs.laws.ends_are_judged_apart.Goals as goal

pub returns : goal.returns
returns c = ends_apart

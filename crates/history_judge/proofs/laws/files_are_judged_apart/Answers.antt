use Rattle.history_judge.proofs.MergeLemmas.{legal_apart}
use Rattle.history_judge.proofs.laws.files_are_judged_apart.Goals as goal

pub returns : goal.returns
returns c = legal_apart

use Rattle.std.proofs.Common.{refl, rules}
use Rattle.history_check.proofs.CheckLemmas.{fresh}
use Rattle.history_check.proofs.check.HistoryCheck.new.Goals as goal

pub returns-clause-checked : goal.returns-clause-checked
returns-clause-checked c = fresh c.args.judging _ refl (search rules) (search rules) (search rules) (search rules) (search rules) refl refl

use Rattle.history_judge.proofs.JudgeLemmas.{puts_updated}
use Rattle.history_judge.proofs.judge.remove_request.Goals as goal

pub returns : goal.returns
returns c = puts_updated c.args.opened.now c.remove.new.self c.args.id _ c.remove.ensures.updates

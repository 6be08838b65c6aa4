use Rattle.history_judge.proofs.JudgeLemmas.{puts_updated}
use Rattle.history_judge.proofs.judge.put_request.Goals as goal

pub returns-clause-ok : goal.returns-clause-ok
returns-clause-ok c = puts_updated c.args.opened.now c.insert.new.self c.args.sent.request.id _ c.in_ok-insert.ensures.updates

use Rattle.history_judge.proofs.JudgeLemmas.{ends_told, exceeds_there}
use Rattle.history_judge.proofs.judge.HistoryJudge.may_end.Goals as goal

pub returns-clause-ok : goal.returns-clause-ok
returns-clause-ok c = ends_told c.args.self.now c.may_end.result c.may_end.ensures.ok

pub returns-clause-room : goal.returns-clause-room
returns-clause-room c = c.may_end.ensures.room

pub returns-clause-limit : goal.returns-clause-limit
returns-clause-limit c told = exceeds_there c.args.self.now c.args.limit (c.may_end.ensures.limit told)

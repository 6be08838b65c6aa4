use Rattle.replay_core.proofs.VerdictLaws.{one_verdict, verdicts_are_of_ends}
use Rattle.replay_core.proofs.laws.journals_have_one_verdict.Goals as goal

pub returns-clause-one : goal.returns-clause-one
returns-clause-one c = one_verdict c.lines_have_one_answer.ensures.meaning c.lines_have_one_answer.ensures.told

pub returns-clause-ends : goal.returns-clause-ends
returns-clause-ends c = verdicts_are_of_ends

use Rattle.script_core.proofs.AnswerLaws.{one_meaning_each, one_told}
use Rattle.script_core.proofs.laws.lines_have_one_answer.Goals as goal

pub returns-clause-meaning : goal.returns-clause-meaning
returns-clause-meaning c = one_meaning_each

pub returns-clause-told : goal.returns-clause-told
returns-clause-told c = one_told c.locks_have_one_report.ensures c.step_has_one_outcome.ensures

use Rattle.std.proofs.Common.{Err, ap}
use Rattle.history_judge.specs.declared.fault.JudgeFault.{JudgeFault}
use Rattle.history_check.proofs.reading.answer.Goals as goal

pub returns-in-Err-Impossible-clause-illegal : goal.returns-in-Err-Impossible-clause-illegal
returns-in-Err-Impossible-clause-illegal c = λ no.
    c.in-Err-Impossible.ensures.illegal (ap (λ (fault : JudgeFault). Err fault) c.in-Err-Impossible.field-0-is)

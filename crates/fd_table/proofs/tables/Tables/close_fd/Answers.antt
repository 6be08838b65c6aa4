use Rattle.fd_table.proofs.Common.{Descriptors, without_one}
use Rattle.fd_table.proofs.EntryLemmas.{some_is}
use Rattle.fd_table.proofs.CallLemmas.{same}
use Rattle.fd_table.proofs.ReleasedLemmas.{released_one}
use Rattle.fd_table.proofs.tables.Tables.close_fd.Goals as goal

pub returns-in-Some-clause-step : goal.returns-in-Some-clause-step
returns-in-Some-clause-step c = λ D h.
    let step = c.in-Some.ensures.step D h in
    let after : Descriptors = without_one D c.args.p c.args.fd in (
      after,
      (
        some_is (D.description_of c.args.p c.args.fd) step.0.description step.0.refers,
        same after,
        rw c.of.ensures (released_one D after c.args.p c.args.fd c.in-Some.closed step.0 (λ x. (λ o. o, λ o. o))),
      ),
      step.1,
    )

use Rattle.expectations.proofs.run.run_of.Goals as goal

pub returns : goal.returns
returns c =
    let drained = c.in_ok-session.ensures.drained in
    record { state = drained.0; drained = drained.1; is_report = c.in_ok-report.ensures drained.0 drained.2 }

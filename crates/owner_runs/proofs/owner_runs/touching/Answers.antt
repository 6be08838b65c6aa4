use Rattle.owner_runs.proofs.TouchingLemmas.{touching_between}
use Rattle.owner_runs.proofs.owner_runs.touching.Goals as goal

pub returns-clause-runs : goal.returns-clause-runs
returns-clause-runs c modes are =
    touching_between c.args.runs.now c.args.span c.touched-start.result.0 c.touched-start.result.1 c.touched-start.ensures modes are

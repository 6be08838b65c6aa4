use Rattle.std.proofs.Common.{sym, subst}
use Rattle.owner_runs.specs.Lists.{modes_of}
use Rattle.owner_runs.specs.Trees.{AreRunsTouching}
use Rattle.owner_runs.proofs.owner_runs.OwnerRuns.touching.Goals as goal

pub returns-in-Listed-clause-runs : goal.returns-in-Listed-clause-runs
returns-in-Listed-clause-runs c =
    let modes = modes_of c.args.self.now in
    subst (AreRunsTouching modes c.args.span) (sym c.of_list.ensures) (c.touching.ensures.runs modes c.in-Listed.ensures.0)

use Rattle.std.proofs.Common.{sym}
use Rattle.owner_runs.proofs.ExtentLemmas.{extent_of_runs}
use Rattle.owner_runs.proofs.owner_runs.extent_of.Goals as goal

pub returns-clause-extent : goal.returns-clause-extent
returns-clause-extent c modes are =
    extent_of_runs modes c.args.runs.now c.in_ok-first.first.now c.in_ok-last.last.now are c.requires (sym c.in_ok-first.ensures.value) (sym c.in_ok-last.ensures.value)

use Rattle.lock_server.proofs.Common.{◌++◌, ◌∷◌, []}
use Rattle.lock_server.proofs.AskingLemmas.{within_moved}
use Rattle.lock_server.proofs.hull.HullSummaryPending.add.Goals as goal

pub returns : goal.returns
returns c front back within =
    within_moved c.append.new.self front back c.args.wait.now (c.append.ensures (front ++ back) (c.args.wait.now ∷ []) within c.of.ensures)

use Rattle.lock_server.proofs.Common.{PendingsConflict}
use Rattle.lock_server.proofs.AskingLemmas.{conflicting_test, same_test}
use Rattle.lock_server.proofs.asking.ConflictingQueryPendingHull.hits.Goals as goal

pub returns : goal.returns
returns c = same_test c.conflicts_with.result _ (PendingsConflict c.args.wait.now c.args.self.now.0) c.conflicts_with.ensures (conflicting_test c.args.wait.now c.args.self.now.0)

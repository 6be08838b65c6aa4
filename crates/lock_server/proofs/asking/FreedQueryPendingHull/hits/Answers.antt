use Rattle.lock_server.proofs.Common.{IsAmong}
use Rattle.lock_server.proofs.AskingLemmas.{among_test, same_test}
use Rattle.lock_server.proofs.asking.FreedQueryPendingHull.hits.Goals as goal

pub returns : goal.returns
returns c = same_test c.contains.result _ (IsAmong c.args.self.now c.args.wait.now) c.contains.ensures (among_test c.args.self.now c.args.wait.now)

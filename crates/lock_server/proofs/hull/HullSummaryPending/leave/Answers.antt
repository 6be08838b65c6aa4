use Rattle.lock_server.proofs.AskingLemmas.{within_left}
use Rattle.lock_server.proofs.hull.HullSummaryPending.leave.Goals as goal

pub returns : goal.returns
returns c front back within stays = within_left c.args.self.now front back c.args.wait.now within

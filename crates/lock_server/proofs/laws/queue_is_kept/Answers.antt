use Rattle.lock_server.proofs.QueueLaws.{queue_kept}
use Rattle.lock_server.proofs.laws.queue_is_kept.Goals as goal

pub returns : goal.returns
returns c = queue_kept

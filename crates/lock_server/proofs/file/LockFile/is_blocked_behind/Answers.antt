use Rattle.lock_server.proofs.Common.{take, file_state, HasAlready}
use Rattle.lock_server.proofs.ListLemmas.{queued}
use Rattle.lock_server.proofs.file.LockFile.is_blocked_behind.Goals as goal

pub returns-else-holds_back : goal.returns-else-holds_back
unfolding file_state
returns-else-holds_back c =
    let F = file_state c.args.self.now in
    rw c.in-Queue.is (queued F (take c.args.before F.waits) c.args.wait.now (HasAlready F c.args.wait.now) c.is_queued_behind.result
    (λ held. let yes = c.holds_back-in-Queue.ensures.1 held in let none = c.if-holds_back.false in cc) c.is_queued_behind.ensures)

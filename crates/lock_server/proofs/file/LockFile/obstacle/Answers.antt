use Rattle.lock_server.proofs.Common.{take, arith, common_steps, file_state}
use Rattle.lock_server.proofs.ListingLemmas.{free_alone, free_in_queue}
use Rattle.lock_server.proofs.file.LockFile.obstacle.Goals as goal

pub returns-in-Some-clause-some : goal.returns-in-Some-clause-some
returns-in-Some-clause-some c = c.in-Some.ensures.some c.args.policy (take c.args.before (file_state c.args.self.now).waits)

pub returns-in-Held-clause-none : goal.returns-in-Held-clause-none
returns-in-Held-clause-none c =
    let F = file_state c.args.self.now in
    free_alone c.args.policy F (take c.args.before F.waits) c.args.wait.now c.in-Held.is c.in_default.ensures.none

pub returns-in_err-ticket-in-Queue-clause-none : goal.returns-in_err-ticket-in-Queue-clause-none
returns-in_err-ticket-in-Queue-clause-none c =
    let F = file_state c.args.self.now in
    let free = free_in_queue c.args.policy F (take c.args.before F.waits) c.args.wait.now c.in-Queue.is c.in_default.ensures.none c.in_err-ticket-in-Queue.ensures.none in
    grind (arith, common_steps, free)

pub returns-in_ok-ticket-in-Queue-clause-some : goal.returns-in_ok-ticket-in-Queue-clause-some
returns-in_ok-ticket-in-Queue-clause-some c = (c.in-Queue.is, c.in_default.ensures.none, c.in_ok-ticket-in-Queue.ensures.some)

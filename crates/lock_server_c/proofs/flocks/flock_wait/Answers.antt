use Rattle.lock_server_c.proofs.ToldLemmas.{taken_told}
use Rattle.lock_server_c.proofs.flocks.flock_wait.Goals as goal

pub returns-clause-taken : goal.returns-clause-taken
returns-clause-taken c =
    taken_told c.args.handle.now.server c.server.result.now c.flock_wait-answer.result c.wait_status.result c.args.ticket c.server.ensures.server
    c.wait_status.ensures c.flock_wait-answer.ensures.taken

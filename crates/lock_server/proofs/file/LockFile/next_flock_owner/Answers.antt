use Rattle.lock_server.proofs.Common.{file_state, number_behind}
use Rattle.lock_server.proofs.FlockOwnerLemmas.{known_least, known_none}
use Rattle.lock_server.proofs.file.LockFile.next_flock_owner.Goals as goal

pub returns-clause-least : goal.returns-clause-least
unfolding file_state
returns-clause-least c =
    let file = c.args.self.now in
    known_least file.flock_owners file.book file.known (number_behind c.args.above) c.next_in.result c.next_in.ensures.least

pub returns-clause-none : goal.returns-clause-none
unfolding file_state
returns-clause-none c =
    let file = c.args.self.now in
    known_none file.flock_owners file.book file.known (number_behind c.args.above) c.next_in.result c.next_in.ensures.none

use Rattle.lock_server.proofs.Common.{modes_of, file_state}
use Rattle.lock_server.proofs.HasLockLemmas.{list_told}
use Rattle.lock_server.proofs.file.LockFile.has_byte_lock.Goals as goal

pub returns-in-Some : goal.returns-in-Some
unfolding file_state
returns-in-Some c =
    list_told (file_state c.args.self.now) c.args.owner (modes_of c.in-Some.list.now) c.in-Some.ensures c.is_empty.result c.is_empty.ensures.free c.is_empty.ensures.held

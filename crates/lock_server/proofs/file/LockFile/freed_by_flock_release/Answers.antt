use Rattle.lock_server.proofs.Common.{sym, file_state}
use Rattle.lock_server.proofs.FreedLemmas.{flock_frees_nobody, flock_frees_there}
use Rattle.lock_server.proofs.file.LockFile.freed_by_flock_release.Goals as goal

pub returns-in-Some : goal.returns-in-Some
returns-in-Some c = λ policy. flock_frees_there policy (file_state c.args.self.now) c.args.owner _

pub returns-in-None : goal.returns-in-None
returns-in-None c = λ policy. flock_frees_nobody policy (file_state c.args.self.now) c.args.owner (sym c.in-None.ensures)

use Rattle.lock_server.proofs.Common.{file_state}
use Rattle.lock_server.proofs.FreedLemmas.{release_frees_nobody, release_frees_there}
use Rattle.lock_server.proofs.file.LockFile.freed_by_release.Goals as goal

pub returns-in-Some : goal.returns-in-Some
returns-in-Some c = λ policy. release_frees_there policy (file_state c.args.self.now) c.args.owner c.in-Some.span c.in-Some.ensures.some

pub returns-in-None : goal.returns-in-None
returns-in-None c = λ policy. release_frees_nobody policy (file_state c.args.self.now) c.args.owner c.in-None.ensures.none

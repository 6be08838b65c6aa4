use Rattle.lock_server.proofs.Common.{arith, common_steps}
use Rattle.lock_server.proofs.HasLockLemmas.{flock_told}
use Rattle.lock_server.proofs.file.LockFile.has_flock_lock.Goals as goal

pub returns : goal.returns
returns c = grind (arith, common_steps, flock_told)

use Rattle.lock_server.proofs.Common.{arith, common_steps}
use Rattle.lock_server.proofs.ListingLemmas.{not_held_by_flock}
use Rattle.lock_server.proofs.file.LockFile.lock_in_the_way.Goals as goal

pub returns-in_err-lock-in-Whole-clause-none : goal.returns-in_err-lock-in-Whole-clause-none
returns-in_err-lock-in-Whole-clause-none c = grind (arith, common_steps, not_held_by_flock)

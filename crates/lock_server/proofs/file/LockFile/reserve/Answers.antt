use Rattle.lock_server.proofs.Common.{common_steps, arith, file_state, keeps_place}
use Rattle.lock_server.proofs.file.LockFile.reserve.Goals as goal

pub returns-in-Whole-clause-same : goal.returns-in-Whole-clause-same
unfolding file_state
returns-in-Whole-clause-same c = grind (arith, common_steps)

pub returns-in-Whole-clause-ok : goal.returns-in-Whole-clause-ok
unfolding file_state keeps_place
returns-in-Whole-clause-ok c = grind (arith, common_steps)

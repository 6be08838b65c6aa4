use Rattle.lock_server.proofs.Common.{arith, common_steps}
use Rattle.lock_server.proofs.ClosingLemmas.{closes_flock, closes_nobody}
use Rattle.lock_server.proofs.GrantedMoves.{crosses_itself}
use Rattle.lock_server.proofs.table.Table.release_flock_of.Goals as goal

pub returns-in-Some-clause-closes : goal.returns-in-Some-clause-closes
returns-in-Some-clause-closes c = grind (arith, common_steps, closes_flock)

pub returns-in_default-clause-closes : goal.returns-in_default-clause-closes
returns-in_default-clause-closes c = grind (arith, common_steps, closes_nobody, crosses_itself)

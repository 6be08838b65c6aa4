use Rattle.lock_server.proofs.Common.{arith, common_steps}
use Rattle.lock_server.proofs.RoomLemmas.{HasRoom-kept, KeepsRoom-reserves}
use Rattle.lock_server.proofs.file.LockFile.place_flock.Goals as goal

pub invariant_of-self : goal.invariant_of-self
invariant_of-self c = grind (arith, common_steps, HasRoom-kept, KeepsRoom-reserves)

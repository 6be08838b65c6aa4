use Rattle.lock_manager.proofs.Common.{common_steps, arith, machine_waits}
use Rattle.lock_manager.proofs.kept.SuspendLemmas.{room_joined}
use Rattle.lock_manager.proofs.machine.Machine.suspend.Goals as goal

pub join-requires-clause-room : goal.join-requires-clause-room
unfolding machine_waits
join-requires-clause-room c = grind (arith, common_steps, room_joined)

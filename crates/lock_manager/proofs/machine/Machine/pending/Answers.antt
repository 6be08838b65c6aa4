use Rattle.lock_manager.proofs.Common.{common_steps, arith, machine_processes, machine_state, machine_waits}
use Rattle.lock_manager.proofs.kept.ProcessLemmas.{place_of_live}
use Rattle.lock_manager.proofs.kept.SuspendLemmas.{no_wait, some_of}
use Rattle.lock_manager.proofs.kept.WaitLemmas.{waits_of_others}
use Rattle.lock_manager.proofs.machine.Machine.pending.Goals as goal

pub returns-clause-few : goal.returns-clause-few
unfolding machine_processes machine_state machine_waits
returns-clause-few c p live = grind (arith, common_steps, place_of_live, some_of, no_wait, waits_of_others)

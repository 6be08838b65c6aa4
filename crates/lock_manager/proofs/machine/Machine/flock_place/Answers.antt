use Rattle.lock_manager.proofs.Common.{common_steps, arith, machine_locks}
use Rattle.lock_manager.proofs.kept.BookLemmas.{book_at}
use Rattle.lock_manager.proofs.machine.Machine.flock_place.Goals as goal

pub returns-clause-mode : goal.returns-clause-mode
unfolding machine_locks
returns-clause-mode c = grind (arith, common_steps, book_at)

pub returns-clause-place : goal.returns-clause-place
returns-clause-place c = grind (arith, common_steps, book_at)

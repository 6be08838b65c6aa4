use Rattle.lock_manager.proofs.Common.{common_steps, arith, machine_locks}
use Rattle.lock_manager.proofs.kept.BookLemmas.{book_at}
use Rattle.lock_manager.proofs.kept.UnlockLemmas.{none_held_at}
use Rattle.lock_manager.proofs.machine.Machine.holds_some.Goals as goal

pub returns-in-Some : goal.returns-in-Some
unfolding machine_locks
returns-in-Some c free byte covers = grind (arith, common_steps, none_held_at, book_at)

pub returns-in-None : goal.returns-in-None
unfolding machine_locks
returns-in-None c free byte covers = grind (arith, common_steps, none_held_at, book_at)

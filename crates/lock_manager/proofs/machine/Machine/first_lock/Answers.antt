use Rattle.lock_manager.proofs.Common.{common_steps, ◌<◌, length, arith, machine_locks}
use Rattle.lock_manager.proofs.kept.BookLemmas.{book_at}
use Rattle.lock_manager.proofs.calls.AskingLemmas.{first_of_bytes, first_of_flocks}
use Rattle.lock_manager.proofs.machine.Machine.first_lock.Goals as goal

pub returns-in-Bytes : goal.returns-in-Bytes
unfolding machine_locks
returns-in-Bytes c = grind (arith, common_steps, first_of_bytes, book_at)

pub returns-in_ok-held-in-Whole : goal.returns-in_ok-held-in-Whole
unfolding machine_locks
returns-in_ok-held-in-Whole c =
    let books = c.args.self.now.books.items in
    let wait = c.args.wait.now in
    let book = c.index-book.result.now in
    let within : wait.file < length books = omega arith in
    first_of_flocks books book wait c.in_ok-held-in-Whole.field-0.items c.deref.result.now c.first_flock.result
    (book_at books c.from.result wait.file book c.from.ensures within c.index-book.ensures) c.in-Whole.is c.deref.ensures.value c.in_ok-held-in-Whole.ensures.report
    c.first_flock.ensures

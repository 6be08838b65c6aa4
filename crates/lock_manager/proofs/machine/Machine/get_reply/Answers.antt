use Rattle.lock_manager.proofs.Common.{common_steps, ◌≡◌, ◌<◌, length, arith, byte_modes_of, machine_locks}
use Rattle.lock_manager.proofs.kept.BookLemmas.{book_at}
use Rattle.lock_manager.proofs.calls.CommandLemmas.{tells_at, tells_blocker}
use Rattle.lock_manager.proofs.machine.Machine.get_reply.Goals as goal

pub returns-in-Some : goal.returns-in-Some
unfolding machine_locks
returns-in-Some c =
    let books = c.args.self.now.books.items in
    let within : c.args.file < length books = omega arith in
    let book = c.index.result.now in
    tells_at books c.args.file book c.args.owner c.args.span c.args.mode (λ reply. c.held_reply.result ≡ reply)
    (book_at books c.from.result c.args.file book c.from.ensures within c.index.ensures)
    (tells_blocker (byte_modes_of book) c.args.owner c.args.span c.args.mode (λ reply. c.held_reply.result ≡ reply) c.in-Some.blocker c.in-Some.ensures.some c.held_reply.ensures)

pub returns-in-None : goal.returns-in-None
unfolding machine_locks
returns-in-None c = grind (arith, common_steps, tells_at, book_at)

use Rattle.lock_book.proofs.Common.{arith, ◌≡◌, ◌≢◌, not, true, sym, common_steps, not-true, modes_of, Process, byte_modes_of}
use Rattle.lock_book.proofs.OwnerLemmas.{owner_eq, different_from_eq}
use Rattle.lock_book.proofs.BookLemmas.{byte_modes_of-list, list_of-found, list_of-not_found}
use Rattle.lock_book.proofs.BlockLemmas.{ProcessBlocks-hit, ProcessBlocks-none}
use Rattle.lock_book.proofs.book.Book.process_blocks.Goals as goal

pub returns-then-ne : goal.returns-then-ne
returns-then-ne c =
    let test : true ≡ not (owner_eq (Process c.args.process) c.args.owner) = c.if-ne.ensures in
    let different : Process c.args.process ≢ c.args.owner = different_from_eq _ _ (not-true _ (sym test)) in
    let modes : byte_modes_of c.args.self.now (Process c.args.process) ≡ modes_of c.in-Some.list.now =
    byte_modes_of-list _ _ _ (list_of-found _ _ _ _ c.get.ensures c.in-Some.is) in
    rw c.is_some.ensures (ProcessBlocks-hit _ _ _ _ _ c.first_hit.result different
    (rw modes c.first_hit.ensures.hit) (rw modes c.first_hit.ensures.none))

pub returns-in-None : goal.returns-in-None
returns-in-None c = grind (arith, common_steps, byte_modes_of-list, list_of-not_found, ProcessBlocks-none)

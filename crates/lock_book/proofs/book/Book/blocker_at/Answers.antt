use Rattle.lock_book.proofs.Common.{◌≡◌, modes_of, byte_modes_of}
use Rattle.lock_book.proofs.BookLemmas.{byte_modes_of-list, list_of-found}
use Rattle.lock_book.proofs.book.Book.blocker_at.Goals as goal

pub returns-clause-run : goal.returns-clause-run
returns-clause-run c =
    let modes : byte_modes_of c.args.self.now c.args.owner ≡ modes_of c.in_ok-get.field-0.now =
    byte_modes_of-list _ _ _ (list_of-found _ _ _ _ c.get.ensures c.in_ok-get.was) in
    rw modes c.in_ok-mode.ensures.run

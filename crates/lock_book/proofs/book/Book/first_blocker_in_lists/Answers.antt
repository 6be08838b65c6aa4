use Rattle.lock_book.proofs.Common.{byte_modes_of}
use Rattle.lock_book.proofs.FirstBlockerLemmas.{blocker_told, blocker_told-some}
use Rattle.lock_book.proofs.book.Book.first_blocker_in_lists.Goals as goal

pub returns-clause-some : goal.returns-clause-some
returns-clause-some c =
    blocker_told (byte_modes_of c.args.self.now) c.args.owner c.args.mode c.args.span c.in_ok-byte.byte c.in_ok-byte.other c.in_ok-byte.ensures.hit
    c.blocker_at.result c.blocker_at.ensures.owner c.blocker_at.ensures.run

pub returns-clause-none : goal.returns-clause-none
returns-clause-none c =
    blocker_told-some (byte_modes_of c.args.self.now) c.args.owner c.args.mode c.args.span c.in_ok-byte.byte c.in_ok-byte.other c.in_ok-byte.ensures.hit
    _ c.blocker_at.result c.blocker_at.ensures.none

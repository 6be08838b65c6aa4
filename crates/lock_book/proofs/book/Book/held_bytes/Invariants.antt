use Rattle.lock_book.proofs.Common.{byte_modes_of}
use Rattle.lock_book.proofs.HeldLemmas.{AreLocksOf}
use Rattle.lock_book.proofs.book.Book.held_bytes.Given as goal

abbrev pub invariant-loop-owner : goal.invariant-loop-owner
invariant-loop-owner l =
    (goal.iterator-loop-owner).can_next l.owner-iterator ×
    (goal.iterator-loop-owner).is_finite l.owner-iterator ×
    AreLocksOf l.file (byte_modes_of l.self) l.yielded l.locks.items

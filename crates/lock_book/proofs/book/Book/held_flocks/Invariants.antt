use Rattle.lock_book.proofs.Common.{flock_modes_of}
use Rattle.lock_book.proofs.HeldLemmas.{AreFlocksOf}
use Rattle.lock_book.proofs.book.Book.held_flocks.Given as goal

abbrev pub invariant-loop-description : goal.invariant-loop-description
invariant-loop-description l =
    (goal.iterator-loop-description).can_next l.description-iterator ×
    (goal.iterator-loop-description).is_finite l.description-iterator ×
    AreFlocksOf l.file (flock_modes_of l.self) l.yielded l.locks.items

use Rattle.lock_book.proofs.Common.{byte_modes_of}
use Rattle.lock_book.proofs.BlockLemmas.{IsLeastSoFar}
use Rattle.lock_book.proofs.book.Book.first_hit_in_lists.Given as goal

abbrev pub invariant-loop-other : goal.invariant-loop-other
invariant-loop-other l =
    (goal.iterator-loop-other).can_next l.other-iterator ×
    (goal.iterator-loop-other).is_finite l.other-iterator ×
    IsLeastSoFar (byte_modes_of l.self) l.owner l.span l.mode l.yielded l.first

use Rattle.lock_book.proofs.Common.{All, byte_modes_of}
use Rattle.lock_book.proofs.BlockLemmas.{NeverBlocks}
use Rattle.lock_book.proofs.book.Book.blocked_by_lists.Given as goal

abbrev pub invariant-loop-other : goal.invariant-loop-other
invariant-loop-other l =
    (goal.iterator-loop-other).can_next l.other-iterator ×
    (goal.iterator-loop-other).is_finite l.other-iterator ×
    All (λ x. NeverBlocks (byte_modes_of l.self) l.owner l.span l.mode x.0.now) l.yielded

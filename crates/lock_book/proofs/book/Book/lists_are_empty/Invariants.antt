use Rattle.lock_book.proofs.Common.{ℕ, ◌≡◌, All, None, byte_modes_of}
use Rattle.lock_book.proofs.book.Book.lists_are_empty.Given as goal

abbrev pub invariant-loop-list : goal.invariant-loop-list
invariant-loop-list l =
    (goal.iterator-loop-list).can_next l.list-iterator ×
    (goal.iterator-loop-list).is_finite l.list-iterator ×
    All (λ x. (byte : ℕ) → byte_modes_of l.self x.0.now byte ≡ None) l.yielded

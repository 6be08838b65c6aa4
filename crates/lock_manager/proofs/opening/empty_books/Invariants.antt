use Rattle.lock_manager.proofs.Common.{◌≡◌, All, vec_len, HoldsNothing}
use Rattle.lock_manager.proofs.opening.empty_books.Given as goal

abbrev pub invariant-loop : goal.invariant-loop
invariant-loop l = (vec_len l.books ≡ l.counter) × All HoldsNothing l.books.items

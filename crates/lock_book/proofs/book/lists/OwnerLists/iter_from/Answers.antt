use Rattle.lock_book.proofs.Common.{arith}
use Rattle.lock_book.proofs.OwnerListLemmas.{rising_in_map}
use Rattle.lock_book.proofs.book.lists.OwnerLists.iter_from.Goals as goal
use Rattle.lock_book.proofs.book.lists.OwnerLists.iter_from.Goals.{in-Nothing, in-One, in-Many}

pub returns-clause-rising : goal.returns-clause-rising
returns-clause-rising c = elim c.match-self.branch [
  | in-Nothing w ↦ rw (← c.self.view_is, w.in-Nothing.is) (λ i j d before within. absurd (omega arith))
  | in-One w ↦ rw (← c.self.view_is, w.in-One.is) (λ i j d before within. absurd (omega arith))
  | in-Many w ↦ rw (← c.self.view_is, w.in-Many.is) (rising_in_map w.in-Many.lists w.iter_from.ensures.sorted)
]

-- The owners that a file keeps beside its book (the words are this project's choice).
use Rattle.std.specs.Prelude.{◌≡◌, ℕ, IsTrue, Some}
use Rattle.std.specs.BTreeSet.{BTreeSet, contains}
use Rattle.std.specs.Ordering.{nat_cmp}
use Rattle.range_core.specs.declared.Mode.{Mode}
use Rattle.lock_book.specs.declared.book.Book.{Book}
use Rattle.lock_book.specs.Books.{flock_modes_of, has_flock_place}

-- among these is each owner for whose flock lock the book keeps a place, and each that has a flock lock
pub record AreKnown (owners : BTreeSet ℕ) (book : Book) : Type 0 where
  pub places : (owner : ℕ) → IsTrue (has_flock_place book owner) → IsTrue (contains nat_cmp owners owner)
  pub holders : (owner : ℕ) (mode : Mode) → flock_modes_of book owner ≡ Some mode → IsTrue (contains nat_cmp owners owner)

-- What there is at the opening.
use Rattle.std.specs.Prelude.{◌≡◌, ℕ, None}
use Rattle.lock_book.specs.declared.Owner.{Owner}
use Rattle.lock_book.specs.declared.book.Book.{Book}
use Rattle.lock_book.specs.Books.{byte_modes_of, flock_modes_of}

-- the book has no lock
pub record HoldsNothing (book : Book) : Type 0 where
  pub bytes : (owner : Owner) (byte : ℕ) → byte_modes_of book owner byte ≡ None
  pub flocks : (description : ℕ) → flock_modes_of book description ≡ None

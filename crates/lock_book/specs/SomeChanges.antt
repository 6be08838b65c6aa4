-- Each `Book` stands for the locks that some changes leave.
use Rattle.std.specs.Prelude.{◌≡◌, ℕ, List, All}
use Rattle.lock_book.specs.declared.Owner.{Owner}
use Rattle.lock_book.specs.declared.book.Book.{Book}
use Rattle.lock_book.specs.Books.{byte_modes_of, flock_modes_of}
use Rattle.lock_book.specs.Changes.{Change, FlockChange, mode_in, flock_mode_in}

-- the locks of the book are those that these changes, all of this file, leave on it
pub record AreLeftBy (book : Book) (file : ℕ) (changes : List Change) (flock_changes : List FlockChange) : Type 0 where
  pub of_file : All (λ change. change.file ≡ file) changes
  pub flocks_of_file : All (λ change. change.file ≡ file) flock_changes
  pub bytes : (owner : Owner) (byte : ℕ) → byte_modes_of book owner byte ≡ mode_in changes file owner byte
  pub flocks : (description : ℕ) → flock_modes_of book description ≡ flock_mode_in flock_changes file description

-- any book stands for the locks that some changes leave, whichever file it is of
abbrev pub BooksStandForSome : Type 0
BooksStandForSome =
    (book : Book) (file : ℕ) → (changes : List Change) × (flock_changes : List FlockChange) × AreLeftBy book file changes flock_changes

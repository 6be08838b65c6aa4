-- The locks that are held on all files, seen through modes alone.
use Rattle.std.specs.Prelude.{ℕ, Option, Some, None, List, slice_get}
use Rattle.lock_book.specs.declared.book.Book.{Book}
use Rattle.lock_book.specs.Books.{byte_modes_of, flock_modes_of}
use Rattle.lock_book.specs.Changes.{Change, FlockChange, mode_in, flock_mode_in}
use Rattle.lock_book.specs.Conflicts.{ByteModes, FlockModes}

-- the byte locks and the flock locks on each file; the two families never meet
-- (fcntl_locking(2), "Advisory record locking"; flock(2), NOTES)
pub record Locks : Type 0 where
  pub bytes : ℕ → ByteModes
  pub flocks : ℕ → FlockModes

-- the locks that these changes leave (POSIX.1-2017 fcntl; flock(2))
abbrev pub locks_in : List Change → List FlockChange → Locks
locks_in changes flock_changes = record { bytes = mode_in changes; flocks = flock_mode_in flock_changes }

-- the locks of a file's book, and none where there is no book
abbrev pub byte_modes_at : Option Book → ByteModes
byte_modes_at None owner byte = None
byte_modes_at (Some book) owner byte = byte_modes_of book owner byte

-- the flock locks of a file's book, and none where there is no book
abbrev pub flock_modes_at : Option Book → FlockModes
flock_modes_at None description = None
flock_modes_at (Some book) description = flock_modes_of book description

-- the locks of all files, one book each
abbrev pub locks_of : List Book → Locks
locks_of books = record { bytes = λ file. byte_modes_at (slice_get books file); flocks = λ file. flock_modes_at (slice_get books file) }

-- The room that a file holds, so that no grant takes memory (the words are this project's choice).
use Rattle.std.specs.Prelude.{ℕ, ◌≤◌, List, length, filter, IsTrue, Any}
use Rattle.lock_book.specs.declared.Owner.TheVariants.{Description}
use Rattle.lock_book.specs.declared.book.Book.{Book}
use Rattle.lock_book.specs.Books.{room_in, has_flock_place}
use Rattle.lock_server.specs.declared.Pending.{Pending}
use Rattle.lock_server.specs.Pendings.{is_byte_wait, is_flock_wait}

-- for how many byte locks the owner waits
abbrev pub byte_waits : List Pending → ℕ → ℕ
byte_waits waits owner = length (filter (is_byte_wait owner) waits)

-- for each of its waits an owner has room for a grant, or a place
pub record HasRoom (book : Book) (waits : List Pending) : Type 0 where
  pub bytes : (owner : ℕ) → byte_waits waits owner ≤ room_in book (Description owner)
  pub places : (owner : ℕ) → Any (λ wait. IsTrue (is_flock_wait owner wait)) waits → IsTrue (has_flock_place book owner)

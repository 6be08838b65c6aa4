-- Places in the list of waits, and room for one more (the words are this project's choice).
use Rattle.std.specs.Prelude.{◌≡◌, ℕ, ◌<◌, List, [], length, take, IsTrue}
use Rattle.lock_book.specs.declared.Owner.TheVariants.{Description}
use Rattle.lock_book.specs.Books.{room_in, has_flock_place}
use Rattle.wait_core.specs.declared.Family.{Family}
use Rattle.wait_core.specs.declared.Family.TheVariants.{Bytes, Whole}
use Rattle.wait_core.specs.declared.Policy.{Policy}
use Rattle.lock_server.specs.declared.Pending.{Pending}
use Rattle.lock_server.specs.declared.file.LockFile.{LockFile}
use Rattle.lock_server.specs.Files.{FileState, Leaves}
use Rattle.lock_server.specs.FileView.{keeps_place}
use Rattle.lock_server.specs.Settling.{AllBlocked, IsNext}
use Rattle.lock_server.specs.Room.{byte_waits}

-- the wait at this place is the earliest that isn't blocked
pub record IsReadyAt (policy : Policy) (F : FileState) (place : ℕ) : Type 0 where
  pub before : List Pending
  pub wait : Pending
  pub after : List Pending
  pub at : length before ≡ place
  pub is_next : IsNext policy F before wait after

-- so many waits, the earliest, are blocked
abbrev pub AreBlockedTo : Policy → FileState → ℕ → Type 0
AreBlockedTo policy F count = AllBlocked policy F [] (take count F.waits)

-- the wait at this place leaves, and the locks stay
pub record LeavesAt (F : FileState) (place : ℕ) (wait : Pending) (G : FileState) : Type 0 where
  pub before : List Pending
  pub after : List Pending
  pub at : length before ≡ place
  pub leaves : Leaves F before wait after G

-- the room for the lock of one wait more
abbrev pub IsReservedIn : Family → LockFile → Pending → Type 0
IsReservedIn Bytes file wait =
    byte_waits file.waits.items wait.owner < room_in file.book (Description wait.owner)
IsReservedIn Whole file wait = IsTrue (has_flock_place file.book wait.owner)

-- the file has room for the wait to join and to be granted
pub record IsReserved (file : LockFile) (wait : Pending) : Type 0 where
  pub list : 0 < file.waits.room
  pub lock : IsReservedIn wait.family file wait

-- the places that were kept for flock locks still are, and there is room for one wait more if there was
pub record KeepsFlockRoom (old new : LockFile) : Type 0 where
  pub places : (owner : ℕ) → IsTrue (keeps_place old owner) → IsTrue (keeps_place new owner)
  pub list : 0 < old.waits.room → 0 < new.waits.room

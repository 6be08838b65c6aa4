-- What the closing of descriptors does to the locks.
use Rattle.std.specs.Prelude.{◌≡◌, ℕ, ◌==◌, ◌&&◌, Bool, if◌then◌else◌, None, List, false, slice_get}
use Rattle.std.specs.List.{list_any}
use Rattle.lock_book.specs.declared.Owner.{Owner}
use Rattle.lock_book.specs.declared.Owner.TheVariants.{Process, Description}
use Rattle.lock_book.specs.declared.book.Book.{Book}
use Rattle.lock_book.specs.Books.{byte_modes_of, flock_modes_of, room_in, has_flock_place}
use Rattle.wait_core.specs.Locks.{Locks}
use Rattle.lock_manager.specs.WaitsKept.{room_at, has_place_at}

-- whether the number is one of these
abbrev pub is_one_of : List ℕ → ℕ → Bool
is_one_of numbers number = list_any (λ other. other == number) numbers

-- whether the owner is this process, or one of these descriptions
abbrev pub is_released : ℕ → List ℕ → Owner → Bool
is_released p descriptions (Process q) = p == q
is_released p descriptions (Description d) = is_one_of descriptions d

-- in the book the process has no traditional lock and the descriptions no lock at all, and neither has room; all else stays
-- (POSIX.1-2017 close; fcntl_locking(2); flock(2))
pub record ReleasesInBook (old new : Book) (p : ℕ) (descriptions : List ℕ) : Type 0 where
  pub bytes : (owner : Owner) (byte : ℕ) → byte_modes_of new owner byte
      ≡ (if is_released p descriptions owner then None else byte_modes_of old owner byte)
  pub flocks : (description : ℕ) → flock_modes_of new description
      ≡ (if is_one_of descriptions description then None else flock_modes_of old description)
  pub rooms : (owner : Owner) → room_in new owner ≡ (if is_released p descriptions owner then 0 else room_in old owner)
  pub places : (description : ℕ) → has_flock_place new description
      ≡ (if is_one_of descriptions description then false else has_flock_place old description)

-- on each of these files the process has no traditional lock and the descriptions no lock at all; all else stays (POSIX.1-2017 close;
-- fcntl_locking(2); flock(2))
pub record ReleasesLocks (old new : Locks) (p : ℕ) (files descriptions : List ℕ) : Type 0 where
  pub bytes : (file : ℕ) (owner : Owner) (byte : ℕ) → new.bytes file owner byte
      ≡ (if is_one_of files file && is_released p descriptions owner then None else old.bytes file owner byte)
  pub flocks : (file description : ℕ) → new.flocks file description
      ≡ (if is_one_of files file && is_one_of descriptions description then None else old.flocks file description)

-- on each of these files the process and the descriptions have no room; all other room stays (this project's choice)
pub record ReleasesRoom (old new : List Book) (p : ℕ) (files descriptions : List ℕ) : Type 0 where
  pub rooms : (file : ℕ) (owner : Owner) → room_at (slice_get new file) owner
      ≡ (if is_one_of files file && is_released p descriptions owner then 0 else room_at (slice_get old file) owner)
  pub places : (file description : ℕ) → has_place_at (slice_get new file) description
      ≡ (if is_one_of files file && is_one_of descriptions description then false else has_place_at (slice_get old file) description)

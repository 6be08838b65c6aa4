-- What a `Book` stands for, and what its calls change (the words are this project's choice).
use Rattle.std.specs.Prelude.{◌≡◌, ◌≢◌, ℕ, ◌==◌, ◌&&◌, ◌||◌, if◌then◌else◌, Bool, false, Option, None, is_some}
use Rattle.std.specs.Map.{lookup}
use Rattle.range_core.specs.declared.Mode.{Mode}
use Rattle.range_core.specs.declared.Span.{Span}
use Rattle.owner_runs.specs.declared.owner_runs.OwnerRuns.{OwnerRuns}
use Rattle.range_core.specs.Changes.{is_covered}
use Rattle.lock_book.specs.declared.Owner.{Owner}
use Rattle.lock_book.specs.declared.book.Book.{Book}
use Rattle.lock_book.specs.Owners.{is_same_owner}
use Rattle.lock_book.specs.OwnerLists.{modes_in_list, room_in_list}
use Rattle.lock_book.specs.Conflicts.{ByteModes, FlockModes}
use Rattle.lock_book.specs.Holders.{place_among, mode_in_place}

-- the list of modes that a book keeps for the owner
unfoldable pub list_of : Book → Owner → Option OwnerRuns
list_of book owner = lookup (is_same_owner owner) book.owners

-- the byte locks that a book stands for
unfoldable pub byte_modes_of : Book → ByteModes
byte_modes_of book owner = modes_in_list (list_of book owner)

-- for how many further sets of the owner a book holds room
unfoldable pub room_in : Book → Owner → ℕ
room_in book owner = room_in_list (list_of book owner)

-- the place that a book keeps for the flock lock of the description, with the mode that stands there
unfoldable pub place_of : Book → ℕ → Option (Option Mode)
place_of book description = place_among book.flocks.places.entries description

-- the flock locks that a book stands for
unfoldable pub flock_modes_of : Book → FlockModes
flock_modes_of book description = mode_in_place (place_of book description)

-- whether a book keeps a place for the flock lock of the description
unfoldable pub has_flock_place : Book → ℕ → Bool
has_flock_place book description = is_some (place_of book description)

-- the two books stand for the same locks, with the same room for each owner and the same places
pub record SameBook (old new : Book) : Type 0 where
  pub bytes : (owner : Owner) (byte : ℕ) → byte_modes_of new owner byte ≡ byte_modes_of old owner byte
  pub rooms : (owner : Owner) → room_in new owner ≡ room_in old owner
  pub flocks : (description : ℕ) → flock_modes_of new description ≡ flock_modes_of old description
  pub places : (description : ℕ) → has_flock_place new description ≡ has_flock_place old description

-- all but the owner's room stays
pub record SameButRoom (old new : Book) (owner : Owner) : Type 0 where
  pub bytes : (other : Owner) (byte : ℕ) → byte_modes_of new other byte ≡ byte_modes_of old other byte
  pub rooms : (other : Owner) → other ≢ owner → room_in new other ≡ room_in old other
  pub flocks : (description : ℕ) → flock_modes_of new description ≡ flock_modes_of old description
  pub places : (description : ℕ) → has_flock_place new description ≡ has_flock_place old description

-- the owner has this mode on just the range, and all else but the owner's room stays
-- (POSIX.1-2017 fcntl, DESCRIPTION, F_SETLK)
pub record SetsOwnerMode (old new : Book) (owner : Owner) (span : Span) (mode : Option Mode) : Type 0 where
  pub bytes : (other : Owner) (byte : ℕ) → byte_modes_of new other byte
      ≡ (if is_same_owner owner other && is_covered span byte then mode else byte_modes_of old other byte)
  pub rooms : (other : Owner) → other ≢ owner → room_in new other ≡ room_in old other
  pub flocks : (description : ℕ) → flock_modes_of new description ≡ flock_modes_of old description
  pub places : (description : ℕ) → has_flock_place new description ≡ has_flock_place old description

-- the owner has no mode on any byte and no room, and all else stays (POSIX.1-2017 close; fcntl_locking(2))
pub record ReleasesOwner (old new : Book) (owner : Owner) : Type 0 where
  pub bytes : (other : Owner) (byte : ℕ) → byte_modes_of new other byte
      ≡ (if is_same_owner owner other then None else byte_modes_of old other byte)
  pub rooms : (other : Owner) → room_in new other ≡ (if is_same_owner owner other then 0 else room_in old other)
  pub flocks : (description : ℕ) → flock_modes_of new description ≡ flock_modes_of old description
  pub places : (description : ℕ) → has_flock_place new description ≡ has_flock_place old description

-- the owner has no mode on any byte, and all else stays, its room too (POSIX.1-2017 close; fcntl_locking(2))
pub record ClearsOwner (old new : Book) (owner : Owner) : Type 0 where
  pub bytes : (other : Owner) (byte : ℕ) → byte_modes_of new other byte
      ≡ (if is_same_owner owner other then None else byte_modes_of old other byte)
  pub rooms : (other : Owner) → room_in new other ≡ room_in old other
  pub flocks : (description : ℕ) → flock_modes_of new description ≡ flock_modes_of old description
  pub places : (description : ℕ) → has_flock_place new description ≡ has_flock_place old description

-- nobody has a mode on any byte, nor a flock mode, however much room there is (this project's choice)
pub record IsUnlocked (book : Book) : Type 0 where
  pub bytes : (owner : Owner) (byte : ℕ) → byte_modes_of book owner byte ≡ None
  pub flocks : (description : ℕ) → flock_modes_of book description ≡ None

-- the description has this flock mode, and all else stays; a description has a place where it had one, or is the one that
-- was set to a mode (flock(2))
pub record SetsFlock (old new : Book) (description : ℕ) (mode : Option Mode) : Type 0 where
  pub bytes : (owner : Owner) (byte : ℕ) → byte_modes_of new owner byte ≡ byte_modes_of old owner byte
  pub rooms : (owner : Owner) → room_in new owner ≡ room_in old owner
  pub flocks : (other : ℕ) → flock_modes_of new other ≡ (if description == other then mode else flock_modes_of old other)
  pub places : (other : ℕ) → has_flock_place new other ≡ (description == other && is_some mode || has_flock_place old other)

-- the description has a place, and all else stays
pub record ReservesFlock (old new : Book) (description : ℕ) : Type 0 where
  pub bytes : (owner : Owner) (byte : ℕ) → byte_modes_of new owner byte ≡ byte_modes_of old owner byte
  pub rooms : (owner : Owner) → room_in new owner ≡ room_in old owner
  pub flocks : (other : ℕ) → flock_modes_of new other ≡ flock_modes_of old other
  pub places : (other : ℕ) → has_flock_place new other ≡ (description == other || has_flock_place old other)

-- the description has no flock mode and no place, and all else stays (flock(2))
pub record ReleasesFlock (old new : Book) (description : ℕ) : Type 0 where
  pub bytes : (owner : Owner) (byte : ℕ) → byte_modes_of new owner byte ≡ byte_modes_of old owner byte
  pub rooms : (owner : Owner) → room_in new owner ≡ room_in old owner
  pub flocks : (other : ℕ) → flock_modes_of new other ≡ (if description == other then None else flock_modes_of old other)
  pub places : (other : ℕ) → has_flock_place new other ≡ (if description == other then false else has_flock_place old other)

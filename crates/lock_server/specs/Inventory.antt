-- All that a server has, as finite lists in a fixed order, whatever its history: what its export says. A state has one inventory, and an
-- inventory is of one state.
use Rattle.std.specs.Prelude.{◌≡◌, ℕ, ◌↔◌, Option, Some, IsTrue, List, [], ◌∷◌, AllPairs, Any, Contains}
use Rattle.range_core.specs.declared.Mode.{Mode}
use Rattle.range_core.specs.Ranges.{Covers}
use Rattle.lock_server.specs.declared.FlockLock.{FlockLock}
use Rattle.lock_server.specs.declared.Lock.{Lock}
use Rattle.lock_server.specs.declared.Pending.{Pending}
use Rattle.lock_server.specs.Files.{FileState, SameFile, untouched}
use Rattle.lock_server.specs.Listing.{IsByteLock, IsEarlier, IsFlockLock, IsInUse, flock_place, lock_place}
use Rattle.lock_server.specs.States.{State}

-- these are just the items with the property, each once, by rising places (this project's choice)
pub record AreJust {X : Type 0} (place : X → List ℕ) (Has : X → Type 0) (items : List X) : Type 0 where
  pub rising : AllPairs (λ x y. IsEarlier (place x) (place y)) items
  pub each : (item : X) → Contains items item ↔ Has item

-- on these locks lies each byte on which the owner has a mode, with that mode (this project's choice)
abbrev pub AreAllOf : FileState → ℕ → List Lock → Type 0
AreAllOf F owner locks = (byte : ℕ) (mode : Mode) → F.bytes owner byte ≡ Some mode
    → Any (λ lock. (lock.owner ≡ owner) × (lock.mode ≡ mode) × Covers lock.span byte) locks

-- these are the byte locks on the file of the owner, by first byte (this project's choice)
pub record AreLocksOf (F : FileState) (owner : ℕ) (locks : List Lock) : Type 0 where
  pub just : AreJust lock_place (λ lock. (lock.owner ≡ owner) × IsByteLock F lock) locks
  pub all : AreAllOf F owner locks

-- these are the byte locks on the file, by owner and first byte (this project's choice)
pub record AreByteLocks (F : FileState) (locks : List Lock) : Type 0 where
  pub just : AreJust lock_place (IsByteLock F) locks
  pub all : (owner : ℕ) → AreAllOf F owner locks

-- a file with what stands on it: its byte locks by owner and first byte, its flock locks by owner, and its waits in order of arrival
-- (this project's choice)
pub record FileEntry : Type 0 where
  pub number : ℕ
  pub locks : List Lock
  pub flocks : List FlockLock
  pub waits : List Pending

-- files by number (this project's choice)
abbrev pub entry_place : FileEntry → List ℕ
entry_place entry = entry.number ∷ []

-- the entry says what stands on the file of this state (this project's choice)
pub record SaysFile (F : FileState) (entry : FileEntry) : Type 0 where
  pub locks : AreByteLocks F entry.locks
  pub flocks : AreJust flock_place (IsFlockLock F) entry.flocks
  pub waits : entry.waits ≡ F.waits

-- the entry, under this number, says what stands on the file (this project's choice)
pub record IsEntryOf (number : ℕ) (F : FileState) (entry : FileEntry) : Type 0 where
  pub number_is : entry.number ≡ number
  pub says : SaysFile F entry

-- the entry is of a file that is in use, and says what stands there (this project's choice)
pub record IsFileEntry (S : State) (entry : FileEntry) : Type 0 where
  pub used : IsInUse S entry.number
  pub says : SaysFile (S.files entry.number) entry

-- through which open file an owner was last seen on a file (this project's choice)
pub record Note : Type 0 where
  pub file : ℕ
  pub owner : ℕ
  pub open_file : ℕ

-- notes by file, and then by owner (this project's choice)
abbrev pub note_place : Note → List ℕ
note_place note = note.file ∷ note.owner ∷ []

-- all that a server has: its files that are in use, the grants that weren't fetched, in order, its crossed owners, and its notes
-- (this project's choice)
pub record Inventory : Type 0 where
  pub files : List FileEntry
  pub grants : List ℕ
  pub crossed : List ℕ
  pub notes : List Note

-- these are the files that are in use, by number (this project's choice)
pub record AreFiles (S : State) (files : List FileEntry) : Type 0 where
  pub just : AreJust entry_place (IsFileEntry S) files
  pub others : (file : ℕ) → (¬ Any (λ entry. entry.number ≡ file) files) → SameFile (S.files file) untouched

-- this is all that a server in this state has (this project's choice)
pub record IsInventory (S : State) (through : ℕ → ℕ → Option ℕ) (inventory : Inventory) : Type 0 where
  pub files : AreFiles S inventory.files
  pub grants : inventory.grants ≡ S.grants
  pub crossed : AreJust (λ owner. owner ∷ []) (λ owner. IsTrue (S.crossed owner)) inventory.crossed
  pub notes : AreJust note_place (λ note. through note.file note.owner ≡ Some note.open_file) inventory.notes

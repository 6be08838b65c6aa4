-- The state of one file: its locks, and its waits in order of arrival.
use Rattle.std.specs.Prelude.{◌≡◌, ℕ, ◌==◌, ◌&&◌, if◌then◌else◌, Option, Some, None, List, [], ◌∷◌, ◌++◌}
use Rattle.range_core.specs.declared.Mode.{Mode}
use Rattle.range_core.specs.declared.Span.{Span}
use Rattle.range_core.specs.Changes.{is_covered}
use Rattle.range_core.specs.Ranges.{Modes}
use Rattle.lock_book.specs.declared.Owner.TheVariants.{Process, Description}
use Rattle.lock_book.specs.Conflicts.{ByteModes, FlockModes}
use Rattle.wait_core.specs.declared.Family.{Family}
use Rattle.wait_core.specs.declared.Family.TheVariants.{Bytes, Whole}
use Rattle.wait_core.specs.Locks.{Locks}
use Rattle.lock_server.specs.declared.Pending.{Pending}

-- what each owner has on each byte, what each owner has by flock, and who waits, in order of arrival; owners are numbers
-- (POSIX.1-2017 fcntl, DESCRIPTION; fcntl_locking(2); flock(2))
pub record FileState : Type 0 where
  pub bytes : ℕ → Modes
  pub flocks : FlockModes
  pub waits : List Pending

-- no lock and no wait (this project's choice)
abbrev pub untouched : FileState
untouched = record { bytes = λ owner byte. None; flocks = λ owner. None; waits = [] }

-- the byte locks of the owners, as `lock_book` names these: the owner numbered n is `Description n`, and no process has a lock
-- (this project's choice)
abbrev pub by_owner : (ℕ → Modes) → ByteModes
by_owner bytes (Process number) byte = None
by_owner bytes (Description number) byte = bytes number byte

-- the locks of the file, as `wait_core` defines blocking: on each file the same (this project's choice)
abbrev pub locks_on : FileState → Locks
locks_on F = record { bytes = λ file. by_owner F.bytes; flocks = λ file. F.flocks }

-- the two have the same locks (this project's choice)
pub record SameLocks (F G : FileState) : Type 0 where
  pub bytes : (owner byte : ℕ) → G.bytes owner byte ≡ F.bytes owner byte
  pub flocks : (owner : ℕ) → G.flocks owner ≡ F.flocks owner

-- the two have the same locks and the same waits (this project's choice)
pub record SameFile (F G : FileState) : Type 0 where
  pub locks : SameLocks F G
  pub waits : G.waits ≡ F.waits

-- the owner has this mode on just the range, and all other locks stay (POSIX.1-2017 fcntl, DESCRIPTION, F_SETLK)
pub record SetsBytes (F : FileState) (owner : ℕ) (span : Span) (mode : Option Mode) (G : FileState) : Type 0 where
  pub bytes : (other byte : ℕ) → G.bytes other byte ≡ (if owner == other && is_covered span byte then mode else F.bytes other byte)
  pub flocks : (other : ℕ) → G.flocks other ≡ F.flocks other

-- the owner has this flock mode, and all other locks stay (flock(2))
pub record SetsFlock (F : FileState) (owner : ℕ) (mode : Option Mode) (G : FileState) : Type 0 where
  pub bytes : (other byte : ℕ) → G.bytes other byte ≡ F.bytes other byte
  pub flocks : (other : ℕ) → G.flocks other ≡ (if owner == other then mode else F.flocks other)

-- the owner has this mode of the family, on just the range where it is one of bytes, and all other locks stay
-- (POSIX.1-2017 fcntl, DESCRIPTION, F_SETLK; flock(2))
abbrev pub SetsLock : Family → FileState → ℕ → Span → Option Mode → FileState → Type 0
SetsLock Bytes F owner span mode G = SetsBytes F owner span mode G
SetsLock Whole F owner span mode G = SetsFlock F owner mode G

-- the owner has no mode on any byte, and all other locks stay (POSIX.1-2017 close; fcntl_locking(2))
pub record ClearsBytes (F : FileState) (owner : ℕ) (G : FileState) : Type 0 where
  pub bytes : (other byte : ℕ) → G.bytes other byte ≡ (if owner == other then None else F.bytes other byte)
  pub flocks : (other : ℕ) → G.flocks other ≡ F.flocks other

-- the owner has no mode of the family, and all other locks stay (POSIX.1-2017 close; fcntl_locking(2); flock(2))
abbrev pub Unlocks : Family → FileState → ℕ → FileState → Type 0
Unlocks Bytes F owner G = ClearsBytes F owner G
Unlocks Whole F owner G = SetsFlock F owner None G

-- the wait gets its lock, and all other locks stay (POSIX.1-2017 fcntl, DESCRIPTION, F_SETLKW; flock(2))
abbrev pub GetsLock : FileState → Pending → FileState → Type 0
GetsLock F wait G = SetsLock wait.family F wait.owner wait.span (Some wait.mode) G

-- the wait comes last in order of arrival, and the locks stay (POSIX.1-2017 fcntl, DESCRIPTION, F_SETLKW; flock(2))
pub record Joins (F : FileState) (wait : Pending) (G : FileState) : Type 0 where
  pub locks : SameLocks F G
  pub waits : G.waits ≡ F.waits ++ wait ∷ []

-- the wait between these others leaves, and the locks stay (this project's choice)
pub record Leaves (F : FileState) (before : List Pending) (wait : Pending) (after : List Pending) (G : FileState) : Type 0 where
  pub place : F.waits ≡ before ++ wait ∷ after
  pub locks : SameLocks F G
  pub waits : G.waits ≡ before ++ after

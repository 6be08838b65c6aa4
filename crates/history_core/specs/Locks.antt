-- The locks of one file in a history: what conflicts, and what a change leaves.
use Rattle.std.specs.Prelude.{◌≡◌, ◌≢◌, ℕ, ◌==◌, Bool, true, ◌&&◌, nat_le, if◌then◌else◌, Option, None}
use Rattle.range_core.specs.declared.Mode.{Mode}
use Rattle.range_core.specs.declared.Span.{Span}
use Rattle.range_core.specs.Ranges.{Conflict, Covers, HeldConflicts, IsConstant, IsRun, Modes}

-- the locks of one file: each owner's mode, if any, on each byte, and its mode of the whole file
-- (POSIX.1-2017 fcntl, DESCRIPTION, "There shall be at most one type of lock set for each byte in the file";
-- flock(2), DESCRIPTION, "A process may hold only one type of lock (shared or exclusive) on a file")
pub record FileLocks : Type 0 where
  pub bytes : ℕ → Modes
  pub flocks : ℕ → Option Mode

-- nobody has a lock
abbrev pub no_locks : FileLocks
no_locks = record { bytes = λ owner. λ byte. None; flocks = λ owner. None }

-- another owner's byte lock conflicts with this one
-- (POSIX.1-2017 fcntl, DESCRIPTION, "A shared lock prevents any other process from setting an exclusive lock on any portion of the
-- protected area"; "An exclusive lock shall prevent any other process from setting a shared lock or an exclusive lock on any portion")
pub record BlocksBytes (bytes : ℕ → Modes) (owner : ℕ) (mode : Mode) (span : Span) : Type 0 where
  pub other : ℕ
  pub is_other : other ≢ owner
  pub byte : ℕ
  pub asked : Covers span byte
  pub conflicts : HeldConflicts (bytes other byte) mode

-- another owner's flock lock conflicts with this one
-- (flock(2), DESCRIPTION, "More than one process may hold a shared lock for a given file at a given time"; "Only one process may hold an
-- exclusive lock for a given file at a given time")
pub record BlocksFlock (flocks : ℕ → Option Mode) (owner : ℕ) (mode : Mode) : Type 0 where
  pub other : ℕ
  pub is_other : other ≢ owner
  pub conflicts : HeldConflicts (flocks other) mode

-- another owner has this mode on all these bytes, and one of them is asked for and conflicts in that mode; where largest runs are
-- demanded, these are one
-- (POSIX.1-2017 fcntl, DESCRIPTION, F_GETLK, "Get the first lock which blocks the lock description pointed to by the third argument")
pub record IsHeld (runs : Bool) (held_bytes : ℕ → Modes) (owner : ℕ) (asked : Mode) (span : Span) (other : ℕ) (mode : Mode) (bytes : Span)
    : Type 0 where
  pub is_other : other ≢ owner
  pub conflicts : Conflict mode asked
  pub held : IsConstant (held_bytes other) bytes mode
  pub byte : ℕ
  pub asked_for : Covers span byte
  pub told : Covers bytes byte
  pub largest : runs ≡ true → IsRun (held_bytes other) byte mode bytes

-- whether the byte lies in the span
abbrev pub covers : Span → ℕ → Bool
covers span byte = nat_le span.first byte && nat_le byte span.last

-- the owner's mode on just these bytes is the new one, or none
-- (POSIX.1-2017 fcntl, DESCRIPTION, "the previous lock type for each byte in the specified region shall be replaced by the new lock type")
abbrev pub bytes_with : (ℕ → Modes) → ℕ → Span → Option Mode → ℕ → Modes
bytes_with bytes owner span mode other byte = if (other == owner) && covers span byte then mode else bytes other byte

-- the owner has no mode on any byte
abbrev pub bytes_without : (ℕ → Modes) → ℕ → ℕ → Modes
bytes_without bytes owner other byte = if other == owner then None else bytes other byte

-- the owner's mode of the whole file is the new one, or none
-- (flock(2), DESCRIPTION, "Subsequent flock() calls on an already locked file will convert an existing lock to the new lock mode")
abbrev pub flocks_with : (ℕ → Option Mode) → ℕ → Option Mode → ℕ → Option Mode
flocks_with flocks owner mode other = if other == owner then mode else flocks other

-- a change of the byte locks
abbrev pub with_bytes : FileLocks → ℕ → Span → Option Mode → FileLocks
with_bytes locks owner span mode = record locks { bytes = bytes_with locks.bytes owner span mode }

-- a change of the flock locks
abbrev pub with_flock : FileLocks → ℕ → Option Mode → FileLocks
with_flock locks owner mode = record locks { flocks = flocks_with locks.flocks owner mode }

-- the owner has no lock any more
-- (POSIX.1-2017 fcntl, DESCRIPTION, "All locks associated with a file for a given process shall be removed when a file descriptor for that
-- file is closed by that process or the process holding that file descriptor terminates"; flock(2), DESCRIPTION, "when all such file
-- descriptors have been closed")
abbrev pub without_owner : FileLocks → ℕ → FileLocks
without_owner locks owner = record { bytes = bytes_without locks.bytes owner; flocks = flocks_with locks.flocks owner None }

-- Byte locks of owners that are numbers, as the definitions of `lock_book` see them.
use Rattle.std.specs.Prelude.{◌≡◌, ◌≤◌, ℕ, None, Some}
use Rattle.range_core.specs.declared.Mode.{Mode}
use Rattle.range_core.specs.declared.Span.{Span}
use Rattle.range_core.specs.declared.TheConstants.{OFFMAX}
use Rattle.lock_book.specs.declared.Blocker.{Blocker}
use Rattle.lock_book.specs.declared.Owner.{Owner}
use Rattle.lock_book.specs.declared.Owner.TheVariants.{Process, Description}
use Rattle.lock_book.specs.Conflicts.{ByteConflict, ByteModes, IsFirstBlocker}
use Rattle.lock_server.specs.declared.Lock.{Lock}
use Rattle.lock_server.specs.Files.{FileState, by_owner}

-- the lock, as `lock_book` tells it (this project's choice)
abbrev pub as_blocker : Lock → Blocker
as_blocker lock = record { owner = Description lock.owner; mode = lock.mode; span = lock.span }

-- a byte lock of another owner is in the way of one on the file (POSIX.1-2017 fcntl, DESCRIPTION, F_SETLK, "blocked by")
abbrev pub IsInTheWay : FileState → ℕ → Span → Mode → Type 0
IsInTheWay F owner span mode = ByteConflict (by_owner F.bytes) (Description owner) span mode

-- the lock is the first one in the way: at the least byte that is blocked, of the least owner that blocks there, its largest
-- range of one mode (POSIX.1-2017 fcntl, DESCRIPTION, F_GETLK)
abbrev pub IsFirstLock : FileState → ℕ → Span → Mode → Lock → Type 0
IsFirstLock F owner span mode lock = IsFirstBlocker (by_owner F.bytes) (Description owner) span mode (as_blocker lock)

-- the byte locks are of numbers alone: no process has one (this project's choice)
pub record AreOfNumbers (modes : ByteModes) : Type 0 where
  pub processes : (process byte : ℕ) → modes (Process process) byte ≡ None

-- each byte that is locked lies in a file (this project's choice)
pub record AreInFile (modes : ByteModes) : Type 0 where
  pub within : (owner : Owner) (byte : ℕ) (mode : Mode) → modes owner byte ≡ Some mode → byte ≤ OFFMAX

-- Which locks stand in the way of a lock: said of modes by owner, however they are kept.
use Rattle.std.specs.Prelude.{◌≡◌, ◌≢◌, ℕ, ◌<◌, ◌≤◌, Option, Some}
use Rattle.range_core.specs.declared.Mode.{Mode}
use Rattle.range_core.specs.declared.Span.{Span}
use Rattle.range_core.specs.Ranges.{Modes, Conflict, Covers, HeldConflicts, IsRun}
use Rattle.lock_book.specs.declared.Owner.{Owner}
use Rattle.lock_book.specs.declared.Owner.TheVariants.{Process, Description}
use Rattle.lock_book.specs.declared.Blocker.{Blocker}
use Rattle.lock_book.specs.Owners.{IsBefore}

-- the byte locks on one file: what each owner has on each byte
-- (POSIX.1-2017 fcntl, DESCRIPTION; fcntl_locking(2), "Open file description locks")
abbrev pub ByteModes : Type 0
ByteModes = Owner → Modes

-- the flock locks on one file: what each description has (flock(2))
abbrev pub FlockModes : Type 0
FlockModes = ℕ → Option Mode

-- this owner, another one, has a lock on the byte that conflicts with the wanted mode
-- (POSIX.1-2017 fcntl, DESCRIPTION, F_SETLK, "blocked by ... another process";
-- fcntl_locking(2), "Open file description locks": both kinds conflict with each other)
pub record Blocks (modes : ByteModes) (owner : Owner) (wanted : Mode) (byte : ℕ) (other : Owner) : Type 0 where
  pub another : other ≢ owner
  pub conflicts : HeldConflicts (modes other byte) wanted

-- on some byte of the range some other owner has a lock that conflicts with the wanted mode
-- (POSIX.1-2017 fcntl, DESCRIPTION, F_SETLK and F_GETLK; fcntl_locking(2), "Open file description locks")
pub record ByteConflict (modes : ByteModes) (owner : Owner) (span : Span) (wanted : Mode) : Type 0 where
  pub byte : ℕ
  pub covered : Covers span byte
  pub other : Owner
  pub blocks : Blocks modes owner wanted byte other

-- on some byte of the range this process, which isn't the owner, has a traditional lock that conflicts
-- (POSIX.1-2017 fcntl, ERRORS, EDEADLK)
pub record ProcessBlocks (modes : ByteModes) (process : ℕ) (owner : Owner) (span : Span) (wanted : Mode) : Type 0 where
  pub byte : ℕ
  pub covered : Covers span byte
  pub blocks : Blocks modes owner wanted byte (Process process)

-- some other description has a flock lock that conflicts with the wanted mode (flock(2))
pub record FlockConflict (modes : FlockModes) (owner : Owner) (wanted : Mode) : Type 0 where
  pub description : ℕ
  pub another : Description description ≢ owner
  pub conflicts : HeldConflicts (modes description) wanted

-- no two of these have modes that conflict
abbrev pub NoneConflict : {Who : Type 0} → (Who → Option Mode) → Type 0
NoneConflict {Who} mode_of = (one other : Who) (m k : Mode) → one ≢ other → mode_of one ≡ Some m → mode_of other ≡ Some k → ¬ Conflict m k

-- no two owners conflict on a byte of the file, and no two descriptions by flock
-- (POSIX.1-2017 fcntl, DESCRIPTION, F_SETLK, shared and exclusive locks; flock(2))
pub record IsFreeOfConflicts {Who : Type 0} (modes : Who → Modes) (flock_modes : FlockModes) : Type 0 where
  pub bytes : (byte : ℕ) → NoneConflict (λ owner. modes owner byte)
  pub flocks : NoneConflict flock_modes

-- the least byte of the range that is blocked, and of the owners that block there the least
-- (which blocking lock is the first is this project's choice)
pub record IsFirstBlocked (modes : ByteModes) (owner : Owner) (span : Span) (wanted : Mode) (byte : ℕ) (other : Owner) : Type 0 where
  pub covered : Covers span byte
  pub blocks : Blocks modes owner wanted byte other
  pub least_byte : (before : ℕ) (any : Owner) → span.first ≤ before → before < byte → ¬ Blocks modes owner wanted before any
  pub least_owner : (any : Owner) → IsBefore any other → ¬ Blocks modes owner wanted byte any

-- the lock that a get command reports: at the least byte of the range that is blocked, of the least owner that blocks
-- there, the largest range round that byte on all of which this owner has this one mode
-- (POSIX.1-2017 fcntl, DESCRIPTION, F_GETLK, "the first lock which blocks"; which one is the first is this project's choice)
pub record IsFirstBlocker (modes : ByteModes) (owner : Owner) (span : Span) (wanted : Mode) (blocker : Blocker) : Type 0 where
  pub byte : ℕ
  pub first : IsFirstBlocked modes owner span wanted byte blocker.owner
  pub run : IsRun (modes blocker.owner) byte blocker.mode blocker.span

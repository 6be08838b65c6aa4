-- Bytes that a span covers, conflicts of modes, and runs of one mode.
use Rattle.std.specs.Prelude.{◌≡◌, ◌≢◌, ℕ, ◌+◌, ◌<◌, ◌≤◌, ⊤, Option, Some, None, List, All, Any, AllPairs}
use Rattle.range_core.specs.declared.TheConstants.{OFFMAX}
use Rattle.range_core.specs.declared.Mode.{Mode}
use Rattle.range_core.specs.declared.Mode.TheVariants.{Read, Write}
use Rattle.range_core.specs.declared.Span.{Span}

-- the range has a byte, and lies within a file of the largest size (POSIX.1-2017 fcntl, DESCRIPTION, struct flock)
abbrev pub IsByteRange : Span → Type 0
IsByteRange span = (span.first ≤ span.last) × (span.last ≤ OFFMAX)

-- the mode, if any, that a lock owner has on each byte of a file: one at most on a byte
-- (POSIX.1-2017 fcntl, DESCRIPTION, "at most one type of lock set for each byte in the file")
abbrev pub Modes : Type 0
Modes = ℕ → Option Mode

-- the byte lies in the range (POSIX.1-2017 fcntl, DESCRIPTION, struct flock)
abbrev pub Covers : Span → ℕ → Type 0
Covers span byte = (span.first ≤ byte) × (byte ≤ span.last)

-- two locks of different owners can't stand together: a write lock excludes each lock, a read lock each write lock
-- (POSIX.1-2017 fcntl, DESCRIPTION, F_SETLK, shared and exclusive locks)
abbrev pub Conflict : Mode → Mode → Type 0
Conflict Read Read = ⊥
Conflict Read Write = ⊤
Conflict Write Read = ⊤
Conflict Write Write = ⊤

-- what is held, if anything, conflicts with a lock of the wanted mode (POSIX.1-2017 fcntl, DESCRIPTION, F_SETLK)
abbrev pub HeldConflicts : Option Mode → Mode → Type 0
HeldConflicts None wanted = ⊥
HeldConflicts (Some held) wanted = Conflict held wanted

-- the byte is the least of the range whose mode conflicts (this project's choice)
pub record IsFirstHit (modes : Modes) (span : Span) (wanted : Mode) (byte : ℕ) : Type 0 where
  pub covered : Covers span byte
  pub hit : HeldConflicts (modes byte) wanted
  pub least : (before : ℕ) → span.first ≤ before → before < byte → ¬ HeldConflicts (modes before) wanted

-- each byte of the range has this mode (this project's choice)
abbrev pub IsConstant : Modes → Span → Mode → Type 0
IsConstant modes span mode = (byte : ℕ) → Covers span byte → modes byte ≡ Some mode

-- the largest range round the byte on all of which there is this one mode
-- (fcntl_locking(2), "Advisory record locking", "splitting, shrinking, or coalescing")
pub record IsRun (modes : Modes) (byte : ℕ) (mode : Mode) (span : Span) : Type 0 where
  pub covered : Covers span byte
  pub constant : IsConstant modes span mode
  pub largest : (other : Span) → Covers other byte → IsConstant modes other mode → (span.first ≤ other.first) × (other.last ≤ span.last)

-- these are all the runs, from the first byte on (this project's choice)
pub record AreRuns (modes : Modes) (runs : List (Mode × Span)) : Type 0 where
  pub rising : AllPairs (λ r s. r.1.last < s.1.first) runs
  pub each : All (λ r. IsRun modes r.1.first r.0 r.1) runs
  pub every : (byte : ℕ) (mode : Mode) → modes byte ≡ Some mode → Any (λ r. (r.0 ≡ mode) × Covers r.1 byte) runs

-- each run is a read lock (this project's choice)
abbrev pub AreReads : List (Mode × Span) → Type 0
AreReads runs = All (λ run. run.0 ≡ Read) runs

-- the one run lies before the other, and where they touch their modes differ
-- (fcntl_locking(2), "Advisory record locking", "splitting, shrinking, or coalescing")
abbrev pub IsApart : Mode × Span → Mode × Span → Type 0
IsApart run other = (run.1.last < other.1.first) × (run.1.last + 1 ≡ other.1.first → run.0 ≢ other.0)

-- there is one mode on all of a longer range, which reaches beyond this one at both ends: an unlock of this one leaves two runs
-- (fcntl_locking(2), "Advisory record locking", "splitting, shrinking, or coalescing")
pub record SplitsRun (modes : Modes) (span : Span) : Type 0 where
  pub mode : Mode
  pub around : Span
  pub before : around.first < span.first
  pub behind : span.last < around.last
  pub constant : IsConstant modes around mode

-- Runs that are found, and what a change makes of the modes.
use Rattle.std.specs.Prelude.{◌≡◌, ◌≢◌, ℕ, ◌+◌, ◌<◌, ◌≤◌, ⊤, Option, None, Some, IfNone, IfSome, List, [], ◌∷◌, All, AllPairs, Any}
use Rattle.std.specs.List.{AllByRecursion, find}
use Rattle.range_core.specs.declared.Mode.{Mode}
use Rattle.range_core.specs.declared.Span.{Span}
use Rattle.range_core.specs.Changes.{mode_in}
use Rattle.range_core.specs.Ranges.{IsApart, IsByteRange, IsConstant, IsRun, Modes}
use Rattle.range_core.specs.Replacing.{Touches}
use Rattle.owner_runs.specs.Tests.{ends_from}

-- each run has a byte and lies within a file, and is apart from those behind it
abbrev pub AreOrdered : List (Mode × Span) → Type 0
AreOrdered [] = ⊤
AreOrdered (run ∷ runs) = IsByteRange run.1 × AllByRecursion (IsApart run) runs × AreOrdered runs

-- each byte of the run has its mode, and neither of the two right beside it has
pub record IsWhole (modes : Modes) (run : Mode × Span) : Type 0 where
  pub constant : IsConstant modes run.1 run.0
  pub before : (byte : ℕ) → byte + 1 ≡ run.1.first → modes byte ≢ Some run.0
  pub behind : modes (run.1.last + 1) ≢ Some run.0

-- the run is the first that ends at the byte or behind it
pub record IsNextRun (modes : Modes) (byte : ℕ) (run : Mode × Span) : Type 0 where
  pub range : IsByteRange run.1
  pub whole : IsWhole modes run
  pub reaches : byte ≤ run.1.last
  pub free : (other : ℕ) → byte ≤ other → other < run.1.first → modes other ≡ None

-- this is the first run that ends at the byte or behind it, or none
pub record IsNext (runs : List (Mode × Span)) (byte : ℕ) (next : Option (Mode × Span)) : Type 0 where
  pub found : next ≡ find (ends_from byte) runs
  pub run : IfSome next (IsNextRun (mode_in runs) byte)
  pub none : IfNone next ((other : ℕ) → byte ≤ other → mode_in runs other ≡ None)

-- the run is the last that ends before the byte: where this has no mode, neither has one between them
pub record IsPriorRun (modes : Modes) (byte : ℕ) (run : Mode × Span) : Type 0 where
  pub range : IsByteRange run.1
  pub whole : IsWhole modes run
  pub ends : run.1.last < byte
  pub free : modes byte ≡ None → (other : ℕ) → run.1.last < other → other < byte → modes other ≡ None

-- this is the last run that ends before the byte, or none: where this has no mode then, neither has one before it
pub record IsPrior (modes : Modes) (byte : ℕ) (prior : Option (Mode × Span)) : Type 0 where
  pub run : IfSome prior (IsPriorRun modes byte)
  pub none : IfNone prior (modes byte ≡ None → (other : ℕ) → other < byte → modes other ≡ None)

-- the piece is of the run's mode, has a byte, and lies within the run
pub record IsPieceOf (run piece : Mode × Span) : Type 0 where
  pub mode : piece.0 ≡ run.0
  pub some : piece.1.first ≤ piece.1.last
  pub first : run.1.first ≤ piece.1.first
  pub last : piece.1.last ≤ run.1.last

-- no byte of the range has a mode
abbrev pub IsFree : Modes → Span → Type 0
IsFree modes span = (byte : ℕ) → span.first ≤ byte → byte ≤ span.last → modes byte ≡ None

-- no byte of the range has a mode, and none right beside it has this one
pub record IsGapFor (modes : Modes) (mode : Mode) (span : Span) : Type 0 where
  pub free : IsFree modes span
  pub before : (byte : ℕ) → byte + 1 ≡ span.first → modes byte ≢ Some mode
  pub behind : modes (span.last + 1) ≢ Some mode

-- the new modes are this one on just the range, and the old ones elsewhere
pub record IsSetOn (old new : Modes) (span : Span) (mode : Option Mode) : Type 0 where
  pub inside : (byte : ℕ) → span.first ≤ byte → byte ≤ span.last → new byte ≡ mode
  pub below : (byte : ℕ) → byte < span.first → new byte ≡ old byte
  pub above : (byte : ℕ) → span.last < byte → new byte ≡ old byte

-- of the run just the piece stays, and elsewhere nothing changes
pub record IsShortened (old new : Modes) (run piece : Span) : Type 0 where
  pub before : (byte : ℕ) → run.first ≤ byte → byte < piece.first → new byte ≡ None
  pub within : (byte : ℕ) → piece.first ≤ byte → byte ≤ piece.last → new byte ≡ old byte
  pub behind : (byte : ℕ) → piece.last < byte → byte ≤ run.last → new byte ≡ None
  pub below : (byte : ℕ) → byte < run.first → new byte ≡ old byte
  pub above : (byte : ℕ) → run.last < byte → new byte ≡ old byte

-- the bytes of the run that lie in the range have no mode, and elsewhere nothing changes
pub record IsCutOut (old new : Modes) (run span : Span) : Type 0 where
  pub both : (byte : ℕ) → span.first ≤ byte → byte ≤ span.last → run.first ≤ byte → byte ≤ run.last → new byte ≡ None
  pub below : (byte : ℕ) → byte < span.first → new byte ≡ old byte
  pub above : (byte : ℕ) → span.last < byte → new byte ≡ old byte
  pub before : (byte : ℕ) → byte < run.first → new byte ≡ old byte
  pub behind : (byte : ℕ) → run.last < byte → new byte ≡ old byte

-- the bytes behind the one up to the other, which had the mode, have none any more, and the one behind them doesn't have it
pub record IsFreedBehind (old new : Modes) (mode : Mode) (last to : ℕ) : Type 0 where
  pub ordered : last ≤ to
  pub had : (byte : ℕ) → last < byte → byte ≤ to → old byte ≡ Some mode
  pub freed : (byte : ℕ) → last < byte → byte ≤ to → new byte ≡ None
  pub below : (byte : ℕ) → byte ≤ last → new byte ≡ old byte
  pub above : (byte : ℕ) → to < byte → new byte ≡ old byte
  pub ends : new (to + 1) ≢ Some mode

-- these are the runs that share a byte with the range or lie right beside it, from the first byte on
pub record AreRunsTouching (modes : Modes) (span : Span) (runs : List (Mode × Span)) : Type 0 where
  pub rising : AllPairs (λ r s. r.1.last < s.1.first) runs
  pub each : All (λ r. IsRun modes r.1.first r.0 r.1) runs
  pub touch : All (Touches span) runs
  pub every : (mode : Mode) (run : Span) → IsRun modes run.first mode run → Touches span (mode, run) → Any (λ r. (r.0 ≡ mode) × (r.1 ≡ run)) runs

-- What owners have on each byte, said of whichever modes the runs of an index are of.
use Rattle.std.specs.Prelude.{◌≡◌, ◌≢◌, ℕ, ◌<◌, ◌≤◌, Some, List, Any}
use Rattle.range_core.specs.declared.Mode.{Mode}
use Rattle.range_core.specs.declared.Span.{Span}
use Rattle.range_core.specs.Ranges.{Modes, Covers, HeldConflicts}
use Rattle.interval_index.specs.declared.Holder.{Holder}
use Rattle.interval_index.specs.declared.Run.{Run}
use Rattle.interval_index.specs.Holders.{holder_of, IsBeforeHolder}

-- the modes of each owner
abbrev pub HolderModes : Type 0
HolderModes = Holder → Modes

-- the run tells what its owner has on a byte
pub record Tells (run : Run) (holder : Holder) (byte : ℕ) (mode : Mode) : Type 0 where
  pub of : holder_of run ≡ holder
  pub in_mode : run.mode ≡ mode
  pub covered : Covers run.span byte

-- the owners have what these runs tell, and nothing else
pub record AreRunsOf (modes : HolderModes) (runs : List Run) : Type 0 where
  pub told : (holder : Holder) (byte : ℕ) (mode : Mode) → Any (λ run. Tells run holder byte mode) runs → modes holder byte ≡ Some mode
  pub all : (holder : Holder) (byte : ℕ) (mode : Mode) → modes holder byte ≡ Some mode → Any (λ run. Tells run holder byte mode) runs

-- this owner, another one, has a lock on the byte that conflicts with the wanted mode
-- (POSIX.1-2017 fcntl, DESCRIPTION, F_SETLK and F_GETLK)
pub record BlocksOn (modes : HolderModes) (holder : Holder) (wanted : Mode) (byte : ℕ) (other : Holder) : Type 0 where
  pub another : other ≢ holder
  pub conflicts : HeldConflicts (modes other byte) wanted

-- on some byte of the range some other owner has a lock that conflicts with the wanted mode
-- (POSIX.1-2017 fcntl, DESCRIPTION, F_SETLK and F_GETLK)
pub record HolderConflict (modes : HolderModes) (holder : Holder) (span : Span) (wanted : Mode) : Type 0 where
  pub byte : ℕ
  pub covered : Covers span byte
  pub other : Holder
  pub blocks : BlocksOn modes holder wanted byte other

-- the least byte of the range that is blocked, and of the owners that block there the least
-- (which blocking lock is the first is this project's choice)
pub record IsFirstInTheWay (modes : HolderModes) (holder : Holder) (span : Span) (wanted : Mode) (byte : ℕ) (other : Holder) : Type 0 where
  pub covered : Covers span byte
  pub blocks : BlocksOn modes holder wanted byte other
  pub least_byte : (before : ℕ) (any : Holder) → span.first ≤ before → before < byte → ¬ BlocksOn modes holder wanted before any
  pub least_owner : (any : Holder) → IsBeforeHolder any other → ¬ BlocksOn modes holder wanted byte any

-- of these runs it is one of the owner's, and it covers the byte
pub record IsRunThere (runs : List Run) (holder : Holder) (byte : ℕ) (run : Run) : Type 0 where
  pub among : Any (λ other. other ≡ run) runs
  pub of : holder_of run ≡ holder
  pub covered : Covers run.span byte

-- How far runs reach, by owner.
use Rattle.std.specs.Prelude.{◌≡◌, ℕ, ◌≤◌, Bool, true, false, not, ◌&&◌, ◌||◌, nat_lt, cond, Option, Some, None, List}
use Rattle.std.specs.Bool.{nat_le}
use Rattle.std.specs.List.{list_any, AllByRecursion}
use Rattle.range_core.specs.declared.Mode.TheVariants.{Read, Write}
use Rattle.interval_index.specs.declared.Holder.{Holder}
use Rattle.interval_index.specs.declared.Run.{Run}
use Rattle.interval_index.specs.declared.reach.Reach.{Reach}
use Rattle.interval_index.specs.declared.reach.Reaches.{Reaches}
use Rattle.interval_index.specs.declared.least.Least.{Least}
use Rattle.interval_index.specs.Holders.{holder_of, is_same_holder, is_by, has_by, is_before}
use Rattle.interval_index.specs.Tests.{conflicts_with, is_others_from}

-- there is a last byte, and it is this byte or behind it
abbrev pub is_reached : Option ℕ → ℕ → Bool
is_reached None byte = false
is_reached (Some last) byte = nat_le byte last

-- some run of another owner ends at the byte or behind it
abbrev pub reaches : Reach → Holder → ℕ → Bool
reaches reach holder byte = cond (is_same_holder holder reach.holder) (is_reached reach.other byte) (is_reached reach.last byte)

-- the reach tells for each owner and byte whether one of the kept runs is another owner's and ends there or behind
pub record TellsOf (kept : Run → Bool) (reach : Reach) (runs : List Run) : Type 0 where
  pub falls : (byte : ℕ) → is_reached reach.other byte ≡ true → is_reached reach.last byte ≡ true
  pub exact : (holder : Holder) (byte : ℕ) → reaches reach holder byte ≡ list_any (λ run. kept run && is_others_from holder byte run) runs

-- the least owner that isn't this one
abbrev pub other_than : Holder → Option Holder → Option Holder → Option Holder
other_than holder None other = None
other_than holder (Some least) other = cond (is_same_holder holder least) other (Some least)

-- the run is another owner's, who comes no later than the bound
abbrev pub is_others_by : Holder → Holder → Run → Bool
is_others_by holder bound run = not (is_same_holder holder (holder_of run)) && is_by (holder_of run) bound

-- no run ends before the least last byte; and of each owner and bound it is told whether one of the runs is another owner's
-- who comes no later
pub record TellsLeast (least : Least) (runs : List Run) : Type 0 where
  pub last : AllByRecursion (λ run. least.last ≤ run.span.last) runs
  pub falls : (bound : Holder) → has_by least.other bound ≡ true → has_by least.holder bound ≡ true
  pub exact : (holder bound : Holder) → has_by (other_than holder least.holder least.other) bound ≡ list_any (is_others_by holder bound) runs

-- the reaches tell of the runs that conflict with each mode
pub record Tells (summary : Reaches) (runs : List Run) : Type 0 where
  pub all : TellsOf (λ run. conflicts_with Write run.mode) summary.all runs
  pub writes : TellsOf (λ run. conflicts_with Read run.mode) summary.writes runs
  pub least : TellsLeast summary.least runs

-- there is a last byte, and it lies behind this one
abbrev pub is_beyond : Option ℕ → ℕ → Bool
is_beyond None byte = false
is_beyond (Some last) byte = nat_lt byte last

-- others reach farther than the run, whoever asks
abbrev pub outlasts : Reach → Run → Bool
outlasts reach run = is_beyond (cond (is_same_holder (holder_of run) reach.holder) reach.last reach.other) run.span.last

-- two owners come before the run's, and some run may end before it
abbrev pub precedes : Least → Run → Bool
precedes least run = nat_lt least.last run.span.last && (is_before least.holder (holder_of run) && is_before least.other (holder_of run))

-- what is told of runs is told of them without this one
abbrev pub stays_without : Reaches → Run → Bool
stays_without reaches run = outlasts reaches.all run && (precedes reaches.least run && (not (conflicts_with Read run.mode) || outlasts reaches.writes run))

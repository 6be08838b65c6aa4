-- Which runs stand in the way of a lock, and how runs are ordered.
use Rattle.std.specs.Prelude.{◌≡◌, ◌≢◌, ℕ, ◌<◌, ◌≤◌, ◌⊎◌, ⊤, List, [], ◌∷◌}
use Rattle.std.specs.List.{AllByRecursion}
use Rattle.range_core.specs.declared.Mode.{Mode}
use Rattle.range_core.specs.declared.Span.{Span}
use Rattle.range_core.specs.Ranges.{Covers, Conflict}
use Rattle.interval_index.specs.declared.Holder.{Holder}
use Rattle.interval_index.specs.declared.Run.{Run}
use Rattle.interval_index.specs.Holders.{holder_of, IsBeforeHolder}

-- some byte lies in both ranges
abbrev pub Meet : Span → Span → Type 0
Meet span other = (byte : ℕ) × Covers span byte × Covers other byte

-- the run is another owner's, meets the range, and its mode conflicts with the wanted one
-- (POSIX.1-2017 fcntl, DESCRIPTION, F_SETLK)
pub record Blocks (holder : Holder) (span : Span) (wanted : Mode) (run : Run) : Type 0 where
  pub another : holder_of run ≢ holder
  pub meets : Meet run.span span
  pub conflicts : Conflict run.mode wanted

-- the run begins before the other, or at the same byte and has the lesser owner (this project's choice)
abbrev pub IsBefore : Run → Run → Type 0
IsBefore run other = (run.span.first < other.span.first) ⊎ ((run.span.first ≡ other.span.first) × IsBeforeHolder (holder_of run) (holder_of other))

-- each run has a byte, and comes before all behind it
abbrev pub AreOrdered : List Run → Type 0
AreOrdered [] = ⊤
AreOrdered (run ∷ runs) = (run.span.first ≤ run.span.last) × AllByRecursion (IsBefore run) runs × AreOrdered runs

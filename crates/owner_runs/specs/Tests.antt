-- Tests of runs.
use Rattle.std.specs.Prelude.{◌≡◌, ℕ, ◌-◌, ◌^◌, Bool, true, false, ◌&&◌, List, min}
use Rattle.std.specs.Bool.{nat_le}
use Rattle.std.specs.List.{count_by}
use Rattle.range_core.specs.declared.Mode.{Mode}
use Rattle.range_core.specs.declared.Mode.TheVariants.{Read, Write}
use Rattle.range_core.specs.declared.Span.{Span}
use Rattle.owner_runs.specs.declared.writes.Writes.{Writes}

-- the run ends at the byte or behind it
abbrev pub ends_from : ℕ → Mode × Span → Bool
ends_from byte run = nat_le byte run.1.last

-- the run ends at the first byte or behind it, and begins at the last byte or before it
abbrev pub meets : ℕ → ℕ → Mode × Span → Bool
meets first last run = ends_from first run && nat_le run.1.first last

-- locks of the two modes and of different owners can't stand together
abbrev pub modes_conflict : Mode → Mode → Bool
modes_conflict Write held = true
modes_conflict Read Write = true
modes_conflict Read Read = false

-- the run conflicts with a lock of the wanted mode
abbrev pub conflicts : Mode → Mode × Span → Bool
conflicts wanted run = modes_conflict wanted run.0

-- how many runs are write locks
abbrev pub count_writes : List (Mode × Span) → ℕ
count_writes runs = count_by (conflicts Read) runs

-- it is told how many runs are write locks; the greatest number stands for all beyond it too
abbrev pub CountsWrites : Writes → List (Mode × Span) → Type 0
CountsWrites writes runs = writes.count ≡ min (count_writes runs) (2 ^ 32 - 1)

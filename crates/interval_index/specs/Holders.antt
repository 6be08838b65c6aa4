-- Owners of runs.
use Rattle.std.specs.Prelude.{◌≡◌, ◌<◌, ◌⊎◌, Bool, false, not, ◌&&◌, ◌||◌, ◌==◌, nat_lt, Option, Some, None}
use Rattle.std.specs.Bool.{nat_le}
use Rattle.interval_index.specs.declared.Holder.{Holder}
use Rattle.interval_index.specs.declared.Run.{Run}

-- the owner of a run
abbrev pub holder_of : Run → Holder
holder_of run = record { class = run.class; number = run.number }

-- whether two owners are one
abbrev pub is_same_holder : Holder → Holder → Bool
is_same_holder holder other = holder.class == other.class && holder.number == other.number

-- owners by class, and then by number (this project's choice)
abbrev pub IsBeforeHolder : Holder → Holder → Type 0
IsBeforeHolder holder other = (holder.class < other.class) ⊎ ((holder.class ≡ other.class) × (holder.number < other.number))

-- the owner comes no later than the other
abbrev pub is_by : Holder → Holder → Bool
is_by holder bound = nat_lt holder.class bound.class || (holder.class == bound.class && nat_le holder.number bound.number)

-- there is an owner, and it comes no later than the other
abbrev pub has_by : Option Holder → Holder → Bool
has_by None bound = false
has_by (Some holder) bound = is_by holder bound

-- there is an owner, and it comes before the other
abbrev pub is_before : Option Holder → Holder → Bool
is_before None bound = false
is_before (Some holder) bound = not (is_by bound holder)

-- Tests of runs.
use Rattle.std.specs.Prelude.{ℕ, Bool, true, false, not, ◌&&◌, ◌||◌, ◌==◌, nat_lt, cond, Option, Some, None, List}
use Rattle.std.specs.Bool.{nat_le}
use Rattle.std.specs.List.{filter}
use Rattle.range_core.specs.declared.Mode.{Mode}
use Rattle.range_core.specs.declared.Mode.TheVariants.{Read, Write}
use Rattle.range_core.specs.declared.Span.{Span}
use Rattle.summary_tree.specs.Cuts.{put_before}
use Rattle.interval_index.specs.declared.Holder.{Holder}
use Rattle.interval_index.specs.declared.Run.{Run}
use Rattle.interval_index.specs.Holders.{holder_of, is_same_holder}

-- a lock of the wanted mode conflicts with one that is held
abbrev pub conflicts_with : Mode → Mode → Bool
conflicts_with Write held = true
conflicts_with Read Write = true
conflicts_with Read Read = false

-- the run is another owner's, and ends at the byte or behind it
abbrev pub is_others_from : Holder → ℕ → Run → Bool
is_others_from holder byte run = not (is_same_holder holder (holder_of run)) && nat_le byte run.span.last

-- it does, and its mode conflicts with the wanted one
abbrev pub reaches_lock : Holder → ℕ → Mode → Run → Bool
reaches_lock holder byte wanted run = conflicts_with wanted run.mode && is_others_from holder byte run

-- it does, and begins in the range or before it
abbrev pub blocks : Holder → Span → Mode → Run → Bool
blocks holder span wanted run = reaches_lock holder span.first wanted run && nat_le run.span.first span.last

-- the run has this first byte and this owner, or comes behind one that has
abbrev pub is_from : ℕ → Holder → Run → Bool
is_from first holder run =
    nat_lt first run.span.first || (first == run.span.first && (nat_lt holder.class run.class || (holder.class == run.class && nat_le holder.number run.number)))

-- the run comes behind one that has this first byte and this owner
abbrev pub comes_behind : ℕ → Holder → Run → Bool
comes_behind first holder run =
    nat_lt first run.span.first || (first == run.span.first && (nat_lt holder.class run.class || (holder.class == run.class && nat_lt holder.number run.number)))

-- the other run comes behind this one
abbrev pub is_after : Run → Run → Bool
is_after run other = comes_behind run.span.first (holder_of run) other

-- the run begins behind the byte
abbrev pub begins_after : ℕ → Run → Bool
begins_after byte run = nat_lt byte run.span.first

-- the run, if it begins at the byte or before it
abbrev pub beginning_by : ℕ → Option Run → Option Run
beginning_by byte None = None
beginning_by byte (Some run) = cond (nat_le run.span.first byte) (Some run) None

-- the run has this first byte and this owner
abbrev pub has_key : ℕ → Holder → Run → Bool
has_key first holder run = first == run.span.first && is_same_holder holder (holder_of run)

-- the runs without one that has this first byte and this owner
abbrev pub without : ℕ → Holder → List Run → List Run
without first holder runs = filter (λ run. not (has_key first holder run)) runs

-- the runs with this one in its place
abbrev pub with_run : Run → List Run → List Run
with_run run runs = put_before (is_from run.span.first (holder_of run)) run runs

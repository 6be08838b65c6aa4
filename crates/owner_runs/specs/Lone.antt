-- What one run, or none, stands for.
use Rattle.std.specs.Prelude.{ℕ, [], ◌∷◌, Option, Some, None}
use Rattle.range_core.specs.declared.Mode.{Mode}
use Rattle.range_core.specs.declared.Span.{Span}
use Rattle.range_core.specs.Ranges.{Covers, IsByteRange}
use Rattle.summary_tree.specs.Contents.{Contents}
use Rattle.owner_runs.specs.declared.lone_run.Place.{Place}
use Rattle.owner_runs.specs.declared.lone_run.Place.TheVariants.{Nothing, Held, Run}

-- its runs, and for how many sets it holds room
abbrev pub contents_of : Place → Contents (Mode × Span)
contents_of Nothing = record { items = []; room = 0 }
contents_of Held = record { items = []; room = 1 }
contents_of (Run run) = record { items = run ∷ []; room = 0 }

-- the piece has a byte, and its bytes are just those of the run that don't lie in the range
pub record IsPieceOutside (run span piece : Span) : Type 0 where
  pub range : IsByteRange piece
  pub within : (byte : ℕ) → Covers piece byte → Covers run byte × (¬ Covers span byte)
  pub all : (byte : ℕ) → Covers run byte → (¬ Covers span byte) → Covers piece byte

-- this piece is left of the run where the range is taken out, or nothing
abbrev pub IsLeftOf : Span → Span → Option Span → Type 0
IsLeftOf run span (Some piece) = IsPieceOutside run span piece
IsLeftOf run span None = (byte : ℕ) → Covers run byte → Covers span byte

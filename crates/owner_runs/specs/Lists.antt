-- What the runs of an owner stand for.
use Rattle.std.specs.Prelude.{◌≡◌, ◌≢◌, None, ℕ, ◌+◌, ◌<◌, ◌≤◌, List, All, length}
use Rattle.std.specs.List.{AllWithin}
use Rattle.range_core.specs.declared.Mode.{Mode}
use Rattle.range_core.specs.declared.Span.{Span}
use Rattle.range_core.specs.Changes.{mode_in, modes_of as list_modes_of, room_of as list_room_of}
use Rattle.range_core.specs.Ranges.{AreRuns, Covers, IsByteRange, Modes}
use Rattle.range_core.specs.Replacing.{Touches}
use Rattle.owner_runs.specs.declared.owner_runs.OwnerRuns.{OwnerRuns}
use Rattle.owner_runs.specs.declared.owner_runs.Kept.{Kept}
use Rattle.owner_runs.specs.declared.owner_runs.Kept.TheVariants.{Few, Lone, Many}
use Rattle.owner_runs.specs.declared.owner_runs.Standing.{Standing}
use Rattle.owner_runs.specs.declared.owner_runs.Standing.TheVariants.{InTree, Listed}

-- the modes that one run, a list or a tree of runs gives the bytes
abbrev pub kept_modes : Kept → Modes
kept_modes (Lone lone) = mode_in lone.items
kept_modes (Few list) = list_modes_of list.value
kept_modes (Many tree) = mode_in tree.value.runs.items

-- for how many further sets it holds room
abbrev pub kept_room : Kept → ℕ
kept_room (Lone lone) = lone.room
kept_room (Few list) = list_room_of list.value
kept_room (Many tree) = tree.value.room

-- the modes that an owner's runs stand for
unfoldable pub modes_of : OwnerRuns → Modes
modes_of runs = kept_modes runs.kept

-- for how many further sets an owner's runs hold room
unfoldable pub room_of : OwnerRuns → ℕ
room_of runs = kept_room runs.kept

-- these are all the runs of the modes, listed or in a tree
abbrev pub StandsFor : Modes → Standing → Type 0
StandsFor modes (Listed runs) = AreRuns modes runs.now × All (λ run. IsByteRange run.1) runs.now
StandsFor modes (InTree tree) = modes ≡ mode_in tree.now.items

-- the two have the same mode on each byte, and the same room
pub record SameRuns (old new : OwnerRuns) : Type 0 where
  pub modes : (byte : ℕ) → modes_of new byte ≡ modes_of old byte
  pub room : room_of new ≡ room_of old

-- any owner's runs stand for the modes that some runs, finitely many, give the bytes
abbrev pub OwnersStandForRuns : Type 0
OwnersStandForRuns = (owner : OwnerRuns) → (runs : List (Mode × Span)) × ((byte : ℕ) → modes_of owner byte ≡ mode_in runs byte)

-- of the runs just those from this place to that one share a byte with the range or lie right beside it
pub record AreTouched (runs : List (Mode × Span)) (span : Span) (start end : ℕ) : Type 0 where
  pub ordered : start ≤ end
  pub within : end ≤ length runs
  pub before : AllWithin (λ run. run.1.last + 1 < span.first) runs 0 start
  pub between : AllWithin (Touches span) runs start end
  pub behind : AllWithin (λ run. span.last + 1 < run.1.first) runs end (length runs)

-- the range lies within a file, its first and its last byte have a mode, and no byte outside of it has one
pub record IsExtent (modes : Modes) (span : Span) : Type 0 where
  pub range : IsByteRange span
  pub first : modes span.first ≢ None
  pub last : modes span.last ≢ None
  pub outside : (byte : ℕ) → ¬ Covers span byte → modes byte ≡ None

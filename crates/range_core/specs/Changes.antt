-- What sets do to modes: a set replaces the mode on each byte of its range.
use Rattle.std.specs.Prelude.{◌≡◌, ℕ, nat_le, Bool, ◌&&◌, if◌then◌else◌, Option, None, Some, List, [], ◌∷◌}
use Rattle.range_core.specs.declared.Mode.{Mode}
use Rattle.range_core.specs.declared.Span.{Span}
use Rattle.range_core.specs.declared.list.RangeList.{RangeList}
use Rattle.range_core.specs.Ranges.{Modes}

-- whether the byte lies in the range (POSIX.1-2017 fcntl, DESCRIPTION, struct flock)
abbrev pub is_covered : Span → ℕ → Bool
is_covered span byte = nat_le span.first byte && nat_le byte span.last

-- the modes after a set of one range, where no mode means an unlock
-- (POSIX.1-2017 fcntl, DESCRIPTION, F_SETLK, "the previous lock type ... shall be replaced by the new lock type")
abbrev pub modes_with : Modes → Span → Option Mode → Modes
modes_with modes span mode byte = if is_covered span byte then mode else modes byte

-- new has this mode on just the range, and old's elsewhere (POSIX.1-2017 fcntl, DESCRIPTION, F_SETLK)
abbrev pub SetsMode : Modes → Modes → Span → Option Mode → Type 0
SetsMode old new span mode = (byte : ℕ) → new byte ≡ modes_with old span mode byte

-- the mode that one of these runs gives the byte, or none (this project's choice)
abbrev pub mode_in : List (Mode × Span) → ℕ → Option Mode
mode_in [] byte = None
mode_in (run ∷ runs) byte = if is_covered run.1 byte then Some run.0 else mode_in runs byte

-- the modes that a `RangeList` stands for (this project's choice)
unfoldable pub modes_of : RangeList → Modes
modes_of list byte = mode_in list.runs.items byte

-- for how many further sets a `RangeList` holds room (this project's choice)
unfoldable pub room_of : RangeList → ℕ
room_of list = list.room

-- the two have the same mode on each byte, and the same room (this project's choice)
pub record SameList (old new : RangeList) : Type 0 where
  pub modes : (byte : ℕ) → modes_of new byte ≡ modes_of old byte
  pub room : room_of new ≡ room_of old

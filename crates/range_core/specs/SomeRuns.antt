-- Each `RangeList` stands for the modes of some runs.
use Rattle.std.specs.Prelude.{◌≡◌, ℕ, List}
use Rattle.range_core.specs.declared.Mode.{Mode}
use Rattle.range_core.specs.declared.Span.{Span}
use Rattle.range_core.specs.declared.list.RangeList.{RangeList}
use Rattle.range_core.specs.Changes.{mode_in, modes_of}

-- any list stands for the modes that some runs, finitely many, give the bytes
abbrev pub ListsStandForRuns : Type 0
ListsStandForRuns = (list : RangeList) → (runs : List (Mode × Span)) × ((byte : ℕ) → modes_of list byte ≡ mode_in runs byte)

-- What a set leaves of the runs that it touches.
use Rattle.std.specs.Prelude.{◌≡◌, ◌≢◌, ℕ, ◌+◌, ◌<◌, ◌≤◌, ◌⊎◌, Option, None, Some, List, [], ◌∷◌, length, get_or, take, drop, slice_range, All, AllPairs}
use Rattle.range_core.specs.declared.TheConstants.{OFFMAX}
use Rattle.range_core.specs.declared.Mode.{Mode}
use Rattle.range_core.specs.declared.Span.{Span}
use Rattle.range_core.specs.Ranges.{IsApart, IsByteRange}
use Rattle.range_core.specs.Changes.{mode_in, SetsMode}

-- each run has a byte and lies within a file, and each is apart from the later ones (this project's choice)
pub record AreInOrder (runs : List (Mode × Span)) : Type 0 where
  pub ranges : All (λ run. IsByteRange run.1) runs
  pub apart : AllPairs IsApart runs

-- the run shares a byte with the range, or lies right beside it (this project's choice)
abbrev pub Touches : Span → Mode × Span → Type 0
Touches span run = (span.first ≤ run.1.last + 1) × (run.1.first ≤ span.last + 1)

-- these are the places of the touched runs: those before the first end before the range and its neighbour, and those from the
-- second on begin behind them (this project's choice)
pub record AreTouched (runs : List (Mode × Span)) (span : Span) (start end : ℕ) : Type 0 where
  pub ordered : start ≤ end
  pub within : end ≤ length runs
  pub before : All (λ run. run.1.last + 1 < span.first) (take start runs)
  pub between : All (Touches span) (slice_range runs start end)
  pub behind : All (λ run. span.last + 1 < run.1.first) (drop end runs)

-- the range lies inside the one touched run, which reaches beyond it at both ends (this project's choice)
pub record IsInside (touched : List (Mode × Span)) (span : Span) : Type 0 where
  pub some : 0 < length touched
  pub before : (d : Mode × Span) → (get_or touched 0 d).1.first < span.first
  pub behind : (d : Mode × Span) → span.last < (get_or touched 0 d).1.last

-- these runs stand in the place of the touched ones after a set of the mode on the range, two more of them at most; what lies
-- further off than the range's neighbours is as far apart from them as it was from the touched ones (this project's choice)
pub record IsReplacement (touched : List (Mode × Span)) (span : Span) (mode : Option Mode) (put : List (Mode × Span)) : Type 0 where
  pub modes : SetsMode (mode_in touched) (mode_in put) span mode
  pub in_order : AreInOrder put
  pub few : length put ≤ length touched + 2
  pub unlock : mode ≡ None → (length put ≤ length touched) ⊎ IsInside touched span
  pub before : (run : Mode × Span) → run.1.last + 1 < span.first → All (IsApart run) touched → All (IsApart run) put
  pub behind : (run : Mode × Span) → span.last + 1 < run.1.first → All (λ r. IsApart r run) touched → All (λ r. IsApart r run) put

-- a set's own run, from the first of these bytes to the last: none where the set is an unlock (this project's choice)
abbrev pub own_run : Option Mode → ℕ → ℕ → List (Mode × Span)
own_run None first last = []
own_run (Some mode) first last = (mode, record { first = first; last = last }) ∷ []

-- a set's own run begins at this byte, and before it stays this piece of what the set touches (this project's choice)
pub record IsLeftEnd (touched : List (Mode × Span)) (span : Span) (mode : Option Mode) (first : ℕ) (piece : List (Mode × Span)) : Type 0 where
  pub at_most : first ≤ span.first
  pub few : length piece ≤ length touched
  pub single : length piece ≤ 1
  pub joined : (byte : ℕ) → first ≤ byte → byte < span.first → mode_in touched byte ≡ mode
  pub outside : (byte : ℕ) → byte < first → mode_in touched byte ≡ mode_in piece byte
  pub beside : All (λ r. (r.1.first ≤ r.1.last) × (r.1.last + 1 ≡ first) × (mode ≢ Some r.0)) piece
  pub apart : (run : Mode × Span) (last : ℕ) → run.1.last + 1 < span.first → All (IsApart run) touched
      → All (IsApart run) piece × All (IsApart run) (own_run mode first last)

-- a set's own run ends at this byte, and behind it stays this piece of what the set touches (this project's choice)
pub record IsRightEnd (touched : List (Mode × Span)) (span : Span) (mode : Option Mode) (last : ℕ) (piece : List (Mode × Span)) : Type 0 where
  pub at_least : span.last ≤ last
  pub within : last ≤ OFFMAX
  pub single : length piece ≤ 1
  pub joined : (byte : ℕ) → span.last < byte → byte ≤ last → mode_in touched byte ≡ mode
  pub outside : (byte : ℕ) → last < byte → mode_in touched byte ≡ mode_in piece byte
  pub beside : All (λ r. (last + 1 ≡ r.1.first) × IsByteRange r.1 × (mode ≢ Some r.0)) piece
  pub apart : (run : Mode × Span) (first : ℕ) → span.last + 1 < run.1.first → All (λ r. IsApart r run) touched
      → All (λ r. IsApart r run) piece × All (λ r. IsApart r run) (own_run mode first last)

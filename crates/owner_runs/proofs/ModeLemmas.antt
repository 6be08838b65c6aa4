-- The bytes that a range covers, and the mode that a list of runs gives a byte.
use Rattle.std.proofs.Common.{ℕ, ◌≡◌, ◌<◌, ◌≤◌, ◌⊎◌, inl, inr, true, false}
use Rattle.std.proofs.lemmas.Bool.{cases_lt, and_left, and_right, and_from, le-leb, lt-leb}
use Rattle.range_core.specs.declared.Span.{Span}
use Rattle.range_core.specs.Ranges.{Covers}
use Rattle.range_core.specs.Changes.{is_covered}

-- what the test says of a byte that the range covers, and of one before it or behind it
pub covered : (span : Span) (byte : ℕ) → span.first ≤ byte → byte ≤ span.last → is_covered span byte ≡ true
covered span byte from upto = and_from _ _ (le-leb span.first byte from) (le-leb byte span.last upto)

pub below : (span : Span) (byte : ℕ) → byte < span.first → is_covered span byte ≡ false
below span byte low = and_left _ _ (lt-leb span.first byte low)

pub above : (span : Span) (byte : ℕ) → span.last < byte → is_covered span byte ≡ false
above span byte high = and_right _ _ (lt-leb byte span.last high)

-- a range covers the byte, or the test says that it doesn't
pub cases_covers : (span : Span) (byte : ℕ) → Covers span byte ⊎ (is_covered span byte ≡ false)
cases_covers span byte = elim (cases_lt byte span.first) [
  | inl low ↦ inr (below span byte low)
  | inr from ↦ elim (cases_lt span.last byte) [
    | inl high ↦ inr (above span byte high)
    | inr upto ↦ inl (from, upto)
  ]
]

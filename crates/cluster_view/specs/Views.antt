-- The order of views, and which one comes next (the words are this project's choice).
use Rattle.std.specs.Prelude.{◌≡◌, ◌<◌, ◌≤◌, ◌+◌, ◌^◌, ◌⊎◌, ◌&&◌, ◌||◌, ◌==◌, ℕ, Bool, nat_lt}
use Rattle.cluster_view.specs.declared.view.View.{View}

-- the one view comes before the other: by the ring, and within one by the count
abbrev pub IsBefore : View → View → Type 0
IsBefore view other = (view.ring < other.ring) ⊎ ((view.ring ≡ other.ring) × (view.count < other.count))

-- the one view is the other or comes before it
abbrev pub IsUpTo : View → View → Type 0
IsUpTo view other = (view.ring < other.ring) ⊎ ((view.ring ≡ other.ring) × (view.count ≤ other.count))

-- the test of `IsBefore`
abbrev pub is_before : View → View → Bool
is_before view other = nat_lt view.ring other.ring || (view.ring == other.ring) && nat_lt view.count other.count

-- the ring has no view after the known one: that is of a later ring, or the last that this ring can count
abbrev pub IsAtEnd : ℕ → View → Type 0
IsAtEnd ring known = (ring < known.ring) ⊎ ((ring ≡ known.ring) × (2 ^ 64 ≤ known.count + 1))

-- the least view of the ring from the first one on that is after the known one
pub record IsNextFrom (first known view : View) : Type 0 where
  pub ring : view.ring ≡ first.ring
  pub from : first.count ≤ view.count
  pub fits : view.count < 2 ^ 64
  pub after : IsBefore known view
  pub least : (count : ℕ) → first.count ≤ count → IsBefore known (record { ring = first.ring; count = count }) → view.count ≤ count

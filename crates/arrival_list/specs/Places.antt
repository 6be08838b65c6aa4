-- The first place of what is looked for.
use Rattle.std.specs.Prelude.{◌≡◌, ℕ, ◌<◌, ◌≤◌, Bool, true, false, Option, Some, None, List, slice_get}

-- from this place on no item passes the test
abbrev pub NonePassesFrom : {X : Type 0} → (X → Bool) → ℕ → List X → Type 0
NonePassesFrom {X} p from xs = (i : ℕ) (x : X) → from ≤ i → slice_get xs i ≡ Some x → p x ≡ false

-- the item at the place passes the test, and none does from the one place to before the other
pub record IsFirstFrom {X : Type 0} (p : X → Bool) (from : ℕ) (xs : List X) (place : ℕ) (item : X) : Type 0 where
  pub not_before : from ≤ place
  pub there : slice_get xs place ≡ Some item
  pub passes : p item ≡ true
  pub first : (i : ℕ) (x : X) → from ≤ i → i < place → slice_get xs i ≡ Some x → p x ≡ false

-- the first place from this one on whose item passes the test, if there is one
abbrev pub IsPlaceFrom : {X : Type 0} → (X → Bool) → ℕ → List X → Option ℕ → Type 0
IsPlaceFrom p from xs None = NonePassesFrom p from xs
IsPlaceFrom {X} p from xs (Some place) = (item : X) × IsFirstFrom p from xs place item

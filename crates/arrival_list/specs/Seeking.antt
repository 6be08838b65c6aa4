-- What was found of the items that were gone through.
use Rattle.std.specs.Prelude.{◌≡◌, ℕ, Bool, List, length}
use Rattle.arrival_list.specs.declared.arrived.Arrived.{Arrived}
use Rattle.arrival_list.specs.declared.seek.Sought.{Sought}
use Rattle.arrival_list.specs.declared.seek.Sought.TheVariants.{Passed, Found}
use Rattle.arrival_list.specs.Places.{IsFirstFrom, NonePassesFrom}

-- nothing that is looked for from this place on, after all of them, or the first at its place
abbrev pub HasSought : {T : Type 0} → (Arrived T → Bool) → ℕ → List (Arrived T) → Sought T → Type 0
HasSought p from seen (Passed count) = (count ≡ length seen) × NonePassesFrom p from seen
HasSought p from seen (Found place arrived) = IsFirstFrom p from seen place arrived

-- The owners that a search reached (the words are this project's choice).
use Rattle.std.specs.Prelude.{◌≡◌, ℕ, ◌==◌, true, List, IsTrue}
use Rattle.std.specs.BTreeSet.{BTreeSet, contains}
use Rattle.std.specs.List.{list_any}
use Rattle.std.specs.Ordering.{nat_cmp}

-- who is in the set stands in the list
abbrev pub AreAmong : BTreeSet ℕ → List ℕ → Type 0
AreAmong known owners = (owner : ℕ) → IsTrue (contains nat_cmp known owner) → list_any (λ other. other == owner) owners ≡ true

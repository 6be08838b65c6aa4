-- How many places hold room for how many items.
use Rattle.std.specs.Prelude.{ℕ, ◌+◌, ◌-◌, ◌*◌, ◌≤◌, ◌⊎◌, Option, Some, None, List, [], ◌∷◌}
use Rattle.summary_tree.specs.Contents.{Parts}
use Rattle.summary_tree.specs.Sizes.{block_size, part_size, puts_until_split}

-- how many puts fewer the place of a tree's first item holds, where no node is kept for it
abbrev pub first_cost : {X N : Type 0} → List X → Option N → ℕ
first_cost [] None = block_size - part_size
first_cost [] (Some node) = 0
first_cost (x ∷ xs) kept = 0

-- there is a place for each item that there is room for, or one for as many of these, and of the items that blocks have in excess, as a block
-- takes from one split to the next
abbrev pub IsHeld : {X N : Type 0} → Parts X → Option N → ℕ → ℕ → Type 0
IsHeld parts kept room places = (room ≤ places) ⊎ (parts.excess + first_cost parts.items kept + room ≤ puts_until_split * places)

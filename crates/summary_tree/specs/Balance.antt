-- How many nodes may hang on the two sides of a node: the weight of a side is one more than their number.
use Rattle.std.specs.Prelude.{ℕ, ◌+◌, ◌*◌, ◌≤◌}

-- neither side has more than three times the weight of the other
abbrev pub IsBalanced : ℕ → ℕ → Type 0
IsBalanced left right = (left ≤ 3 * right + 2) × (right ≤ 3 * left + 2)

-- so it may be where a balanced side has had one node more or less
abbrev pub IsNearlyBalanced : ℕ → ℕ → Type 0
IsNearlyBalanced left right = (left ≤ 3 * right + 5) × (right ≤ 3 * left + 5)

-- one is the other, or one more
abbrev pub IsOneMoreAtMost : ℕ → ℕ → Type 0
IsOneMoreAtMost more nodes = (nodes ≤ more) × (more ≤ nodes + 1)

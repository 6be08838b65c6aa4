-- What trees stand for.
use Rattle.std.specs.Prelude.{ℕ, List}

-- the items in order, and for how many more there is room
pub record Contents (T : Type 0) : Type 0 where
  pub items : List T
  pub room : ℕ

-- the items in order, in how many nodes they are, and by how many items the nodes' blocks exceed what a part of a split block may have
pub record Parts (T : Type 0) : Type 0 where
  pub items : List T
  pub nodes : ℕ
  pub excess : ℕ

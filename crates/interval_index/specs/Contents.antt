-- What an index of runs stands for.
use Rattle.std.specs.Prelude.{ℕ, List}
use Rattle.interval_index.specs.declared.Run.{Run}

-- the runs in order, and for how many more there is room
pub record RunContents : Type 0 where
  pub runs : List Run
  pub room : ℕ

-- How many entries stand in a block.
use Rattle.std.specs.Prelude.{ℕ}

-- how many a block has at most
abbrev pub block_size : ℕ
block_size = 32

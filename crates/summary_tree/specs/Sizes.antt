-- How many items stand in the block of a node.
use Rattle.std.specs.Prelude.{ℕ}

-- how many a block holds at most
abbrev pub block_size : ℕ
block_size = 64

-- how many each part of a full block has at most that was split for one more
abbrev pub part_size : ℕ
part_size = 48

-- how many are put into such a part until it is split, or more
abbrev pub puts_until_split : ℕ
puts_until_split = 17

use Rattle.std.proofs.Common.{◌≤◌, ◌-◌, length, take}
use Rattle.block_map.specs.Blocks.{AreBefore}
use Rattle.block_map.proofs.block.Block.stepped_over.Given as goal

-- the keys that are stepped over come before the key
abbrev pub invariant-loop-place : goal.invariant-loop-place
invariant-loop-place g l = record {
  within : l.place ≤ length l.self;
  before : AreBefore g.K.Ord.cmp l.key (take l.place l.self);
}

abbrev pub decreases-loop-place : goal.decreases-loop-place
decreases-loop-place g l = length l.self - l.place

use Rattle.std.proofs.Common.{◌≡◌, ◌++◌, length}
use Rattle.block_map.specs.Blocks.{entries_of}
use Rattle.block_map.proofs.iter.IterIterator.next.Given as goal

abbrev pub invariant-loop-entry : goal.invariant-loop-entry
invariant-loop-entry g l = l.self-inside.left ++ entries_of l.self-inside.blocks ≡ l.initial.self-inside.left ++ entries_of l.initial.self-inside.blocks

abbrev pub decreases-loop-entry : goal.decreases-loop-entry
decreases-loop-entry g l = length l.self-inside.blocks

use Rattle.std.proofs.Common.{◌≡◌, ◌+◌, ◌≤◌, length}
use Rattle.block_map.proofs.map.BlockMap.has_more_than.Given as goal

abbrev pub invariant-loop-entries : goal.invariant-loop-entries
invariant-loop-entries g l = (length l.entries + l.initial.limit ≡ length l.initial.self + l.left) × (l.left ≤ l.initial.limit)

abbrev pub decreases-loop-entries : goal.decreases-loop-entries
decreases-loop-entries g l = length l.entries

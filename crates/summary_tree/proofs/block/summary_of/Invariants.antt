use Rattle.std.proofs.Common.{take}
use Rattle.summary_tree.proofs.block.summary_of.Given as goal

abbrev pub invariant-loop-item : goal.invariant-loop-item
invariant-loop-item g l = g.S.Summary.tells l.summary (take l.item-index l.items)

use Rattle.std.proofs.Common.{List, ◌++◌, take}
use Rattle.summary_tree.proofs.slices.walk.Given as goal

abbrev pub invariant-loop-item : goal.invariant-loop-item
invariant-loop-item g l = (seen : List g.row.T.Denot) → g.W.Walk.gathers l.walk l.initial.found seen → g.W.Walk.gathers l.walk l.found (seen ++ take l.item-index l.items)

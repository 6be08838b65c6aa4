use Rattle.std.proofs.Common.{◌≡◌, List, ◌++◌, take, drop}
use Rattle.summary_tree.specs.Cuts.{before}
use Rattle.summary_tree.proofs.slices.walk_before.Given as goal

abbrev pub invariant-loop-item : goal.invariant-loop-item
invariant-loop-item g l = record {
  gathered : (seen : List g.row.T.Denot) → g.W.Walk.gathers l.walk l.initial.found seen → g.W.Walk.gathers l.walk l.found (seen ++ take l.item-index l.items);
  before : before (g.C.Cut.is_behind l.cut) l.items ≡ take l.item-index l.items ++ before (g.C.Cut.is_behind l.cut) (drop l.item-index l.items);
}

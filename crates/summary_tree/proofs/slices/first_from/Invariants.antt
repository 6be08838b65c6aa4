use Rattle.std.proofs.Common.{◌≡◌, drop}
use Rattle.std.specs.List.{find}
use Rattle.summary_tree.proofs.slices.first_from.Given as goal

abbrev pub invariant-loop-item : goal.invariant-loop-item
invariant-loop-item g l = find (g.C.Cut.is_behind l.cut) l.items ≡ find (g.C.Cut.is_behind l.cut) (drop l.item-index l.items)

use Rattle.std.proofs.Common.{◌≡◌, drop}
use Rattle.std.specs.List.{find}
use Rattle.summary_tree.specs.Cuts.{both}
use Rattle.summary_tree.proofs.slices.first_where_from.Given as goal

abbrev pub invariant-loop-item : goal.invariant-loop-item
invariant-loop-item g l =
    find (both (g.C.Cut.is_behind l.cut) (g.Q.Query.hits l.query)) l.items ≡ find (both (g.C.Cut.is_behind l.cut) (g.Q.Query.hits l.query)) (drop l.item-index l.items)

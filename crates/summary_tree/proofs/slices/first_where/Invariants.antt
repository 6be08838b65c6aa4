use Rattle.std.proofs.Common.{◌≡◌, drop}
use Rattle.std.specs.List.{find}
use Rattle.summary_tree.proofs.slices.first_where.Given as goal

abbrev pub invariant-loop-item : goal.invariant-loop-item
invariant-loop-item g l = find (g.Q.Query.hits l.query) l.items ≡ find (g.Q.Query.hits l.query) (drop l.item-index l.items)

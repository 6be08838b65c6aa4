use Rattle.std.proofs.Common.{◌≡◌, ◌+◌, drop}
use Rattle.std.specs.List.{position_or_len}
use Rattle.summary_tree.proofs.slices.place_of.Given as goal

abbrev pub invariant-loop-place : goal.invariant-loop-place
invariant-loop-place g l = position_or_len (g.C.Cut.is_behind l.cut) l.items ≡ l.place + position_or_len (g.C.Cut.is_behind l.cut) (drop l.place l.items)

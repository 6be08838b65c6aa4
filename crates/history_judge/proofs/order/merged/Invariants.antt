use Rattle.history_judge.proofs.Common.{◌≡◌, ◌++◌, lefts_in}
use Rattle.std.proofs.Common.{drop}
use Rattle.history_judge.specs.Merging.{merged as merged_of}
use Rattle.history_judge.proofs.order.merged.Given as goal

abbrev pub invariant-loop-index : goal.invariant-loop-index
invariant-loop-index l = l.told.items ++ merged_of l.index (lefts_in l.orders) (drop l.index l.files) ≡ merged_of 0 (lefts_in l.fn.orders) l.files

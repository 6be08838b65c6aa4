use Rattle.std.specs.List.{AllWithin}
use Rattle.std.proofs.Common.{◌+◌}
use Rattle.range_core.specs.Ranges.{Conflict}
use Rattle.range_core.proofs.list.RangeList.first_hit.Given as goal

abbrev pub invariant-loop-run : goal.invariant-loop-run
invariant-loop-run l = AllWithin (λ run. ¬ (Conflict run.0 l.against)) l.self.runs.items l.place (l.place + l.run-index)

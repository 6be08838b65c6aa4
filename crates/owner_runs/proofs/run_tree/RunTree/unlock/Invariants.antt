use Rattle.std.proofs.Common.{◌+◌, ◌-◌, ◌≤◌}
use Rattle.range_core.specs.Changes.{mode_in}
use Rattle.owner_runs.proofs.PieceLemmas.{IsUnlockedUpto}
use Rattle.owner_runs.proofs.run_tree.RunTree.unlock.Given as goal

abbrev pub invariant-loop-run : goal.invariant-loop-run
invariant-loop-run l = record {
  unlocked : IsUnlockedUpto (mode_in l.initial.self.items) (mode_in l.self.items) l.span l.first;
  room : l.initial.self.room ≤ l.self.room;
}

abbrev pub decreases-loop-run : goal.decreases-loop-run
decreases-loop-run l = l.span.last + 1 - l.first

use Rattle.std.proofs.Common.{ℕ, ◌≡◌, ◌+◌, take}
use Rattle.range_core.specs.Changes.{mode_in}
use Rattle.owner_runs.proofs.set_tree.put_all.Given as goal

abbrev pub invariant-loop-run : goal.invariant-loop-run
invariant-loop-run l = record {
  modes : (byte : ℕ) → mode_in l.tree.items byte ≡ mode_in (take l.run-index l.runs) byte;
  room : l.tree.room + l.run-index ≡ l.initial.tree.room;
}

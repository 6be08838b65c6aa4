use Rattle.std.proofs.Common.{◌≡◌, ◌+◌, ◌≤◌, ◌++◌, length, take, drop}
use Rattle.smallvec.specs.SmallVec.{small_vec_len}
use Rattle.range_core.proofs.splice.insert_all.Given as goal

-- what is left to insert makes of the runs what the whole makes of those at the start
abbrev pub invariant-loop-run : goal.invariant-loop-run
invariant-loop-run l =
    let left = l.run-iterator.iter.rest.now in
    (record {
      items : take l.at l.fn.runs.items ++ (l.added ++ drop l.at l.fn.runs.items) ≡ take l.at l.runs.items ++ (left ++ drop l.at l.runs.items);
      within : l.at ≤ small_vec_len l.runs;
      room : small_vec_len l.runs + length left ≤ l.runs.capacity;
      grown : l.fn.runs.capacity ≤ l.runs.capacity;
    })
    × (goal.iterator-loop-run).can_next l.run-iterator
    × (goal.iterator-loop-run).is_finite l.run-iterator

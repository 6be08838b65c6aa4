use Rattle.replay_core.proofs.Common.{◌≡◌, ◌≤◌, ◌++◌, All, map, vec_len, into_iter_items, started, IsFor}
use Rattle.std.proofs.Common.{vec_capacity}
use Rattle.replay_core.proofs.threads.start_all.Given as goal

abbrev pub invariant-loop-caller : goal.invariant-loop-caller
invariant-loop-caller g l = record {
  all : map started l.places.items ++ into_iter_items l.caller-iterator ≡ l.fn.callers.items;
  room : vec_len l.fn.callers ≤ vec_capacity l.places;
  watch : All (IsFor l.fn.watch) l.places.items;
}

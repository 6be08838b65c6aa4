use Rattle.replay_core.proofs.Common.{◌≡◌, ◌≤◌, List, ◌++◌, All, map, vec_len, vec_items, into_iter_items, desk_view, Caller, AreGathered, AreToldOf, started, IsFor}
use Rattle.std.proofs.Common.{vec_capacity}
use Rattle.call_table.specs.Desks.{session_in, SameDesk}
use Rattle.replay_core.proofs.threads.gather_all.Given as goal

abbrev pub invariant-loop-place : goal.invariant-loop-place
invariant-loop-place g l = record {
  done : List Caller;
  all : done ++ map started (into_iter_items l.place-iterator) ≡ map started l.fn.places.items;
  room : vec_len l.fn.places ≤ vec_capacity l.collected;
  same : SameDesk l.fn.desk l.desk;
  session : session_in l.desk ≡ session_in l.fn.desk;
  journal : (desk_view l.desk).journal ≡ (desk_view l.fn.desk).journal;
  gathered : AreGathered (desk_view l.fn.desk).journal done (map vec_items l.collected.items);
  watch : All (IsFor l.fn.watch) (into_iter_items l.place-iterator);
  told : AreToldOf (g.W.Watch.told l.fn.watch) (desk_view l.fn.desk).journal done;
}

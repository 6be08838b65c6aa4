use Rattle.lock_server.proofs.Common.{map, take, SetsEach, lock_request, AreSwept, table_state}
use Rattle.lock_server.proofs.table.Table.restore_locks.Given as goal

abbrev pub invariant-loop-i : goal.invariant-loop-i
invariant-loop-i l = record {
  sets : SetsEach (table_state l.initial.self) l.file (map lock_request (take l.i l.locks)) (table_state l.self);
  swept : AreSwept l.initial.self → AreSwept l.self;
}

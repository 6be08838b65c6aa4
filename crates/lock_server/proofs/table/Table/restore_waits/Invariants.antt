use Rattle.lock_server.proofs.Common.{take, JoinsEach, AreSwept, table_state}
use Rattle.lock_server.proofs.table.Table.restore_waits.Given as goal

abbrev pub invariant-loop-i : goal.invariant-loop-i
invariant-loop-i l = record {
  joins : JoinsEach (table_state l.initial.self) l.file (take l.i l.waits) (table_state l.self);
  swept : AreSwept l.initial.self → AreSwept l.self;
}

use Rattle.lock_server.proofs.Common.{take, SetsAll, AreSwept, table_state}
use Rattle.lock_server.proofs.import.parts.Parts.put_locks.Given as goal

abbrev pub invariant-loop-i : goal.invariant-loop-i
invariant-loop-i l = record {
  sets : SetsAll (table_state l.initial.table) (take l.i l.self.files.items) (table_state l.table);
  swept : AreSwept l.initial.table → AreSwept l.table;
}

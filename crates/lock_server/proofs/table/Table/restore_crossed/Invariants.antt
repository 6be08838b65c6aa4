use Rattle.lock_server.proofs.Common.{take, CrossesEach, KeepsEntries, table_state}
use Rattle.lock_server.proofs.table.Table.restore_crossed.Given as goal

abbrev pub invariant-loop-owner : goal.invariant-loop-owner
invariant-loop-owner l = record {
  crosses : CrossesEach (table_state l.initial.self) (take l.owner-index l.owners) (table_state l.self);
  entries : KeepsEntries l.initial.self l.self;
}

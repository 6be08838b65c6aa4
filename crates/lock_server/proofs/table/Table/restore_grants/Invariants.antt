use Rattle.lock_server.proofs.Common.{take, QueuesEach, KeepsEntries, table_state}
use Rattle.lock_server.proofs.table.Table.restore_grants.Given as goal

abbrev pub invariant-loop-i : goal.invariant-loop-i
invariant-loop-i l = record {
  queues : QueuesEach (table_state l.initial.self) (take l.i l.tickets) (table_state l.self);
  entries : KeepsEntries l.initial.self l.self;
}

use Rattle.lock_server.proofs.Common.{◌∙◌, get_or, slice_get-get_or, table_state}
use Rattle.lock_server.proofs.RestoringLemmas.{queues_all, queues_next}
use Rattle.lock_server.proofs.table.Table.restore_grants.Goals as goal

pub returns-then-is_taken-clause-queues : goal.returns-then-is_taken-clause-queues
returns-then-is_taken-clause-queues c = record {
  next = get_or c.args.tickets.now c.loop-i.i 0;
  at = slice_get-get_or c.args.tickets.now c.loop-i.i 0 c.loop-i-test.true;
  queues = c.loop-i.invariant.queues;
  taken = c.is_taken.ensures.0 c.if-is_taken.true;
}

pub loop-i-preserved : goal.loop-i-preserved
loop-i-preserved c = record {
  queues = queues_next (table_state c.args.self.now) c.args.tickets.now c.loop-i.i (table_state c.loop-i.self) (table_state c.queue.new.self) c.loop-i-test.true
      c.loop-i.invariant.queues c.in_ok-queue.ensures.queues;
  entries = λ file. c.queue.ensures.entries file ∙ c.loop-i.invariant.entries file;
}

pub returns-clause-queues : goal.returns-clause-queues
returns-clause-queues c = queues_all (table_state c.args.self.now) c.args.tickets.now c.loop-i.i (table_state c.loop-i.self) c.loop-i-test.false c.loop-i.invariant.queues

use Rattle.lock_server.proofs.TableMoves.{indexed, tickets_known, waiters_known, waits_in}
use Rattle.lock_server.proofs.TakenLemmas.{idle_from_free, known_queued}
use Rattle.lock_server.proofs.table.Table.queue.Goals as goal

pub invariant_of-self : goal.invariant_of-self
invariant_of-self c =
    let table = c.args.self.now in record {
      indexed = indexed table.files c.queue.new.self table.waiters
          (known_queued c.queue.result (waits_in table.files) table.tickets c.queue.new.self c.args.ticket (tickets_known table.files table.tickets table.waiters table.indexed)
          (idle_from_free table c.args.ticket c.requires) c.queue.ensures.place c.queue.ensures.grants c.queue.ensures.err)
          (waiters_known table.files table.tickets table.waiters table.indexed);
    }

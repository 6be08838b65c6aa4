use Rattle.lock_server.proofs.TableMoves.{indexed, tickets_known, waiters_known}
use Rattle.lock_server.proofs.TakenLemmas.{known_fetched}
use Rattle.lock_server.proofs.table.Table.next_grant.Goals as goal

pub invariant_of-self : goal.invariant_of-self
invariant_of-self c =
    let table = c.args.self.now in record {
      indexed = indexed table.files c.fetch.new.self table.waiters
          (known_fetched _ table.tickets c.fetch.new.self c.fetch.result (tickets_known table.files table.tickets table.waiters table.indexed) c.fetch.ensures.some c.fetch.ensures.none)
          (waiters_known table.files table.tickets table.waiters table.indexed);
    }

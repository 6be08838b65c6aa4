use Rattle.lock_server.proofs.Common.{common_steps, arith, Some, Reserved}
use Rattle.lock_server.proofs.TicketLemmas.{owed-few, owed-inserted, SetsPlace-updates}
use Rattle.lock_server.proofs.tickets.Tickets.note.Goals as goal

pub invariant_of-self-2 : goal.invariant_of-self-2
invariant_of-self-2 c = grind (arith, common_steps, owed-inserted, owed-few)

pub returns-clause-ok : goal.returns-clause-ok
returns-clause-ok c =
    SetsPlace-updates c.args.self.now _ c.args.ticket (Some Reserved)
    c.in_ok-insert.ensures.updates

use Rattle.lock_server.proofs.Common.{common_steps, arith}
use Rattle.lock_server.proofs.TicketLemmas.{owed-few, owed-queued}
use Rattle.lock_server.proofs.tickets.Tickets.queue.Goals as goal

pub invariant_of-self-2 : goal.invariant_of-self-2
invariant_of-self-2 c = grind (arith, common_steps, owed-queued, owed-few)

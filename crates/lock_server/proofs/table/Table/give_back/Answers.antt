use Rattle.lock_server.proofs.Common.{arith, common_steps}
use Rattle.lock_server.proofs.TableMoves.{indexed, tickets_known, waiters_known}
use Rattle.lock_server.proofs.TakenLemmas.{idle_none, idle_reserved}
use Rattle.lock_server.proofs.TicketMoves.{tickets_noted}
use Rattle.lock_server.proofs.table.Table.give_back.Goals as goal

pub invariant_of-self : goal.invariant_of-self
invariant_of-self c = grind (arith, common_steps, indexed, tickets_noted, tickets_known, idle_reserved, idle_none, waiters_known)

use Rattle.lock_server.proofs.Common.{◌==◌, arith, eqb-true}
use Rattle.lock_server.proofs.AskingLemmas.{none_hits}
use Rattle.lock_server.proofs.asking.TicketedQueryPendingHull.may_hit.Goals as goal

pub returns : goal.returns
returns c waits within none =
    none_hits c.args.hull.now (λ wait. wait.ticket == c.args.self.now.0)
    (λ wait inside hit.
    (let is = eqb-true wait.ticket c.args.self.now.0 hit in
    c.meets.ensures none wait.ticket wait.ticket inside.ticket (omega (arith, is)) (omega (arith, is)))) waits within

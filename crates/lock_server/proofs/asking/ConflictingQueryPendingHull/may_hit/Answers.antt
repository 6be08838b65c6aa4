use Rattle.lock_server.proofs.Common.{subst, sym, Reach, are_conflicting, Reaches}
use Rattle.lock_server.proofs.AskingLemmas.{conflicts_there, none_hits}
use Rattle.lock_server.proofs.asking.ConflictingQueryPendingHull.may_hit.Goals as goal

pub returns : goal.returns
returns c waits within none =
    none_hits c.args.hull.now (λ wait. are_conflicting wait c.args.self.now.0)
    (λ wait inside hit. c.meets.ensures none wait inside (subst (λ (reach : Reach). Reaches reach wait) (sym c.of.ensures) (conflicts_there wait c.args.self.now.0 hit))) waits within

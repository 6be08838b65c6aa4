use Rattle.lock_server.proofs.WaiterLemmas.{PutsWaiter-updates, Sweeps-drops, nil_from}
use Rattle.lock_server.proofs.waiters.Waiters.sweep.Goals as goal

pub returns-then-not-contains : goal.returns-then-not-contains
returns-then-not-contains c =
    Sweeps-drops c.args.self.now _ c.args.owner (PutsWaiter-updates _ _ _ _ c.remove.ensures.updates)
    (nil_from _ (λ some. let yes = c.contains.ensures.1 some in let none = c.if-not-contains.true in cc))

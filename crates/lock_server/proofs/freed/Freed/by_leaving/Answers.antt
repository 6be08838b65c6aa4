use Rattle.lock_server.proofs.Common.{sym, subst, Policy, Nobody}
use Rattle.lock_server.specs.Freed.{LeavingFrees}
use Rattle.lock_server.proofs.FreedLemmas.{leaving_frees_nobody, leaving_frees_there}
use Rattle.lock_server.proofs.freed.Freed.by_leaving.Goals as goal

pub returns-in-Held : goal.returns-in-Held
returns-in-Held c = subst (λ (policy : Policy). LeavingFrees policy c.args.wait.now Nobody) (sym c.in-Held.is) (leaving_frees_nobody c.args.wait.now)

pub returns-in-Queue : goal.returns-in-Queue
returns-in-Queue c = rw c.of.ensures (leaving_frees_there c.args.policy c.args.wait.now)

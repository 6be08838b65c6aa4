use Rattle.wait_core.proofs.Common.{◌↔◌, List, Any, subst, sym, IsTrue, Policy, Wait, WaitsConflict, waits_of, policy_of}
use Rattle.wait_core.specs.Blocking.{IsQueued}
use Rattle.wait_core.proofs.FileLemmas.{conflicts_on}
use Rattle.wait_core.proofs.waits.Waits.queued.Goals as goal

pub returns-in-Queue : goal.returns-in-Queue
unfolding waits_of policy_of
returns-in-Queue c =
    let wait = c.args.wait.now in
    let waits = c.args.self.now.waits.items in
    let there = subst (λ (ws : List Wait). IsTrue c.conflicts_with_any.result ↔ Any (λ v. WaitsConflict v wait) ws) c.on.ensures c.conflicts_with_any.ensures in
    let same = conflicts_on waits wait in
    subst (λ (policy : Policy). IsTrue c.conflicts_with_any.result ↔ IsQueued policy waits wait) (sym c.in-Queue.is)
    (λ yes. same.0 (there.0 yes), λ any. there.1 (same.1 any))

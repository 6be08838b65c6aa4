use Rattle.wait_core.proofs.Common.{◌↔◌, List, All, Any, subst, sym, IsTrue, Wait, IsTraditional, IsConflictOf, is_member, waits_of, policy_of, IsWellFormed}
use Rattle.wait_core.proofs.FileLemmas.{conflicts_of_on, well_formed_on}
use Rattle.wait_core.proofs.waits.Waits.queued_behind.Goals as goal

pub blocking_if_traditional-requires : goal.blocking_if_traditional-requires
unfolding waits_of
blocking_if_traditional-requires c =
    let self = c.args.self.now in
    subst (All (IsWellFormed 64)) (sym c.on.ensures) (well_formed_on self.processes self.waits.items c.args.wait.now.file self.few self.well_formed)

pub returns-in-Queue : goal.returns-in-Queue
unfolding waits_of policy_of
returns-in-Queue c queue q =
    let wait = c.args.wait.now in
    let result = c.blocking_if_traditional.result in
    let there = subst (λ (ws : List Wait). IsTrue (is_member result q) ↔ IsTraditional wait × Any (IsConflictOf q wait) ws) c.on.ensures (c.blocking_if_traditional.ensures q) in
    let same = conflicts_of_on c.args.self.now.waits.items q wait in
    (λ yes. (let h = there.0 yes in (h.0, same.0 h.1)), λ h. there.1 (h.0, same.1 h.1))

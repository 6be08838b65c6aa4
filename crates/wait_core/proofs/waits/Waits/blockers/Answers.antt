use Rattle.wait_core.proofs.Common.{◌↔◌, ◌∙◌, inl, inr, List, All, Any, subst, sym, IsTrue, or_left, or_right, Policy, Wait, IsBlockedByProcess, locks_of, IsConflictOf, is_member, waits_of, policy_of, IsWellFormed}
use Rattle.wait_core.proofs.FileLemmas.{conflicts_of_on, well_formed_on}
use Rattle.wait_core.proofs.ProcessLemmas.{or_cases}
use Rattle.wait_core.proofs.waits.Waits.blockers.Goals as goal

pub blocking_by_wait-requires : goal.blocking_by_wait-requires
unfolding waits_of
blocking_by_wait-requires c =
    let self = c.args.self.now in
    subst (All (IsWellFormed 64)) (sym c.on.ensures) (well_formed_on self.processes self.waits.items c.args.wait.now.file self.few self.well_formed)

pub returns-in-Queue : goal.returns-in-Queue
unfolding waits_of policy_of
returns-in-Queue c q one few =
    let wait = c.args.wait.now in
    let waits = c.args.self.now.waits.items in
    let by_lock = c.blocking_by_lock-by_lock.ensures q one few in
    let locked = c.blocking_by_lock-by_lock.result in
    let by_wait = c.blocking_by_wait.result in
    let there = subst (λ (ws : List Wait). IsTrue (is_member by_wait q) ↔ Any (IsConflictOf q wait) ws) c.on.ensures (c.blocking_by_wait.ensures q) in
    let same = conflicts_of_on waits q wait in
    subst (λ (policy : Policy). IsTrue (is_member c.union.result q) ↔ IsBlockedByProcess policy (locks_of c.args.books.now) waits wait q) (sym c.in-Queue.is) (
      λ has. elim (or_cases (is_member locked q) (is_member by_wait q) (sym (c.union.ensures q) ∙ has)) [
        | inl lock ↦ inl (by_lock.0 lock)
        | inr behind ↦ inr (same.0 (there.0 behind))
      ],
      λ blocked. c.union.ensures q ∙ elim blocked [
        | inl lock ↦ or_left (is_member locked q) (is_member by_wait q) (by_lock.1 lock)
        | inr behind ↦ or_right (is_member locked q) (is_member by_wait q) (there.1 (same.1 behind))
      ],
    )

use Rattle.lock_manager.proofs.Common.{[], sym, subst, refl, AllBlocked, locks_of, waits_of, machine_locks, machine_rules, machine_waits}
use Rattle.lock_manager.proofs.kept.NextStateLemmas.{with_tables}
use Rattle.lock_manager.proofs.calls.SettleLemmas.{kept_at_rest}
use Rattle.lock_manager.proofs.machine.Machine.rest.Goals as goal

pub invariant_of-self-clause-kept : goal.invariant_of-self-clause-kept
unfolding machine_locks machine_rules machine_waits
invariant_of-self-clause-kept c =
    let machine = c.args.self.now in
    let locks = locks_of machine.books.items in
    let now = c.forget_changes.ensures in
    kept_at_rest machine c.forget_changes.new.self now.waits (now.told locks)
    (now.blocked locks (subst (λ policy. AllBlocked policy locks [] (waits_of machine.waits)) (sym machine.policy) c.requires))

pub returns-clause-shows : goal.returns-clause-shows
returns-clause-shows c S h = with_tables c.args.self.now _ S S.descriptors refl refl c.forget_changes.ensures.waits h h.descriptors

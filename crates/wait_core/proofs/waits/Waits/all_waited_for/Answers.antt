use Rattle.wait_core.proofs.Common.{◌≤◌, ◌∙◌, inl, inr, subst, arith, or_left, or_right, Policy, Held, Queue, WaitsFor, is_member, waits_of, policy_of, has_pair}
use Rattle.wait_core.proofs.QueueLemmas.{queue_known, queue_cases}
use Rattle.wait_core.proofs.ReachLemmas.{waiting_known}
use Rattle.wait_core.proofs.waits.Waits.all_waited_for.Goals as goal

pub returns-in-Held : goal.returns-in-Held
unfolding waits_of policy_of has_pair
returns-in-Held c p q one few locks told for =
    let self = c.args.self.now in
    let by_lock = subst (λ (policy : Policy). WaitsFor policy locks self.waits.items p q) c.in-Held.is for in
    let known = waiting_known Held locks self.waits.items self.processes p q self.well_formed by_lock in
    let p_few : p ≤ 64 = (let most : self.processes ≤ 64 = self.few in let there = known.1 in omega (arith, there, most)) in
    c.all_told-by_lock.ensures p q ((told.pairs p q p_few one few).1 by_lock)

pub returns-in-Queue : goal.returns-in-Queue
unfolding waits_of policy_of has_pair
returns-in-Queue c p q one few locks told for =
    let self = c.args.self.now in
    let in_queue = subst (λ (policy : Policy). WaitsFor policy locks self.waits.items p q) c.in-Queue.is for in
    let known = waiting_known Queue locks self.waits.items self.processes p q self.well_formed in_queue in
    let p_few : p ≤ 64 = (let most : self.processes ≤ 64 = self.few in let there = known.1 in omega (arith, there, most)) in
    let queue = queue_known self.ahead self.waits.items (self.ahead_told c.in-Queue.is) in
    c.union.ensures q ∙ elim (queue_cases locks self.waits.items p q in_queue) [
      | inl by_lock ↦ or_left (is_member c.all_told-by_lock.result q) (is_member c.all_told.result q)
          (c.all_told-by_lock.ensures p q ((told.pairs p q p_few one few).1 by_lock))
      | inr behind ↦ or_right (is_member c.all_told-by_lock.result q) (is_member c.all_told.result q)
          (c.all_told.ensures p q ((queue.stands p q p_few one few).1 behind))
    ]

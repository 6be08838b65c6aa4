use Rattle.wait_core.proofs.Common.{◌≡◌, ◌∙◌, ◌↔◌, Bool, [], ap, sym, subst, ◌||◌, IsTrue, Policy, Queue, WaitsFor, pair_in, is_member, waits_of, policy_of, has_pair}
use Rattle.wait_core.specs.Pairs.{StandsBehind}
use Rattle.wait_core.proofs.QueueLemmas.{queue_known, told_in_queue}
use Rattle.wait_core.proofs.waits.Waits.waited_for.Goals as goal

pub returns-in-Queue : goal.returns-in-Queue
unfolding waits_of policy_of has_pair
returns-in-Queue c q one few locks told =
    let self = c.args.self.now in
    let p = c.args.p in
    let behind = c.row.result in
    let queue = queue_known self.ahead self.waits.items (self.ahead_told c.in-Queue.is) in
    let stands : IsTrue (is_member behind q) ↔ StandsBehind [] self.waits.items p q =
    subst (λ (b : Bool). IsTrue b ↔ StandsBehind [] self.waits.items p q) (sym (c.row.ensures q)) (queue.stands p q c.requires one few) in
    let both = told_in_queue self locks p q (is_member behind q) c.requires one few stands told in
    let is : is_member c.union.result q ≡ (pair_in self.pairs p q || is_member behind q) =
    c.union.ensures q ∙ ap (λ (b : Bool). b || is_member behind q) (c.row-row.ensures q) in
    subst (λ (policy : Policy). IsTrue (is_member c.union.result q) ↔ WaitsFor policy locks self.waits.items p q) (sym c.in-Queue.is)
    (subst (λ (b : Bool). IsTrue b ↔ WaitsFor Queue locks self.waits.items p q) (sym is) both)

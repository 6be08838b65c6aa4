use Rattle.std.proofs.lemmas.Result.{IfOk-weaker}
use Rattle.lock_server.proofs.Common.{[], ◌∙◌, ap, Contains, AddsGoingOn, AddsOwners, IsBlockedByOwner, looked_modes, table_state, LookedAt}
use Rattle.lock_server.proofs.FollowLemmas.{told_none}
use Rattle.lock_server.proofs.ReachedLemmas.{closes_cycle}
use Rattle.lock_server.proofs.table.Table.would_cycle.Goals as goal

pub leads_to-requires : goal.leads_to-requires
leads_to-requires c =
    told_none c.args.self.now c.args.wanted.now.owner c.add_going_on.new.reached
    (λ file byte. ap (λ (l : LookedAt). looked_modes l file byte) c.in_ok-add_going_on.ensures.looked_at ∙ c.new-reached.ensures.looked_at file byte)

pub returns : goal.returns
returns c =
    let table = c.args.self.now in
    let wanted = c.args.wanted.now in
    let blockers = c.add_blockers.new.owners.items in
    let reached = c.add_going_on.new.reached.owners.items in
    let adds : AddsOwners [] blockers (IsBlockedByOwner c.args.policy ((table_state table).files c.args.file) ((table_state table).files c.args.file).waits wanted) =
    rw c.new-blockers.ensures.items at c.in_ok-add_blockers.ensures in
    let going : AddsGoingOn table.waiters wanted.owner (Contains blockers) [] reached = rw (c.deref.ensures.value, c.new-reached.ensures.owners) at c.in_ok-add_going_on.ensures.adds in
    IfOk-weaker c.leads_to.result _ _ (λ answer says. closes_cycle c.args.policy table c.args.file wanted blockers reached answer adds going says) c.leads_to.ensures

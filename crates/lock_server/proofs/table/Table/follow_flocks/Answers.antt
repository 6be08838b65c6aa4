use Rattle.lock_server.proofs.Common.{on_ok_weaker, ℕ, IsFlockHolder, table_state}
use Rattle.lock_server.proofs.FollowLemmas.{gathered_followed}
use Rattle.lock_server.proofs.table.Table.follow_flocks.Goals as goal

pub returns : goal.returns
returns c =
    let table = c.args.self.now in
    let next = c.add_flock_holders.new.owners.items in
    let P : ℕ → Type 0 = IsFlockHolder ((table_state table).files c.args.file) c.args.wait.now.owner c.args.wait.now.mode in
    on_ok_weaker c.add_going_on.result
    (λ those.
    gathered_followed table c.args.target P c.new-next.result.items next c.args.reached.now c.add_going_on.new.reached c.requires c.new-next.ensures.items
    c.in_ok-add_flock_holders.ensures (rw c.deref.ensures.value at those) c.add_going_on.ensures.looked_at)
    c.add_going_on.ensures.adds

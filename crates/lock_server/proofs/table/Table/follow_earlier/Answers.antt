use Rattle.lock_server.proofs.Common.{on_ok_weaker, ℕ, ◌≡◌, Any, take, WaitsConflict, as_wait, table_state}
use Rattle.lock_server.proofs.FollowLemmas.{gathered_followed}
use Rattle.lock_server.proofs.table.Table.follow_earlier.Goals as goal

pub returns : goal.returns
returns c =
    let table = c.args.self.now in
    let next = c.add_conflicting.new.owners.items in
    let P : ℕ → Type 0 = λ other. Any (λ v. (v.owner ≡ other) × WaitsConflict (as_wait v) (as_wait c.args.wait.now)) (take c.args.before ((table_state table).files c.args.file).waits) in
    on_ok_weaker c.add_going_on.result
    (λ those.
    gathered_followed table c.args.target P c.new-next.result.items next c.args.reached.now c.add_going_on.new.reached c.requires c.new-next.ensures.items
    c.in_ok-add_conflicting.ensures (rw c.deref.ensures.value at those) c.add_going_on.ensures.looked_at)
    c.add_going_on.ensures.adds

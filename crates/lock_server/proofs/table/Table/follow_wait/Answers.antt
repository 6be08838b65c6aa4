use Rattle.lock_server.proofs.Common.{◌≡◌, Any, take, on_ok_weaker, WaitsConflict, BlocksIn, IsBlockedByOwner, as_wait, table_state}
use Rattle.lock_server.proofs.FollowLemmas.{by_held, by_queue, followed_as, followed_both}
use Rattle.lock_server.proofs.table.Table.follow_wait.Goals as goal

pub returns-in-Held : goal.returns-in-Held
returns-in-Held c =
    let F = (table_state c.args.self.now).files c.args.file in
    let wait = c.args.wait.now in
    followed_as c.args.self.now c.args.target (BlocksIn wait.family F wait) (IsBlockedByOwner c.args.policy F (take c.args.before F.waits) wait)
    c.args.reached.now c.follow_holders.new.reached (by_held c.args.policy F (take c.args.before F.waits) wait c.in-Held.is) c.in_ok-follow_holders.ensures

pub follow_earlier-requires : goal.follow_earlier-requires
follow_earlier-requires c = c.in_ok-follow_holders.ensures.told

pub returns-in-Queue : goal.returns-in-Queue
returns-in-Queue c =
    let F = (table_state c.args.self.now).files c.args.file in
    let wait = c.args.wait.now in
    on_ok_weaker c.follow_earlier.result
    (λ more.
    followed_both c.args.self.now c.args.target (BlocksIn wait.family F wait)
    (λ other. Any (λ v. (v.owner ≡ other) × WaitsConflict (as_wait v) (as_wait wait)) (take c.args.before F.waits))
    (IsBlockedByOwner c.args.policy F (take c.args.before F.waits) wait) c.args.reached.now c.follow_holders.new.reached c.follow_earlier.new.reached
    c.in_ok-follow_holders.ensures more (by_queue c.args.policy F (take c.args.before F.waits) wait c.in-Queue.is))
    c.follow_earlier.ensures

use Rattle.lock_server.proofs.Common.{on_ok_weaker, BlocksOn, IsFlockHolder, BlocksIn, table_state}
use Rattle.lock_server.proofs.BlockerLemmas.{by_bytes, by_flock}
use Rattle.lock_server.proofs.FollowLemmas.{followed_as}
use Rattle.lock_server.proofs.table.Table.follow_holders.Goals as goal

pub returns-in-Bytes : goal.returns-in-Bytes
returns-in-Bytes c =
    let F = (table_state c.args.self.now).files c.args.file in
    let wait = c.args.wait.now in
    on_ok_weaker c.follow_bytes.result
    (followed_as c.args.self.now c.args.target (BlocksOn F wait.owner wait.span wait.mode) (BlocksIn wait.family F wait) c.args.reached.now
    c.follow_bytes.new.reached (by_bytes F wait c.in-Bytes.is)) c.follow_bytes.ensures

pub returns-in-Whole : goal.returns-in-Whole
returns-in-Whole c =
    let F = (table_state c.args.self.now).files c.args.file in
    let wait = c.args.wait.now in
    on_ok_weaker c.follow_flocks.result
    (followed_as c.args.self.now c.args.target (IsFlockHolder F wait.owner wait.mode) (BlocksIn wait.family F wait) c.args.reached.now
    c.follow_flocks.new.reached (by_flock F wait c.in-Whole.is)) c.follow_flocks.ensures

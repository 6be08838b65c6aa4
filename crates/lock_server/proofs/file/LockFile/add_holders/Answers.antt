use Rattle.lock_server.proofs.Common.{on_ok_weaker, BlocksOn, IsFlockHolder, BlocksIn, file_state}
use Rattle.lock_server.proofs.BlockerLemmas.{by_bytes, by_flock}
use Rattle.lock_server.proofs.GatheredOwnerLemmas.{AddsOwners-as}
use Rattle.lock_server.proofs.file.LockFile.add_holders.Goals as goal

pub returns-in-Bytes : goal.returns-in-Bytes
returns-in-Bytes c =
    let F = file_state c.args.self.now in
    let wait = c.args.wait.now in
    on_ok_weaker c.add_byte_holders.result
    (AddsOwners-as c.args.owners.now.items c.add_byte_holders.new.owners.items (BlocksOn F wait.owner wait.span wait.mode) (BlocksIn wait.family F wait)
    (by_bytes F wait c.in-Bytes.is)) c.add_byte_holders.ensures

pub returns-in-Whole : goal.returns-in-Whole
returns-in-Whole c =
    let F = file_state c.args.self.now in
    let wait = c.args.wait.now in
    on_ok_weaker c.add_flock_holders.result
    (AddsOwners-as c.args.owners.now.items c.add_flock_holders.new.owners.items (IsFlockHolder F wait.owner wait.mode) (BlocksIn wait.family F wait)
    (by_flock F wait c.in-Whole.is)) c.add_flock_holders.ensures

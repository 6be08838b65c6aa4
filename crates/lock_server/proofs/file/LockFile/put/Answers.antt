use Rattle.lock_server.proofs.Common.{file_state}
use Rattle.lock_server.proofs.ExportLemmas.{entry_put}
use Rattle.lock_server.proofs.file.LockFile.put.Goals as goal

pub returns : goal.returns
returns c =
    entry_put (file_state c.args.self.now) c.args.number _ _ _ _ _ _ _ _ _ _ c.put-at.ensures c.put_locks-at.ensures c.put_flocks-at.ensures c.put_waits.ensures

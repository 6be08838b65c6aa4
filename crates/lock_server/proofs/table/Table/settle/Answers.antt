use Rattle.lock_server.proofs.Common.{[], table_state}
use Rattle.lock_server.proofs.FreedLemmas.{any_but}
use Rattle.lock_server.proofs.table.Table.settle.Goals as goal

pub settle_among-requires : goal.settle_among-requires
settle_among-requires c =
    let F = (table_state c.args.self.now).files c.args.file in
    any_but c.args.policy F [] F.waits

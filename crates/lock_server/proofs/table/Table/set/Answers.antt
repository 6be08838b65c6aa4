use Rattle.lock_server.proofs.Common.{table_state}
use Rattle.lock_server.proofs.FirstLemmas.{set_and_crossed}
use Rattle.lock_server.proofs.table.Table.set.Goals as goal

pub returns-clause-ok : goal.returns-clause-ok
returns-clause-ok c =
    set_and_crossed (table_state c.args.self.now) (table_state c.set_uncrossed.new.self) (table_state c.cross_by.new.self) c.args.file c.args.owner c.args.span c.args.mode
    c.in_ok-set_uncrossed.ensures.ok c.cross_by.ensures.crosses

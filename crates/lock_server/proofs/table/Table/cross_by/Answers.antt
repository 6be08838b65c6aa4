use Rattle.lock_server.proofs.Common.{entry_of, table_state}
use Rattle.lock_server.proofs.EntryMoves.{crossed_indexed, crosses_by}
use Rattle.lock_server.proofs.table.Table.cross_by.Goals as goal

pub invariant_of-self : goal.invariant_of-self
invariant_of-self c =
    let table = c.args.self.now in record {
      indexed = crossed_indexed table.files table.tickets table.waiters c.cross_by.new.self c.args.owner c.args.mode table.indexed c.cross_by.ensures;
    }

pub returns-clause-crosses : goal.returns-clause-crosses
unfolding table_state entry_of
returns-clause-crosses c =
    let table = c.args.self.now in
    crosses_by table.files table.tickets table.waiters c.cross_by.new.self c.args.owner c.args.mode table.indexed c.cross_by.ensures

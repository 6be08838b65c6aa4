use Rattle.lock_server.proofs.Common.{sym, None, entry_of, table_state}
use Rattle.lock_server.proofs.ClientLemmas.{forgets_by}
use Rattle.lock_server.proofs.EntryMoves.{put_indexed}
use Rattle.lock_server.proofs.table.Table.drop_entry.Goals as goal

pub invariant_of-self : goal.invariant_of-self
unfolding table_state entry_of
invariant_of-self c =
    let table = c.args.self.now in record {
      indexed = put_indexed table.files c.remove.new.self table.tickets table.waiters c.args.file None c.remove.ensures
          (sym c.requires) table.indexed;
    }

pub returns-clause-forgets : goal.returns-clause-forgets
unfolding table_state entry_of
returns-clause-forgets c =
    let table = c.args.self.now in
    forgets_by table.files c.remove.new.self table.tickets table.waiters c.args.file table.indexed c.remove.ensures
    (put_indexed table.files c.remove.new.self table.tickets table.waiters c.args.file None c.remove.ensures (sym c.requires) table.indexed)

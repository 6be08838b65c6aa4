use Rattle.lock_server.proofs.Common.{entry_of, table_state}
use Rattle.lock_server.proofs.IndexLemmas.{file_written}
use Rattle.lock_server.proofs.EntryMoves.{joined_changes, joined_indexed, joins_by}
use Rattle.lock_server.proofs.table.Table.join.Goals as goal

pub invariant_of-self : goal.invariant_of-self
invariant_of-self c =
    let table = c.args.self.now in
    let after = c.join.new.self in
    let written = file_written table.files (c.get_mut.follows.lender after) c.args.file _ c.unwrap-locks.result after c.get_mut.ensures.value c.unwrap-locks.ensures (c.get_mut.follows.holds after) in record {
      indexed = joined_indexed table.files _ table.tickets table.waiters c.args.file c.unwrap-locks.result.now after written.0 written.1 table.indexed
          c.wait.new.self c.begin_for.new.self c.args.wanted c.wait.ensures.grants c.join.ensures c.requires.room.ticket c.wait.ensures.place c.begin_for.ensures;
    }

pub returns-clause-suspends : goal.returns-clause-suspends
unfolding table_state entry_of
returns-clause-suspends c =
    let table = c.args.self.now in
    let after = c.join.new.self in
    let written = file_written table.files (c.get_mut.follows.lender after) c.args.file _ c.unwrap-locks.result after c.get_mut.ensures.value c.unwrap-locks.ensures (c.get_mut.follows.holds after) in record {
      joins = joins_by table.files _ table.tickets table.waiters c.args.file c.unwrap-locks.result.now after written.0 written.1 table.indexed
          c.wait.new.self c.begin_for.new.self c.args.wanted c.wait.ensures.grants c.join.ensures c.requires.room.ticket c.wait.ensures.place c.begin_for.ensures;
      changes = joined_changes table.files _ table.tickets table.waiters c.args.file c.unwrap-locks.result.now after written.0 written.1 table.indexed
          c.wait.new.self c.begin_for.new.self c.args.wanted c.wait.ensures.grants c.join.ensures c.requires.room.ticket c.wait.ensures.place c.begin_for.ensures;
    }

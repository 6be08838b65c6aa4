use Rattle.lock_server.proofs.Common.{arith, common_steps, whole_file, Whole, entry_of, table_state}
use Rattle.lock_server.proofs.IndexLemmas.{file_written}
use Rattle.lock_server.proofs.EntryMoves.{given_indexed, keeps_room_on, sets_by}
use Rattle.lock_server.proofs.table.Table.set_flock.Goals as goal

pub invariant_of-self : goal.invariant_of-self
invariant_of-self c =
    let table = c.args.self.now in
    let after = c.set_flock.new.self in
    let written = file_written table.files (c.get_mut.follows.lender after) c.args.file _ c.unwrap-locks.result after c.get_mut.ensures.value c.unwrap-locks.ensures (c.get_mut.follows.holds after) in record {
      indexed = given_indexed table.files _ table.tickets table.waiters c.args.file c.unwrap-locks.result.now after written.0 written.1 table.indexed c.set_flock.ensures.waits
          c.cross_by.new.self c.args.owner c.args.mode c.cross_by.ensures;
    }

pub returns-clause-sets : goal.returns-clause-sets
unfolding table_state entry_of
returns-clause-sets c =
    let table = c.args.self.now in
    let after = c.set_flock.new.self in
    let written = file_written table.files (c.get_mut.follows.lender after) c.args.file _ c.unwrap-locks.result after c.get_mut.ensures.value c.unwrap-locks.ensures (c.get_mut.follows.holds after) in
    sets_by table.files _ table.tickets table.waiters c.args.file c.unwrap-locks.result.now after written.0 written.1 table.indexed c.set_flock.ensures.waits
    c.cross_by.new.self c.args.owner c.args.mode c.cross_by.ensures Whole whole_file c.set_flock.ensures.sets

pub returns-clause-room : goal.returns-clause-room
unfolding entry_of
returns-clause-room c = grind (arith, common_steps, file_written, keeps_room_on)

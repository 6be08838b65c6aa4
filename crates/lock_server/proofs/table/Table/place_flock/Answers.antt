use Rattle.lock_server.proofs.Common.{entry_of}
use Rattle.lock_server.proofs.IndexLemmas.{file_written}
use Rattle.lock_server.proofs.EntryMoves.{kept_indexed}
use Rattle.lock_server.proofs.table.Table.place_flock.Goals as goal

pub invariant_of-self : goal.invariant_of-self
invariant_of-self c =
    let table = c.open.new.self in
    let after = c.place_flock.new.self in
    let written = file_written table.files (c.get_mut.follows.lender after) c.args.file _ c.unwrap-locks.result after c.get_mut.ensures.value c.unwrap-locks.ensures (c.get_mut.follows.holds after) in record {
      indexed = kept_indexed table.files _ table.tickets table.waiters c.args.file c.unwrap-locks.result.now after written.0 written.1 table.indexed c.place_flock.ensures.same.waits;
    }

pub returns-in-Ok-clause-ok : goal.returns-in-Ok-clause-ok
unfolding entry_of
returns-in-Ok-clause-ok c =
    let table = c.open.new.self in
    let after = c.place_flock.new.self in
    let written = file_written table.files (c.get_mut.follows.lender after) c.args.file _ c.unwrap-locks.result after c.get_mut.ensures.value c.unwrap-locks.ensures (c.get_mut.follows.holds after) in
    record { entry = after; is = written.1.here; place = c.in-Ok.ensures.ok }

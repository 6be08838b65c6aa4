use Rattle.lock_server.proofs.Common.{arith, common_steps, entry_of, table_state}
use Rattle.lock_server.proofs.IndexLemmas.{file_written}
use Rattle.lock_server.proofs.EntryMoves.{kept_indexed}
use Rattle.lock_server.proofs.TableMoves.{at_entries}
use Rattle.lock_server.proofs.table.Table.give_back_place.Goals as goal

pub invariant_of-self : goal.invariant_of-self
invariant_of-self c =
    let table = c.args.self.now in
    let after = c.give_back_place.new.self in
    let written = file_written table.files (c.get_mut.follows.lender after) c.args.file _ c.in-Some.locks after c.get_mut.ensures.value c.in-Some.is (c.get_mut.follows.holds after) in record {
      indexed = kept_indexed table.files _ table.tickets table.waiters c.args.file c.in-Some.locks.now after written.0 written.1 table.indexed c.give_back_place.ensures.same.waits;
    }

pub returns-clause-same : goal.returns-clause-same
unfolding table_state entry_of
returns-clause-same c = grind (arith, common_steps, file_written, at_entries)

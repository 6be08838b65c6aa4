use Rattle.lock_server.proofs.Common.{entry_of, table_state}
use Rattle.lock_server.proofs.IndexLemmas.{file_written}
use Rattle.lock_server.proofs.EntryMoves.{kept_indexed, leaves_by, left_changes, left_indexed}
use Rattle.lock_server.proofs.table.Table.dismiss_one.Goals as goal

pub invariant_of-self-in_default-dismiss : goal.invariant_of-self-in_default-dismiss
invariant_of-self-in_default-dismiss c =
    let table = c.args.self.now in
    let after = c.dismiss.new.self in
    let written = file_written table.files (c.get_mut.follows.lender after) c.args.file _ c.in-Some.locks after c.get_mut.ensures.value c.in-Some.is (c.get_mut.follows.holds after) in record {
      indexed = kept_indexed table.files _ table.tickets table.waiters c.args.file c.in-Some.locks.now after written.0 written.1 table.indexed c.in_default-dismiss.ensures.none.1.waits;
    }

pub invariant_of-self-2 : goal.invariant_of-self-2
invariant_of-self-2 c =
    let table = c.args.self.now in
    let after = c.dismiss.new.self in
    let left = c.in-Some-dismiss.ensures.some in
    let written = file_written table.files (c.get_mut.follows.lender after) c.args.file _ c.in-Some.locks after c.get_mut.ensures.value c.in-Some.is (c.get_mut.follows.holds after) in record {
      indexed = left_indexed table.files (c.get_mut.follows.lender after) table.tickets table.waiters c.args.file c.in-Some.locks.now after written.0 written.1 table.indexed
          c.forget.new.self c.end_for.new.self c.in-Some-dismiss.wait c.forget.ensures.grants left.1 left.2 left.3 c.forget.ensures.place c.end_for.ensures;
    }

pub returns-clause-one : goal.returns-clause-one
unfolding table_state entry_of
returns-clause-one c = λ done.
    let table = c.args.self.now in
    let after = c.dismiss.new.self in
    let left = c.in-Some-dismiss.ensures.some in
    let written = file_written table.files (c.get_mut.follows.lender after) c.args.file _ c.in-Some.locks after c.get_mut.ensures.value c.in-Some.is (c.get_mut.follows.holds after) in record {
      before = left.1;
      wait = c.in-Some-dismiss.wait;
      after = left.2;
      of_them = left.0;
      leaves = leaves_by table.files (c.get_mut.follows.lender after) table.tickets table.waiters c.args.file c.in-Some.locks.now after written.0 written.1 table.indexed
          c.forget.new.self c.end_for.new.self c.in-Some-dismiss.wait c.forget.ensures.grants left.1 left.2 left.3 c.forget.ensures.place c.end_for.ensures;
      changes = left_changes table.files (c.get_mut.follows.lender after) table.tickets table.waiters c.args.file c.in-Some.locks.now after written.0 written.1 table.indexed
          c.forget.new.self c.end_for.new.self c.in-Some-dismiss.wait c.forget.ensures.grants left.1 left.2 left.3 c.forget.ensures.place c.end_for.ensures;
    }

use Rattle.lock_server.proofs.Common.{entry_of}
use Rattle.lock_server.proofs.IndexLemmas.{file_written}
use Rattle.lock_server.proofs.TakenLemmas.{idle_from_free}
use Rattle.lock_server.proofs.EntryMoves.{kept_indexed, noted_indexed, same_indexed}
use Rattle.lock_server.proofs.table.Table.reserve_all.Goals as goal

pub invariant_of-self : goal.invariant_of-self
invariant_of-self c =
    let table = c.args.self.now in
    let after = c.reserve.new.self in
    let written = file_written table.files (c.get_mut.follows.lender after) c.args.file _ c.unwrap-locks.result after c.get_mut.ensures.value c.unwrap-locks.ensures (c.get_mut.follows.holds after) in record {
      indexed = kept_indexed table.files _ table.tickets table.waiters c.args.file c.unwrap-locks.result.now after written.0 written.1 table.indexed c.reserve.ensures.same.waits;
    }

pub invariant_of-self-in-Break-branch-2 : goal.invariant_of-self-in-Break-branch-2
invariant_of-self-in-Break-branch-2 c =
    let table = c.args.self.now in
    let after = c.reserve.new.self in
    let written = file_written table.files (c.get_mut.follows.lender after) c.args.file _ c.unwrap-locks.result after c.get_mut.ensures.value c.unwrap-locks.ensures (c.get_mut.follows.holds after) in
    let kept = kept_indexed table.files (c.get_mut.follows.lender after) table.tickets table.waiters c.args.file c.unwrap-locks.result.now after written.0 written.1 table.indexed c.reserve.ensures.same.waits in record {
      indexed = same_indexed _ table.tickets table.waiters c.reserve_for.new.self c.reserve_for.ensures.same kept;
    }

pub invariant_of-self-2 : goal.invariant_of-self-2
invariant_of-self-2 c =
    let table = c.args.self.now in
    let after = c.reserve.new.self in
    let written = file_written table.files (c.get_mut.follows.lender after) c.args.file _ c.unwrap-locks.result after c.get_mut.ensures.value c.unwrap-locks.ensures (c.get_mut.follows.holds after) in
    let kept = kept_indexed table.files (c.get_mut.follows.lender after) table.tickets table.waiters c.args.file c.unwrap-locks.result.now after written.0 written.1 table.indexed c.reserve.ensures.same.waits in record {
      indexed = noted_indexed c.note.result _ table.tickets c.note.new.self c.reserve_for.new.self c.args.wanted.now.ticket
          (same_indexed _ table.tickets table.waiters c.reserve_for.new.self c.reserve_for.ensures.same kept)
          (idle_from_free table c.args.wanted.now.ticket c.requires.free) c.note.ensures.ok c.note.ensures.grants c.note.ensures.err;
    }

pub returns-clause-ok : goal.returns-clause-ok
unfolding entry_of
returns-clause-ok c =
    let table = c.args.self.now in
    let after = c.reserve.new.self in
    let written = file_written table.files (c.get_mut.follows.lender after) c.args.file _ c.unwrap-locks.result after c.get_mut.ensures.value c.unwrap-locks.ensures (c.get_mut.follows.holds after) in record {
      entry = after;
      is = written.1.here;
      room = c.in_ok-reserve.ensures.ok;
      ticket = c.in_ok-note.ensures.ok.here;
      detect = c.in_ok-reserve_for.ensures.ok;
    }

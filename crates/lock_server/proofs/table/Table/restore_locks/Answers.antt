use Rattle.lock_server.proofs.Common.{get_or, subst, sym, slice_get-get_or, Read, Lock, Pending, lock_request, IsHeldBack, table_state}
use Rattle.lock_server.proofs.RestoringLemmas.{sets_all, sets_next, swept_set}
use Rattle.lock_server.proofs.SweptLemmas.{all_swept_but}
use Rattle.lock_server.proofs.table.Table.restore_locks.Goals as goal

pub returns-then-holds_back-clause-sets : goal.returns-then-holds_back-clause-sets
returns-then-holds_back-clause-sets c =
    let d : Lock = record { owner = 0; mode = Read; span = record { first = 0; last = 0 } } in
    let lock = get_or c.args.locks.now c.loop-i.i d in
    record {
      next = lock;
      at = slice_get-get_or c.args.locks.now c.loop-i.i d c.loop-i-test.true;
      sets = c.loop-i.invariant.sets;
      held_back = subst (λ (w : Pending). IsHeldBack ((table_state c.loop-i.self).files c.args.file) w) c.byte_request-wanted.ensures (c.holds_back.ensures.0 c.if-holds_back.true);
    }

pub returns-in_err-set-clause-swept : goal.returns-in_err-set-clause-swept
returns-in_err-set-clause-swept c = λ swept.
    let before = c.loop-i.invariant.swept swept in
    all_swept_but c.loop-i.self c.set.new.self c.args.file c.set.ensures.others (c.in_err-set.ensures.swept (before c.args.file)) before

pub loop-i-preserved : goal.loop-i-preserved
loop-i-preserved c =
    let d : Lock = record { owner = 0; mode = Read; span = record { first = 0; last = 0 } } in
    let lock = get_or c.args.locks.now c.loop-i.i d in
    let M = table_state c.loop-i.self in
    record {
      sets = sets_next lock_request (table_state c.args.self.now) c.args.file c.args.locks.now c.loop-i.i d M (table_state c.set.new.self) c.loop-i-test.true c.loop-i.invariant.sets
          (λ held. let back = c.holds_back.ensures.1 (subst (λ (w : Pending). IsHeldBack (M.files c.args.file) w) (sym c.byte_request-wanted.ensures) held) in let none = c.if-holds_back.false in cc)
          c.in_ok-set.ensures.ok;
      swept = λ swept. all_swept_but c.loop-i.self c.set.new.self c.args.file c.set.ensures.others
          (swept_set c.set.new.self c.args.file (M.files c.args.file) lock.owner lock.span lock.mode (c.requires c.loop-i.i d c.loop-i-test.true) c.in_ok-set.ensures.ok.sets)
          (c.loop-i.invariant.swept swept);
    }

pub returns-clause-sets : goal.returns-clause-sets
returns-clause-sets c = sets_all lock_request (table_state c.args.self.now) c.args.file c.args.locks.now c.loop-i.i (table_state c.loop-i.self) c.loop-i-test.false c.loop-i.invariant.sets

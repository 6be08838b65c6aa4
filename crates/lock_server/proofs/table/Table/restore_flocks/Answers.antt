use Rattle.lock_server.proofs.Common.{◌∙◌, get_or, subst, sym, Some, slice_get-get_or, Read, Whole, whole_file, FlockLock, Pending, SetsOn, flock_lock_request, IsHeldBack, State, table_state}
use Rattle.lock_server.proofs.RestoringLemmas.{sets_all, sets_next, swept_set_flock}
use Rattle.lock_server.proofs.StateLemmas.{state_from_same}
use Rattle.lock_server.proofs.SweptLemmas.{all_swept_but}
use Rattle.lock_server.proofs.table.Table.restore_flocks.Goals as goal

pub returns-then-holds_back-clause-sets : goal.returns-then-holds_back-clause-sets
returns-then-holds_back-clause-sets c =
    let d : FlockLock = record { owner = 0; mode = Read } in
    let lock = get_or c.args.locks.now c.loop-i.i d in
    record {
      next = lock;
      at = slice_get-get_or c.args.locks.now c.loop-i.i d c.loop-i-test.true;
      sets = c.loop-i.invariant.sets;
      held_back = subst (λ (w : Pending). IsHeldBack ((table_state c.loop-i.self).files c.args.file) w) c.flock_request-wanted.ensures (c.holds_back.ensures.0 c.if-holds_back.true);
    }

pub returns-in_err-place_flock-clause-swept : goal.returns-in_err-place_flock-clause-swept
returns-in_err-place_flock-clause-swept c = λ swept.
    let before = c.loop-i.invariant.swept swept in
    all_swept_but c.loop-i.self c.place_flock.new.self c.args.file c.place_flock.ensures.others (c.in_err-place_flock.ensures.swept (before c.args.file)) before

pub loop-i-preserved : goal.loop-i-preserved
loop-i-preserved c =
    let d : FlockLock = record { owner = 0; mode = Read } in
    let lock = get_or c.args.locks.now c.loop-i.i d in
    let M = table_state c.loop-i.self in
    record {
      sets = sets_next flock_lock_request (table_state c.args.self.now) c.args.file c.args.locks.now c.loop-i.i d M (table_state c.set_flock.new.self) c.loop-i-test.true c.loop-i.invariant.sets
          (λ held. let back = c.holds_back.ensures.1 (subst (λ (w : Pending). IsHeldBack (M.files c.args.file) w) (sym c.flock_request-wanted.ensures) held) in let none = c.if-holds_back.false in cc)
          (subst (λ (U : State). SetsOn U c.args.file Whole lock.owner whole_file (Some lock.mode) (table_state c.set_flock.new.self))
          (state_from_same M (table_state c.place_flock.new.self) c.place_flock.ensures.same) c.set_flock.ensures.sets);
      swept = λ swept. all_swept_but c.loop-i.self c.set_flock.new.self c.args.file (λ other differs. c.set_flock.ensures.others other differs ∙ c.place_flock.ensures.others other differs)
          (swept_set_flock c.set_flock.new.self c.args.file ((table_state c.place_flock.new.self).files c.args.file) lock.owner lock.mode c.set_flock.ensures.sets.sets)
          (c.loop-i.invariant.swept swept);
    }

pub returns-clause-sets : goal.returns-clause-sets
returns-clause-sets c = sets_all flock_lock_request (table_state c.args.self.now) c.args.file c.args.locks.now c.loop-i.i (table_state c.loop-i.self) c.loop-i-test.false c.loop-i.invariant.sets

use Rattle.lock_server.proofs.Common.{◌∙◌, get_or, subst, false, slice_get-get_or, Read, Bytes, Pending, Suspends, State, table_state}
use Rattle.lock_server.proofs.RestoringLemmas.{joins_all, joins_next}
use Rattle.lock_server.proofs.StateLemmas.{state_from_same}
use Rattle.lock_server.proofs.SweptLemmas.{all_swept_but, swept_with_wait}
use Rattle.lock_server.proofs.table.Table.restore_waits.Goals as goal

pub returns-then-is_taken-clause-joins : goal.returns-then-is_taken-clause-joins
returns-then-is_taken-clause-joins c =
    let d : Pending = record { ticket = 0; owner = 0; family = Bytes; span = record { first = 0; last = 0 }; mode = Read; detect = false } in
    record {
      next = get_or c.args.waits.now c.loop-i.i d;
      at = slice_get-get_or c.args.waits.now c.loop-i.i d c.loop-i-test.true;
      joins = c.loop-i.invariant.joins;
      taken = c.is_taken.ensures.0 c.if-is_taken.true;
    }

pub returns-in_err-reserve-clause-swept : goal.returns-in_err-reserve-clause-swept
returns-in_err-reserve-clause-swept c = λ swept.
    let before = c.loop-i.invariant.swept swept in
    all_swept_but c.loop-i.self c.reserve.new.self c.args.file c.reserve.ensures.others (c.in_err-reserve.ensures.swept (before c.args.file)) before

pub loop-i-preserved : goal.loop-i-preserved
loop-i-preserved c =
    let d : Pending = record { ticket = 0; owner = 0; family = Bytes; span = record { first = 0; last = 0 }; mode = Read; detect = false } in
    let wait = get_or c.args.waits.now c.loop-i.i d in
    let M = table_state c.loop-i.self in
    let suspends = subst (λ (U : State). Suspends U c.args.file wait (table_state c.join.new.self))
    (state_from_same M (table_state c.reserve.new.self) c.reserve.ensures.same) c.join.ensures.suspends in
    record {
      joins = joins_next (table_state c.args.self.now) c.args.file c.args.waits.now c.loop-i.i d M (table_state c.join.new.self) c.loop-i-test.true c.loop-i.invariant.joins
          (λ taken. let yes = c.is_taken.ensures.1 taken in let no = c.if-is_taken.false in cc) suspends;
      swept = λ swept. all_swept_but c.loop-i.self c.join.new.self c.args.file
          (λ other differs. c.join.ensures.others other differs ∙ c.reserve.ensures.others other differs)
          (swept_with_wait c.join.new.self c.args.file _ _ suspends.joins.waits) (c.loop-i.invariant.swept swept);
    }

pub returns-clause-joins : goal.returns-clause-joins
returns-clause-joins c = joins_all (table_state c.args.self.now) c.args.file c.args.waits.now c.loop-i.i (table_state c.loop-i.self) c.loop-i-test.false c.loop-i.invariant.joins

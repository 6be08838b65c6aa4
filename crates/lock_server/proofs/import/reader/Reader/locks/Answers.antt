use Rattle.lock_server.proofs.Common.{All, List, [], ◌∷◌, ◌+◌, ◌++◌, ◌∙◌, arith, length, subst, sym, All-append, All-cons, All-nil, IsByteRange, Lock, lock_words, MayLock, itself}
use Rattle.std.proofs.Common.{flat_map}
use Rattle.lock_server.proofs.ReaderLemmas.{AreReadTo, IsReadTo, fails, map_itself, reads_all, reads_more, reads_none, reads_stop, wants, wide}
use Rattle.lock_server.proofs.import.reader.Reader.locks.Goals as goal

pub returns-in_err-count-clause-again : goal.returns-in_err-count-clause-again
returns-in_err-count-clause-again c y rest may is =
    fails _ c.from_residual.result _ _ c.from_residual.ensures.1
    (c.in_err-count.ensures (length y) (flat_map lock_words y ++ rest) (wide lock_words 4 (λ item. omega arith) y rest) is)

pub loop-place-init : goal.loop-place-init
loop-place-init c = record {
  ranges = subst (λ (l : List Lock). All (λ lock. IsByteRange lock.span) l) (sym c.new-locks.ensures.items) (All-nil (λ lock. IsByteRange lock.span));
  again = subst (λ (l : List Lock). AreReadTo itself lock_words MayLock c.args.self.now.left.now l c.count.new.self.left.now 0 c.in_ok-count.count)
      (sym c.new-locks.ensures.items)
      (reads_none itself lock_words MayLock 4 (λ item. omega arith) c.args.self.now.left.now c.count.new.self.left.now c.in_ok-count.count
      c.in_ok-count.ensures);
}

pub loop-place-preserved : goal.loop-place-preserved
loop-place-preserved c = record {
  ranges = subst (λ (l : List Lock). All (λ lock. IsByteRange lock.span) l) (sym c.in_ok-put.ensures)
      (All-append (λ lock. IsByteRange lock.span) c.loop-place.locks.items (c.in_ok-lock.lock ∷ []) c.loop-place.invariant.ranges
      (All-cons (λ lock. IsByteRange lock.span) c.in_ok-lock.lock [] c.in_ok-lock.ensures.range (All-nil (λ lock. IsByteRange lock.span))));
  again = λ ys rest may is.
      subst (λ (l : List Lock). IsReadTo itself lock_words l c.lock.new.self.left.now (c.loop-place._place + 1) c.in_ok-count.count ys rest)
      (sym c.in_ok-put.ensures)
      (reads_more itself lock_words MayLock c.loop-place.locks.items c.loop-place.self.left.now c.loop-place._place c.in_ok-count.count
      c.loop-place-test.true ys rest may c.in_ok-lock.lock c.lock.new.self.left.now (c.loop-place.invariant.again ys rest may is) c.in_ok-lock.ensures.again);
}

pub returns-in_err-lock-clause-again : goal.returns-in_err-lock-clause-again
returns-in_err-lock-clause-again c y rest may is =
    reads_stop itself lock_words MayLock c.loop-place.locks.items c.loop-place.self.left.now c.loop-place._place c.in_ok-count.count
    c.loop-place-test.true y rest may _ c.from_residual-in_err-lock.result c.lock.new.self.left.now _ c.from_residual-in_err-lock.ensures.1
    (c.loop-place.invariant.again y rest may is) c.in_err-lock.ensures.again

pub returns-in_err-put-clause-again : goal.returns-in_err-put-clause-again
returns-in_err-put-clause-again c y rest may is = wants _ c.from_residual-in_err-put.result _ c.from_residual-in_err-put.ensures.1

pub returns-clause-again : goal.returns-clause-again
returns-clause-again c y rest may is =
    let all = reads_all itself lock_words MayLock c.args.self.now.left.now c.loop-place.locks.items c.loop-place.self.left.now c.loop-place._place
    c.in_ok-count.count c.loop-place-test.false c.loop-place.invariant.again y rest may is in
    (sym (map_itself c.loop-place.locks.items) ∙ all.0, all.1)

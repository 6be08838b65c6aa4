use Rattle.lock_server.proofs.Common.{All, List, [], ◌∷◌, ◌+◌, ◌++◌, ◌∙◌, arith, length, subst, sym, All-append, All-cons, All-nil, IsByteRange, Pending, wait_words, MayWait, itself}
use Rattle.std.proofs.Common.{flat_map}
use Rattle.lock_server.proofs.ReaderLemmas.{AreReadTo, IsReadTo, fails, map_itself, reads_all, reads_more, reads_none, reads_stop, wants, wide}
use Rattle.lock_server.proofs.import.reader.Reader.waits.Goals as goal

pub returns-in_err-count-clause-again : goal.returns-in_err-count-clause-again
returns-in_err-count-clause-again c y rest may is =
    fails _ c.from_residual.result _ _ c.from_residual.ensures.1
    (c.in_err-count.ensures (length y) (flat_map wait_words y ++ rest) (wide wait_words 7 (λ item. omega arith) y rest) is)

pub loop-place-init : goal.loop-place-init
loop-place-init c = record {
  ranges = subst (λ (l : List Pending). All (λ wait. IsByteRange wait.span) l) (sym c.new-waits.ensures.items) (All-nil (λ wait. IsByteRange wait.span));
  again = subst (λ (l : List Pending). AreReadTo itself wait_words MayWait c.args.self.now.left.now l c.count.new.self.left.now 0 c.in_ok-count.count)
      (sym c.new-waits.ensures.items)
      (reads_none itself wait_words MayWait 7 (λ item. omega arith) c.args.self.now.left.now c.count.new.self.left.now c.in_ok-count.count
      c.in_ok-count.ensures);
}

pub loop-place-preserved : goal.loop-place-preserved
loop-place-preserved c = record {
  ranges = subst (λ (l : List Pending). All (λ wait. IsByteRange wait.span) l) (sym c.in_ok-put.ensures)
      (All-append (λ wait. IsByteRange wait.span) c.loop-place.waits.items (c.in_ok-wait.wait ∷ []) c.loop-place.invariant.ranges
      (All-cons (λ wait. IsByteRange wait.span) c.in_ok-wait.wait [] c.in_ok-wait.ensures.range (All-nil (λ wait. IsByteRange wait.span))));
  again = λ ys rest may is.
      subst (λ (l : List Pending). IsReadTo itself wait_words l c.wait.new.self.left.now (c.loop-place._place + 1) c.in_ok-count.count ys rest)
      (sym c.in_ok-put.ensures)
      (reads_more itself wait_words MayWait c.loop-place.waits.items c.loop-place.self.left.now c.loop-place._place c.in_ok-count.count
      c.loop-place-test.true ys rest may c.in_ok-wait.wait c.wait.new.self.left.now (c.loop-place.invariant.again ys rest may is) c.in_ok-wait.ensures.again);
}

pub returns-in_err-wait-clause-again : goal.returns-in_err-wait-clause-again
returns-in_err-wait-clause-again c y rest may is =
    reads_stop itself wait_words MayWait c.loop-place.waits.items c.loop-place.self.left.now c.loop-place._place c.in_ok-count.count
    c.loop-place-test.true y rest may _ c.from_residual-in_err-wait.result c.wait.new.self.left.now _ c.from_residual-in_err-wait.ensures.1
    (c.loop-place.invariant.again y rest may is) c.in_err-wait.ensures.again

pub returns-in_err-put-clause-again : goal.returns-in_err-put-clause-again
returns-in_err-put-clause-again c y rest may is = wants _ c.from_residual-in_err-put.result _ c.from_residual-in_err-put.ensures.1

pub returns-clause-again : goal.returns-clause-again
returns-clause-again c y rest may is =
    let all = reads_all itself wait_words MayWait c.args.self.now.left.now c.loop-place.waits.items c.loop-place.self.left.now c.loop-place._place
    c.in_ok-count.count c.loop-place-test.false c.loop-place.invariant.again y rest may is in
    (sym (map_itself c.loop-place.waits.items) ∙ all.0, all.1)

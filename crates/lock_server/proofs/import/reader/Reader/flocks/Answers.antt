use Rattle.lock_server.proofs.Common.{List, ◌+◌, ◌++◌, ◌∙◌, arith, length, subst, sym, FlockLock, flock_words, Always, itself}
use Rattle.std.proofs.Common.{flat_map}
use Rattle.lock_server.proofs.ReaderLemmas.{AreReadTo, IsReadTo, fails, map_itself, reads_all, reads_more, reads_none, reads_stop, wants, wide}
use Rattle.lock_server.proofs.import.reader.Reader.flocks.Goals as goal

pub returns-in_err-count : goal.returns-in_err-count
returns-in_err-count c y rest may is =
    fails _ c.from_residual.result _ _ c.from_residual.ensures.1
    (c.in_err-count.ensures (length y) (flat_map flock_words y ++ rest) (wide flock_words 2 (λ item. omega arith) y rest) is)

pub loop-place-init : goal.loop-place-init
loop-place-init c =
    subst (λ (l : List FlockLock). AreReadTo itself flock_words Always c.args.self.now.left.now l c.count.new.self.left.now 0 c.in_ok-count.count)
    (sym c.new-flocks.ensures.items)
    (reads_none itself flock_words Always 2 (λ item. omega arith) c.args.self.now.left.now c.count.new.self.left.now c.in_ok-count.count
    c.in_ok-count.ensures)

pub loop-place-preserved : goal.loop-place-preserved
loop-place-preserved c = λ ys rest may is.
    subst (λ (l : List FlockLock). IsReadTo itself flock_words l c.flock.new.self.left.now (c.loop-place._place + 1) c.in_ok-count.count ys rest)
    (sym c.in_ok-put.ensures)
    (reads_more itself flock_words Always c.loop-place.flocks.items c.loop-place.self.left.now c.loop-place._place c.in_ok-count.count
    c.loop-place-test.true ys rest may c.in_ok-lock.lock c.flock.new.self.left.now (c.loop-place.invariant ys rest may is) c.in_ok-lock.ensures)

pub returns-in_err-lock : goal.returns-in_err-lock
returns-in_err-lock c y rest may is =
    reads_stop itself flock_words Always c.loop-place.flocks.items c.loop-place.self.left.now c.loop-place._place c.in_ok-count.count
    c.loop-place-test.true y rest (λ k d within. tt) _ c.from_residual-in_err-lock.result c.flock.new.self.left.now _
    c.from_residual-in_err-lock.ensures.1 (c.loop-place.invariant y rest (λ k d within. tt) is) c.in_err-lock.ensures

pub returns-in_err-put : goal.returns-in_err-put
returns-in_err-put c y rest may is = wants _ c.from_residual-in_err-put.result _ c.from_residual-in_err-put.ensures.1

pub returns : goal.returns
returns c y rest may is =
    let all = reads_all itself flock_words Always c.args.self.now.left.now c.loop-place.flocks.items c.loop-place.self.left.now c.loop-place._place
    c.in_ok-count.count c.loop-place-test.false c.loop-place.invariant y rest (λ k d within. tt) is in
    (sym (map_itself c.loop-place.flocks.items) ∙ all.0, all.1)

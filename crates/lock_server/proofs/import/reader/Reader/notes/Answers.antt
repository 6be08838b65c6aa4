use Rattle.lock_server.proofs.Common.{List, ◌+◌, ◌++◌, arith, length, subst, sym, note_words, Always, note_of}
use Rattle.std.proofs.Common.{flat_map}
use Rattle.lock_server.specs.declared.import.parts.Note.{Note}
use Rattle.lock_server.proofs.ReaderLemmas.{AreReadTo, IsReadTo, fails, reads_all, reads_more, reads_none, reads_stop, wants, wide}
use Rattle.lock_server.proofs.import.reader.Reader.notes.Goals as goal

pub returns-in_err-count : goal.returns-in_err-count
returns-in_err-count c y rest may is =
    fails _ c.from_residual.result _ _ c.from_residual.ensures.1
    (c.in_err-count.ensures (length y) (flat_map note_words y ++ rest) (wide note_words 3 (λ item. omega arith) y rest) is)

pub loop-place-init : goal.loop-place-init
loop-place-init c =
    subst (λ (l : List Note). AreReadTo note_of note_words Always c.args.self.now.left.now l c.count.new.self.left.now 0 c.in_ok-count.count)
    (sym c.new-notes.ensures.items)
    (reads_none note_of note_words Always 3 (λ item. omega arith) c.args.self.now.left.now c.count.new.self.left.now c.in_ok-count.count
    c.in_ok-count.ensures)

pub loop-place-preserved : goal.loop-place-preserved
loop-place-preserved c = λ ys rest may is.
    subst (λ (l : List Note). IsReadTo note_of note_words l c.note.new.self.left.now (c.loop-place._place + 1) c.in_ok-count.count ys rest)
    (sym c.in_ok-put.ensures)
    (reads_more note_of note_words Always c.loop-place.notes.items c.loop-place.self.left.now c.loop-place._place c.in_ok-count.count
    c.loop-place-test.true ys rest may c.in_ok-note.note c.note.new.self.left.now (c.loop-place.invariant ys rest may is) c.in_ok-note.ensures)

pub returns-in_err-note : goal.returns-in_err-note
returns-in_err-note c y rest may is =
    reads_stop note_of note_words Always c.loop-place.notes.items c.loop-place.self.left.now c.loop-place._place c.in_ok-count.count
    c.loop-place-test.true y rest (λ k d within. tt) _ c.from_residual-in_err-note.result c.note.new.self.left.now _
    c.from_residual-in_err-note.ensures.1 (c.loop-place.invariant y rest (λ k d within. tt) is) c.in_err-note.ensures

pub returns-in_err-put : goal.returns-in_err-put
returns-in_err-put c y rest may is = wants _ c.from_residual-in_err-put.result _ c.from_residual-in_err-put.ensures.1

pub returns : goal.returns
returns c y rest may is =
    let all = reads_all note_of note_words Always c.args.self.now.left.now c.loop-place.notes.items c.loop-place.self.left.now c.loop-place._place
    c.in_ok-count.count c.loop-place-test.false c.loop-place.invariant y rest (λ k d within. tt) is in
    (all.0, all.1)

use Rattle.lock_server.proofs.Common.{List, ◌+◌, ◌++◌, length, subst, sym, FilePart, file_words, MayStand}
use Rattle.std.proofs.Common.{flat_map}
use Rattle.lock_server.specs.Reading.{entry_of}
use Rattle.lock_server.proofs.ReaderLemmas.{AreReadTo, IsReadTo, fails, file_wide, reads_all, reads_more, reads_none, reads_stop, wants, wide}
use Rattle.lock_server.proofs.import.reader.Reader.files.Goals as goal

pub returns-in_err-count : goal.returns-in_err-count
returns-in_err-count c y rest may is =
    fails _ c.from_residual.result _ _ c.from_residual.ensures.1
    (c.in_err-count.ensures (length y) (flat_map file_words y ++ rest) (wide file_words 4 file_wide y rest) is)

pub loop-place-init : goal.loop-place-init
loop-place-init c =
    subst (λ (l : List FilePart). AreReadTo entry_of file_words MayStand c.args.self.now.left.now l c.count.new.self.left.now 0 c.in_ok-count.count)
    (sym c.new-files.ensures.items)
    (reads_none entry_of file_words MayStand 4 file_wide c.args.self.now.left.now c.count.new.self.left.now c.in_ok-count.count c.in_ok-count.ensures)

pub loop-place-preserved : goal.loop-place-preserved
loop-place-preserved c = λ ys rest may is.
    subst (λ (l : List FilePart). IsReadTo entry_of file_words l c.file.new.self.left.now (c.loop-place._place + 1) c.in_ok-count.count ys rest)
    (sym c.in_ok-put.ensures)
    (reads_more entry_of file_words MayStand c.loop-place.files.items c.loop-place.self.left.now c.loop-place._place c.in_ok-count.count
    c.loop-place-test.true ys rest may c.in_ok-file.file c.file.new.self.left.now (c.loop-place.invariant ys rest may is) c.in_ok-file.ensures)

pub returns-in_err-file : goal.returns-in_err-file
returns-in_err-file c y rest may is =
    reads_stop entry_of file_words MayStand c.loop-place.files.items c.loop-place.self.left.now c.loop-place._place c.in_ok-count.count
    c.loop-place-test.true y rest may _ c.from_residual-in_err-file.result c.file.new.self.left.now _ c.from_residual-in_err-file.ensures.1
    (c.loop-place.invariant y rest may is) c.in_err-file.ensures

pub returns-in_err-put : goal.returns-in_err-put
returns-in_err-put c y rest may is = wants _ c.from_residual-in_err-put.result _ c.from_residual-in_err-put.ensures.1

pub returns : goal.returns
returns c y rest may is =
    let all = reads_all entry_of file_words MayStand c.args.self.now.left.now c.loop-place.files.items c.loop-place.self.left.now c.loop-place._place
    c.in_ok-count.count c.loop-place-test.false c.loop-place.invariant y rest may is in
    (all.0, all.1)

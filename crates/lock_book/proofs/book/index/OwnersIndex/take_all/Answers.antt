use Rattle.lock_book.proofs.Common.{true, with_value, modes_of, as_holder, holder_modes}
use Rattle.lock_book.specs.Indexing.{is_others}
use Rattle.lock_book.proofs.IndexedLemmas.{each_listed, kept_lent, kept_new, others_taken}
use Rattle.lock_book.proofs.book.index.OwnersIndex.take_all.Goals as goal

pub returns-in-Some : goal.returns-in-Some
returns-in-Some c modes same kept block is =
    let taken = c.take_runs.ensures (holder_modes modes) (λ run. true)
    (kept_lent (holder_modes modes) (λ run. true) c.in-Some.index c.as_mut.result.now c.as_mut.ensures.value (kept c.in-Some.index c.in-Some.is)) in
    kept_new (holder_modes modes) (is_others (as_holder c.args.owner)) (with_value c.in-Some.index c.take_runs.new.index) block
    (others_taken modes c.args.owner c.args.list.now same c.runs.result c.runs.ensures.runs.each
    (each_listed (modes_of c.args.list.now) c.runs.result c.runs.ensures.runs) c.take_runs.new.index.runs taken) is

use Rattle.lock_manager.proofs.Common.{◌<◌, ap, refl, length, arith, slice_set, on_ok_weaker}
use Rattle.lock_manager.proofs.kept.BookLemmas.{book_at}
use Rattle.lock_manager.proofs.kept.ChangedFlockLemmas.{place_taken, placed}
use Rattle.lock_manager.proofs.kept.NextStateLemmas.{same_by_book}
use Rattle.lock_manager.proofs.kept.SuspendLemmas.{kept_by_book}
use Rattle.lock_manager.proofs.machine.Machine.place_flock.Goals as goal

pub invariant_of-self-clause-kept : goal.invariant_of-self-clause-kept
invariant_of-self-clause-kept c =
    let machine = c.args.self.now in
    let books = machine.books.items in
    let within : c.args.file < length books = omega arith in
    let was = book_at books c.from.result c.args.file c.index_mut.result.now c.from.ensures within c.index_mut.ensures.value in
    kept_by_book machine (slice_set books c.from.result c.flock_reserve.new.self) c.args.file c.index_mut.result.now c.flock_reserve.new.self
    (ap (λ i. slice_set books i c.flock_reserve.new.self) c.from.ensures) within was
    (place_taken c.index_mut.result.now c.flock_reserve.new.self c.args.description c.flock_reserve.result c.flock_reserve.ensures.ok c.flock_reserve.ensures.err)

pub returns-clause-place : goal.returns-clause-place
returns-clause-place c =
    let books = c.args.self.now.books.items in
    let within : c.args.file < length books = omega arith in
    on_ok_weaker c.flock_reserve.result
    (placed books (slice_set books c.from.result c.flock_reserve.new.self) c.args.file c.index_mut.result.now c.flock_reserve.new.self c.args.description
    (ap (λ i. slice_set books i c.flock_reserve.new.self) c.from.ensures) within) c.flock_reserve.ensures.ok

pub returns-clause-same : goal.returns-clause-same
returns-clause-same c =
    let machine = c.args.self.now in
    let books = machine.books.items in
    let within : c.args.file < length books = omega arith in
    let was = book_at books c.from.result c.args.file c.index_mut.result.now c.from.ensures within c.index_mut.ensures.value in
    same_by_book machine _ c.args.file c.index_mut.result.now c.flock_reserve.new.self
    (ap (λ i. slice_set books i c.flock_reserve.new.self) c.from.ensures) refl refl refl refl refl within was
    (place_taken c.index_mut.result.now c.flock_reserve.new.self c.args.description c.flock_reserve.result c.flock_reserve.ensures.ok c.flock_reserve.ensures.err)

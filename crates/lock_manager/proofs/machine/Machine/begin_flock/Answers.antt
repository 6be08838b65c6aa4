use Rattle.lock_manager.proofs.Common.{◌<◌, ap, refl, length, arith, slice_set, on_ok_weaker, on_err_weaker, machine_locks, machine_state}
use Rattle.lock_manager.proofs.kept.BookLemmas.{book_at}
use Rattle.lock_manager.proofs.kept.ChangedFlockLemmas.{kept_by_first_flock, with_flock_change}
use Rattle.lock_manager.proofs.kept.NextStateLemmas.{same_by_book}
use Rattle.lock_manager.proofs.kept.WaitLemmas.{keeps_same}
use Rattle.lock_manager.proofs.machine.Machine.begin_flock.Goals as goal

pub invariant_of-self-clause-kept : goal.invariant_of-self-clause-kept
unfolding machine_locks machine_state
invariant_of-self-clause-kept c =
    let machine = c.args.self.now in
    let books = machine.books.items in
    let within : c.args.file < length books = omega arith in
    let was = book_at books c.from.result c.args.file c.index_mut.result.now c.from.ensures within c.index_mut.ensures.value in
    kept_by_first_flock c.stay_free_of_cycles.ensures.description_locks_change machine (slice_set books c.from.result c.flock_set.new.self) c.args.file
    c.index_mut.result.now c.flock_set.new.self c.args.description c.args.mode c.flock_set.result
    (ap (λ i. slice_set books i c.flock_set.new.self) c.from.ensures) within was c.requires.owner c.requires.free c.requires.none
    c.flock_set.ensures.ok c.flock_set.ensures.err

pub returns-clause-ok : goal.returns-clause-ok
returns-clause-ok c =
    let machine = c.args.self.now in
    let books = machine.books.items in
    let within : c.args.file < length books = omega arith in
    on_ok_weaker c.flock_set.result
    (λ sets S h. with_flock_change machine _ S c.args.file c.index_mut.result.now c.flock_set.new.self c.args.description _
    (ap (λ i. slice_set books i c.flock_set.new.self) c.from.ensures) refl refl within
    (book_at books c.from.result c.args.file _ c.from.ensures within c.index_mut.ensures.value) sets refl h)
    c.flock_set.ensures.ok

pub returns-clause-memory : goal.returns-clause-memory
returns-clause-memory c =
    let machine = c.args.self.now in
    let books = machine.books.items in
    let within : c.args.file < length books = omega arith in
    on_err_weaker c.flock_set.result
    (λ same. same_by_book machine _ c.args.file c.index_mut.result.now c.flock_set.new.self
    (ap (λ i. slice_set books i c.flock_set.new.self) c.from.ensures) refl refl refl refl refl within
    (book_at books c.from.result c.args.file _ c.from.ensures within c.index_mut.ensures.value) (keeps_same c.index_mut.result.now c.flock_set.new.self same))
    c.flock_set.ensures.err

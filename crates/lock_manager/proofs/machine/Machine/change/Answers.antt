use Rattle.lock_manager.proofs.Common.{◌<◌, ap, refl, length, arith, slice_set, on_ok_weaker, on_err_weaker, machine_locks, machine_state}
use Rattle.lock_manager.proofs.kept.BookLemmas.{book_at}
use Rattle.lock_manager.proofs.kept.KeptLemmas.{kept_by_change, stays_known}
use Rattle.lock_manager.proofs.kept.WaitLemmas.{keeps_same}
use Rattle.lock_manager.proofs.kept.NextStateLemmas.{with_change, same_by_book}
use Rattle.lock_manager.proofs.machine.Machine.change.Goals as goal

pub invariant_of-self-clause-kept : goal.invariant_of-self-clause-kept
unfolding machine_locks machine_state
invariant_of-self-clause-kept c =
    let machine = c.args.self.now in
    let books = machine.books.items in
    let within : c.args.file < length books = omega arith in
    let laws = c.stay_free_of_cycles.ensures in
    kept_by_change laws.locks_change laws.description_locks_change machine (slice_set books c.from.result c.set-done.new.self) c.refresh_owner.new.self
    c.args.file c.index_mut.result.now c.set-done.new.self c.args.owner c.args.span c.args.mode c.set-done.result
    (ap (λ i. slice_set books i c.set-done.new.self) c.from.ensures) within
    (book_at books c.from.result c.args.file _ c.from.ensures within c.index_mut.ensures.value)
    c.requires.owner c.requires.span c.requires.live c.requires.free c.set-done.ensures.ok c.set-done.ensures.room c.set-done.ensures.err
    (record { waits = c.refresh_owner.ensures.waits; policy = c.refresh_owner.ensures.policy; processes = c.refresh_owner.ensures.processes })
    (λ agree alone. stays_known machine.waits c.refresh_owner.new.self books (slice_set books c.from.result c.set-done.new.self) c.deref.result.now c.args.file c.args.owner c.args.span c.deref.ensures.value c.requires.file
    c.refresh_owner.ensures.told c.refresh_owner.ensures.blocked agree alone)

pub returns-clause-ok : goal.returns-clause-ok
returns-clause-ok c =
    let machine = c.args.self.now in
    let books = machine.books.items in
    let within : c.args.file < length books = omega arith in
    on_ok_weaker c.set-done.result
    (λ sets S h. with_change machine _ S c.args.file c.index_mut.result.now c.set-done.new.self c.args.owner c.args.span c.args.mode
    (ap (λ i. slice_set books i c.set-done.new.self) c.from.ensures) refl refl within
    (book_at books c.from.result c.args.file _ c.from.ensures within c.index_mut.ensures.value) sets c.refresh_owner.ensures.waits h)
    c.set-done.ensures.ok

pub returns-clause-memory : goal.returns-clause-memory
returns-clause-memory c =
    let machine = c.args.self.now in
    let books = machine.books.items in
    let within : c.args.file < length books = omega arith in
    on_err_weaker c.set-done.result
    (λ same. same_by_book machine _ c.args.file c.index_mut.result.now c.set-done.new.self
    (ap (λ i. slice_set books i c.set-done.new.self) c.from.ensures) refl refl refl refl c.refresh_owner.ensures.waits within
    (book_at books c.from.result c.args.file _ c.from.ensures within c.index_mut.ensures.value) (keeps_same c.index_mut.result.now c.set-done.new.self same))
    c.set-done.ensures.err

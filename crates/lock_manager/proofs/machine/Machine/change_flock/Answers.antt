use Rattle.lock_manager.proofs.Common.{◌≡◌, ◌<◌, sym, ap, subst, refl, length, true, arith, slice_get, slice_set, has_place_at, machine_locks, machine_state, locks_of}
use Rattle.lock_book.specs.Books.{SetsFlock}
use Rattle.lock_manager.specs.WaitsKept.{FreesNobody}
use Rattle.lock_manager.proofs.kept.WaitLemmas.{agree_elsewhere, places_kept}
use Rattle.lock_manager.proofs.kept.BookLemmas.{book_at}
use Rattle.lock_manager.proofs.kept.ChangedFlockLemmas.{flock_frees_none, kept_by_flock, flock_place_kept, with_flock_change}
use Rattle.lock_manager.proofs.machine.Machine.change_flock.Goals as goal

pub invariant_of-self-clause-kept : goal.invariant_of-self-clause-kept
unfolding machine_locks machine_state
invariant_of-self-clause-kept c =
    let machine = c.args.self.now in
    let books = machine.books.items in
    let within : c.args.file < length books = omega arith in
    let laws = c.stay_free_of_cycles.ensures in
    let was = book_at books c.from.result c.args.file c.index_mut-book.result.now c.from.ensures within c.index_mut-book.ensures.value in
    let sets : SetsFlock c.index_mut-book.result.now c.flock_set_reserved-had.new.self c.args.description c.args.mode = c.flock_set_reserved-had.ensures.sets in
    kept_by_flock laws.description_locks_change machine (slice_set books c.from.result c.flock_set_reserved-had.new.self) c.touch_freed.new.waits
    c.args.file c.index_mut-book.result.now c.flock_set_reserved-had.new.self c.args.description c.args.mode
    (ap (λ i. slice_set books i c.flock_set_reserved-had.new.self) c.from.ensures) within was c.requires.owner c.requires.free sets
    c.touch_freed.ensures.same c.touch_freed.ensures.told
    (λ known. c.touch_freed.ensures.blocked (locks_of books) (locks_of (slice_set books c.args.file c.flock_set_reserved-had.new.self)) known
    (agree_elsewhere books c.args.file c.flock_set_reserved-had.new.self)
    (λ none. flock_frees_none books c.args.file c.index_mut-book.result.now c.flock_set_reserved-had.new.self c.args.description c.args.mode within was sets
    (subst (FreesNobody c.flock_set_reserved-had.new.self) c.flock_set_reserved-had.ensures.before (c.may_free-freed.ensures none))))

pub returns-clause-shows : goal.returns-clause-shows
returns-clause-shows c S h =
    let machine = c.args.self.now in
    let books = machine.books.items in
    let within : c.args.file < length books = omega arith in
    let was = book_at books c.from.result c.args.file c.index_mut-book.result.now c.from.ensures within c.index_mut-book.ensures.value in
    let sets : SetsFlock c.index_mut-book.result.now c.flock_set_reserved-had.new.self c.args.description c.args.mode = c.flock_set_reserved-had.ensures.sets in
    with_flock_change machine _ S c.args.file c.index_mut-book.result.now c.flock_set_reserved-had.new.self c.args.description c.args.mode
    (ap (λ i. slice_set books i c.flock_set_reserved-had.new.self) c.from.ensures) refl refl within was sets c.touch_freed.ensures.same.waits h

pub returns-clause-places : goal.returns-clause-places
returns-clause-places c f d there =
    let machine = c.args.self.now in
    let books = machine.books.items in
    let within : c.args.file < length books = omega arith in
    let was = book_at books c.from.result c.args.file c.index_mut-book.result.now c.from.ensures within c.index_mut-book.ensures.value in
    let sets : SetsFlock c.index_mut-book.result.now c.flock_set_reserved-had.new.self c.args.description c.args.mode = c.flock_set_reserved-had.ensures.sets in
    subst (λ i. has_place_at (slice_get (slice_set books i c.flock_set_reserved-had.new.self) f) d ≡ true) (sym c.from.ensures)
    (places_kept books c.args.file c.index_mut-book.result.now c.flock_set_reserved-had.new.self within was
    (flock_place_kept c.index_mut-book.result.now c.flock_set_reserved-had.new.self c.args.description c.args.mode sets) f d there)

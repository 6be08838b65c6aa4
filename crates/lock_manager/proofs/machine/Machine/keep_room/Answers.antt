use Rattle.lock_manager.proofs.Common.{common_steps, ◌<◌, ◌∙◌, ap, refl, length, arith, slice_set, locks_of, machine_locks}
use Rattle.lock_manager.proofs.kept.BookLemmas.{book_at, locks_stay}
use Rattle.lock_manager.proofs.kept.NextStateLemmas.{same_by_book}
use Rattle.lock_manager.proofs.kept.SuspendLemmas.{kept_by_book, room_taken, roomy}
use Rattle.lock_manager.proofs.machine.Machine.keep_room.Goals as goal

pub invariant_of-self-clause-kept : goal.invariant_of-self-clause-kept
invariant_of-self-clause-kept c =
    let books = c.args.self.now.books.items in
    let within : c.args.file < length books = omega arith in
    kept_by_book c.args.self.now (slice_set books c.from.result c.reserve.new.self) c.args.file c.index_mut.result.now c.reserve.new.self
    (ap (λ i. slice_set books i c.reserve.new.self) c.from.ensures) within
    (book_at books c.from.result c.args.file _ c.from.ensures within c.index_mut.ensures.value)
    (room_taken c.index_mut.result.now c.reserve.new.self c.args.owner c.reserve.result c.reserve.ensures.ok c.reserve.ensures.kept c.reserve.ensures.err)

pub returns-clause-room : goal.returns-clause-room
returns-clause-room c = grind (arith, common_steps, roomy)

pub returns-clause-same : goal.returns-clause-same
returns-clause-same c =
    let books = c.args.self.now.books.items in
    let within : c.args.file < length books = omega arith in
    same_by_book c.args.self.now _ c.args.file c.index_mut.result.now c.reserve.new.self
    (ap (λ i. slice_set books i c.reserve.new.self) c.from.ensures) refl refl refl refl refl within
    (book_at books c.from.result c.args.file _ c.from.ensures within c.index_mut.ensures.value)
    (room_taken c.index_mut.result.now c.reserve.new.self c.args.owner c.reserve.result c.reserve.ensures.ok c.reserve.ensures.kept c.reserve.ensures.err)

pub returns-clause-locks : goal.returns-clause-locks
unfolding machine_locks
returns-clause-locks c =
    let books = c.args.self.now.books.items in
    let within : c.args.file < length books = omega arith in
    let keeps = room_taken c.index_mut.result.now c.reserve.new.self c.args.owner c.reserve.result c.reserve.ensures.ok c.reserve.ensures.kept c.reserve.ensures.err in
    ap (λ i. locks_of (slice_set books i c.reserve.new.self)) c.from.ensures
    ∙ locks_stay books c.args.file c.index_mut.result.now c.reserve.new.self within
    (book_at books c.from.result c.args.file _ c.from.ensures within c.index_mut.ensures.value) keeps.bytes keeps.flocks

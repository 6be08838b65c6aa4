use Rattle.lock_manager.proofs.Common.{◌≡◌, ◌<◌, ◌∙◌, length, get_or, take, sym, subst, arith, refl, slice_set, OFFMAX, Locks, locks_of, IsFreeOfCycles, waits_of, AreTold, Process, whole_file, ReleasesLocks, AreBlockedElsewhere}
use Rattle.std.proofs.Common.{take_all}
use Rattle.wait_core.specs.WaitsView.{AgreeButOwner}
use Rattle.lock_manager.proofs.kept.BookLemmas.{book_at}
use Rattle.lock_manager.proofs.kept.ReleaseLemmas.{released_file, released_room}
use Rattle.lock_manager.proofs.kept.KeptLemmas.{off_whole, process_alone, stays_known}
use Rattle.wait_core.specs.Settled.{AgreeOff}
use Rattle.lock_manager.proofs.kept.WaitCloseLemmas.{free_released}
use Rattle.lock_manager.proofs.lock_releases.release.Goals as goal

pub loop-file-preserved : goal.loop-file-preserved
loop-file-preserved c =
    let books = c.loop-file.books.items in
    let files = c.args.files.now in
    let file = c.from.result in
    let i = c.loop-file.file-index in
    let inside : i < length files = omega arith in
    let is : get_or files i 0 ≡ file = sym c.from.ensures in
    let within : file < length books = omega (arith, c.requires.in_range i 0) in
    let was = book_at books file file c.index_mut.result.now refl within c.index_mut.ensures.value in
    let before = c.loop-file.invariant in (
      before.0,
      released_file c.args.books.now.items books c.index_mut.result.now c.release_in.new.book c.args.p files c.args.descriptions.now i 0 file inside is within was before.1 c.release_in.ensures,
      released_room c.args.books.now.items books c.index_mut.result.now c.release_in.new.book c.args.p files c.args.descriptions.now i 0 file inside is within was before.2 c.release_in.ensures,
      record {
        waits = c.refresh_owner.ensures.waits ∙ before.3.waits;
        policy = c.refresh_owner.ensures.policy ∙ before.3.policy;
        processes = c.refresh_owner.ensures.processes ∙ before.3.processes;
      },
      (let now = stays_known c.loop-file.waits c.refresh_owner.new.self books (slice_set books file c.release_in.new.book) c.deref.result.now file (Process c.args.p) (record { first = 0; last = OFFMAX }) c.deref.ensures.value (omega arith)
          (subst (λ f. (locks : Locks) → AreTold c.loop-file.waits locks → AgreeButOwner f (Process c.args.p) (record { first = 0; last = OFFMAX }) locks (locks_of c.deref.result.now) → AreTold c.refresh_owner.new.self (locks_of c.deref.result.now)) (sym c.from.ensures) c.refresh_owner.ensures.told)
          (subst (λ f. f < 64 → (locks : Locks) → AreBlockedElsewhere c.loop-file.waits locks → AgreeOff f whole_file locks (locks_of c.deref.result.now) → AreBlockedElsewhere c.refresh_owner.new.self (locks_of c.deref.result.now)) (sym c.from.ensures) c.refresh_owner.ensures.blocked)
          (off_whole books file c.release_in.new.book)
          (process_alone books file c.index_mut.result.now c.release_in.new.book c.args.p c.args.descriptions.now within was c.release_in.ensures) in
          record { told = λ was. now.told (before.4.told was); blocked = λ was. now.blocked (before.4.blocked was) }),
    )

pub returns-clause-free : goal.returns-clause-free
returns-clause-free c policy others free =
    let files = c.args.files.now in
    let descriptions = c.args.descriptions.now in
    let old = locks_of c.args.books.now.items in
    let new = locks_of c.loop-file.books.items in
    let all : take c.loop-file.file-index files ≡ files = take_all c.loop-file.file-index files (omega (arith, c.loop-file-test.false)) in
    let laws = c.stay_free_of_cycles.ensures in
    let before = c.loop-file.invariant in
    subst (IsFreeOfCycles policy new) (sym before.3.waits)
    (free_released laws.locks_change laws.description_locks_change policy old new (waits_of c.args.waits.now) c.args.p files descriptions
    (subst (λ fs. ReleasesLocks old new c.args.p fs descriptions) all before.1) others free)

use Rattle.lock_manager.proofs.Common.{refl, ◌≡◌, ◌<◌, sym, ◌∙◌, ap, subst, length, Some, Ok, arith, true, slice_get, slice_set, same_Some, MayLock, ByteConflict, IsBlockedIn, locks_of, waits_of, with_process, without_wait, Live, AreApart, IsSuspended, HaveRoom, has_place_at, machine_locks, machine_state, machine_waits, machine_rules, machine_processes}
use Rattle.lock_manager.proofs.kept.BookLemmas.{book_at}
use Rattle.lock_manager.proofs.kept.GrantLemmas.{room_for_grant, room_granted, may_lock_granted, owner_granted, shows_granted}
use Rattle.lock_manager.proofs.calls.ProcessCallLemmas.{found_holds}
use Rattle.lock_manager.proofs.kept.KeptLemmas.{kept_in_room, stays_known}
use Rattle.lock_manager.proofs.kept.NextStateLemmas.{with_change}
use Rattle.lock_manager.proofs.kept.WaitLemmas.{places_kept}
use Rattle.lock_manager.proofs.machine.Machine.grant_bytes.Goals as goal

pub interrupt-requires : goal.interrupt-requires
unfolding machine_state machine_waits
interrupt-requires c =
    let machine = c.args.self.now in
    (found_holds (IsSuspended machine.tables machine.states.items) (waits_of machine.waits) c.args.wait.p c.args.wait c.requires.grantable.waits machine.standing.suspended).waiting

pub set_reserved-requires-clause-room : goal.set_reserved-requires-clause-room
unfolding machine_waits
set_reserved-requires-clause-room c =
    let machine = c.args.self.now in
    let books = c.interrupt.new.self.books.items in
    let within : c.args.wait.file < length books = (let few = c.requires.grantable.well_formed.file in omega arith) in
    let was = book_at books c.from.result c.args.wait.file c.index_mut-book.result.now c.from.ensures within c.index_mut-book.ensures.value in
    room_for_grant books (waits_of machine.waits) c.args.wait c.index_mut-book.result.now c.requires.grantable.waits c.requires.family was
    (subst (λ bs. HaveRoom bs (waits_of machine.waits)) (ap (λ bs. bs.items) (sym c.interrupt.ensures.books)) machine.kept.room)

pub invariant_of-self-clause-kept : goal.invariant_of-self-clause-kept
unfolding machine_locks machine_state machine_waits
invariant_of-self-clause-kept c =
    let machine = c.interrupt.new.self in
    let books = machine.books.items in
    let wait = c.args.wait in
    let before = waits_of c.args.self.now.waits in
    let within : wait.file < length books = (let few = c.requires.grantable.well_formed.file in omega arith) in
    let was = book_at books c.from.result wait.file c.index_mut-book.result.now c.from.ensures within c.index_mut-book.ensures.value in
    let is = ap (λ i. slice_set books i c.set_reserved.new.self) c.from.ensures in
    let same_books : machine.books.items ≡ c.args.self.now.books.items = ap (λ bs. bs.items) c.interrupt.ensures.books in
    let room : HaveRoom (slice_set books wait.file c.set_reserved.new.self) (waits_of machine.waits) =
    subst (HaveRoom (slice_set books wait.file c.set_reserved.new.self)) (sym c.interrupt.ensures.waits)
    (room_granted books before wait c.index_mut-book.result.now c.set_reserved.new.self c.requires.grantable.waits c.requires.family within was c.set_reserved.ensures.sets c.set_reserved.ensures.room
    (subst (λ bs. HaveRoom bs before) (sym same_books) c.args.self.now.kept.room)) in
    let free : ¬ ByteConflict ((locks_of books).bytes wait.file) wait.owner wait.span wait.mode =
    subst (λ bs. ¬ ByteConflict ((locks_of bs).bytes wait.file) wait.owner wait.span wait.mode) (sym same_books)
    (subst (λ f. ¬ IsBlockedIn f (machine_locks c.args.self.now) wait) c.requires.family c.requires.grantable.free) in
    let tables : c.args.self.now.tables ≡ machine.tables = sym c.interrupt.ensures.tables in
    let laws = c.stay_free_of_cycles.ensures in
    kept_in_room laws.locks_change laws.description_locks_change machine (slice_set books c.from.result c.set_reserved.new.self) c.refresh_owner.new.self
    wait.file c.index_mut-book.result.now c.set_reserved.new.self wait.owner wait.span (Some wait.mode) (Ok tt) is within was
    (subst (λ t. MayLock t wait.file wait.owner) tables (may_lock_granted c.args.self.now.tables (locks_of c.args.self.now.books.items) before wait c.args.self.now.kept.owned c.requires.grantable.waits))
    c.requires.grantable.well_formed.range
    (λ q e. subst (λ p. machine_state machine p ≡ Live) (sym (owner_granted c.args.self.now.tables (locks_of c.args.self.now.books.items) before wait c.args.self.now.kept.owned c.requires.grantable.waits q e)) c.interrupt.ensures.live)
    (λ k e. subst (λ m. ¬ ByteConflict ((locks_of books).bytes wait.file) wait.owner wait.span m) (same_Some wait.mode k e) free)
    c.set_reserved.ensures.sets room tt
    (record { waits = c.refresh_owner.ensures.waits; policy = c.refresh_owner.ensures.policy; processes = c.refresh_owner.ensures.processes })
    (λ agree alone. stays_known machine.waits c.refresh_owner.new.self books (slice_set books c.from.result c.set_reserved.new.self) c.deref.result.now wait.file wait.owner wait.span c.deref.ensures.value c.requires.grantable.well_formed.file
    c.refresh_owner.ensures.told c.refresh_owner.ensures.blocked agree alone)

pub returns : goal.returns
unfolding machine_waits machine_state machine_rules machine_processes
returns c =
    let machine = c.interrupt.new.self in
    let books = machine.books.items in
    let wait = c.args.wait in
    let within : wait.file < length books = (let few = c.requires.grantable.well_formed.file in omega arith) in
    let was = book_at books c.from.result wait.file c.index_mut-book.result.now c.from.ensures within c.index_mut-book.ensures.value in
    record {
      shows = λ S before after h place.
          shows_granted _ S before wait after c.requires.family (subst AreApart h.waits c.args.self.now.kept.apart) place
          (with_change machine _ (with_process (without_wait S wait.p) wait.p Live) wait.file c.index_mut-book.result.now c.set_reserved.new.self wait.owner wait.span (Some wait.mode)
          (ap (λ i. slice_set books i c.set_reserved.new.self) c.from.ensures) refl refl within was c.set_reserved.ensures.sets c.refresh_owner.ensures.waits
          (c.interrupt.ensures.shows S h));
      fewer = rw c.refresh_owner.ensures.waits c.interrupt.ensures.fewer;
      lives = λ q live. c.interrupt.ensures.others q live;
      places = λ f d there.
          subst (λ i. has_place_at (slice_get (slice_set books i c.set_reserved.new.self) f) d ≡ true) (sym c.from.ensures)
          (places_kept books wait.file c.index_mut-book.result.now c.set_reserved.new.self within was (λ k is. c.set_reserved.ensures.sets.places k ∙ is) f d
          (subst (λ bs. has_place_at (slice_get bs f) d ≡ true) (ap (λ bs. bs.items) (sym c.interrupt.ensures.books)) there));
      tables = c.interrupt.ensures.tables;
      same_rules = record { rules = c.interrupt.ensures.same_rules.rules; processes = c.interrupt.ensures.same_rules.processes };
    }

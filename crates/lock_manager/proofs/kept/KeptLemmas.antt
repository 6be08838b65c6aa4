-- What holds of the machine at every moment, after a change of one book and after a release: for `Machine::change`, `Machine::close_fd`,
-- `Machine::dup_to` and others.
use Rattle.lock_manager.proofs.Common.{common_steps, ℕ, ◌≡◌, ◌≢◌, ◌<◌, ◌≤◌, refl, sym, arith, ◌∙◌, subst, List, length, Some, Option, All, Result, OnOk, OnErr, ◌==◌, ◌&&◌, if◌then◌else◌, slice_get, slice_set, ∥∥₁_map, cases_Bool, eqb-true, nat_tests}
use Rattle.lock_manager.proofs.Common.{Memory, Mode, Span, OFFMAX, Covers, Owner, Process, Book, is_same_owner, whole_file, SetsOwnerMode, SameBook, room_in, is_covered, ByteConflict, Tables, Released, Descriptors, StandFor, Policy, Waits, Locks, locks_of, IsFreeOfCycles, waits_of, AreTold, AreBlockedElsewhere, FreeWhenLocksChange, FreeWhenDescriptionLocksChange, Machine, Live, state_numbered, AreOwned, MayLock, ReleasesInBook, ReleasesLocks, ReleasesRoom, AreKept, AreApart, HaveRoom, SameWaits, StayKnown}
use Rattle.std.proofs.lemmas.Bool.{cases_eq}
use Rattle.range_core.specs.Ranges.{IsByteRange}
use Rattle.wait_core.specs.WaitsView.{AgreeButOwner}
use Rattle.wait_core.specs.Settled.{AgreeOff}
use Rattle.lock_manager.proofs.kept.BookLemmas.{after_set, slice_get-set_same, slice_get-set_other}
use Rattle.lock_manager.proofs.kept.SafetyLemmas.{compatible_after, hit, same_owner}
use Rattle.lock_manager.proofs.kept.OwnedLemmas.{owned_set, within_files_set}
use Rattle.lock_manager.proofs.kept.ClosingLemmas.{Closing}
use Rattle.lock_manager.proofs.kept.AfterCloseLemmas.{compatible_released, owned_released, within_released}
use Rattle.lock_manager.proofs.kept.WaitLemmas.{waits_of_others, not_owned_by, agree_elsewhere, free_after, room_after}
use Rattle.lock_manager.proofs.kept.WaitCloseLemmas.{none_of_released, room_released}

-- a set by the owner changes no other traditional lock, nor one of its own on other bytes
set_apart : (file f q byte : ℕ) (owner : Owner) (span : Span) (mode before : Option Mode) → ¬ ((f ≡ file) × (Process q ≡ owner) × Covers span byte)
    → (if (file == f) && is_same_owner owner (Process q) && is_covered span byte then mode else before) ≡ before
set_apart file f q byte owner span mode before apart = grind (arith, common_steps, cases_Bool, eqb-true, same_owner, nat_tests)

pub owner_alone : (books : List Book) (file : ℕ) (old new : Book) (owner : Owner) (span : Span) (mode : Option Mode) (result : Result (Unit {0}) Memory)
    → file < length books → slice_get books file ≡ Some old → OnOk result (SetsOwnerMode old new owner span mode) → OnErr result (SameBook old new)
    → AgreeButOwner file owner span (locks_of books) (locks_of (slice_set books file new))
owner_alone books file old new owner span mode result within was sets same =
    after_set (λ locks. AgreeButOwner file owner span (locks_of books) locks) books file old new owner span mode result within was sets same
    (λ bytes flocks f q byte few apart. bytes f (Process q) byte ∙ set_apart file f q byte owner span mode ((locks_of books).bytes f (Process q) byte) apart)
    (λ bytes flocks f q byte few apart. bytes f (Process q) byte)

-- nor does a release of what the process closed
pub process_alone : (books : List Book) (file : ℕ) (old new : Book) (p : ℕ) (descriptions : List ℕ) → file < length books → slice_get books file ≡ Some old
    → ReleasesInBook old new p descriptions
    → AgreeButOwner file (Process p) (record { first = 0; last = OFFMAX }) (locks_of books) (locks_of (slice_set books file new))
process_alone books file old new p descriptions within was releases f q byte few apart =
    grind (arith, common_steps, cases_eq, cases_Bool, eqb-true, slice_get-set_same, slice_get-set_other)

-- a set on these bytes changes no others of the file
set_off : (file byte : ℕ) (owner other : Owner) (span : Span) (mode before : Option Mode) → ¬ Covers span byte
    → (if (file == file) && is_same_owner owner other && is_covered span byte then mode else before) ≡ before
set_off file byte owner other span mode before off = grind (arith, common_steps, cases_Bool, hit)

-- so all locks off these bytes stay
pub off_after : (books : List Book) (file : ℕ) (old new : Book) (owner : Owner) (span : Span) (mode : Option Mode) (result : Result (Unit {0}) Memory)
    → file < length books → slice_get books file ≡ Some old → OnOk result (SetsOwnerMode old new owner span mode) → OnErr result (SameBook old new)
    → AgreeOff file span (locks_of books) (locks_of (slice_set books file new))
off_after books file old new owner span mode result within was sets same =
    after_set (λ locks. AgreeOff file span (locks_of books) locks) books file old new owner span mode result within was sets same
    (λ bytes flocks. record {
      elsewhere = agree_elsewhere books file new;
      bytes = λ o byte few off. bytes file o byte ∙ set_off file byte owner o span mode ((locks_of books).bytes file o byte) off;
      flocks = λ part d. flocks file d;
    })
    (λ bytes flocks. record {
      elsewhere = agree_elsewhere books file new;
      bytes = λ o byte few off. bytes file o byte;
      flocks = λ part d. flocks file d;
    })

-- a change of any locks of one file is on its bytes
pub off_whole : (books : List Book) (file : ℕ) (new : Book) → AgreeOff file whole_file (locks_of books) (locks_of (slice_set books file new))
off_whole books file new = record {
  elsewhere = agree_elsewhere books file new;
  bytes = λ owner byte few off. absurd (off (omega arith, few));
  flocks = λ part description. absurd (part refl);
}

-- what a refresh of the owner's pairs on these bytes leaves of what was known, where these are the books that it is told
pub stays_known : (old new : Waits) (before after told_books : List Book) (file : ℕ) (owner : Owner) (span : Span) → told_books ≡ after → file < 64
    → ((locks : Locks) → AreTold old locks → AgreeButOwner file owner span locks (locks_of told_books) → AreTold new (locks_of told_books))
    → (file < 64 → (locks : Locks) → AreBlockedElsewhere old locks → AgreeOff file span locks (locks_of told_books)
    → AreBlockedElsewhere new (locks_of told_books))
    → AgreeOff file span (locks_of before) (locks_of after) → AgreeButOwner file owner span (locks_of before) (locks_of after)
    → StayKnown old new (locks_of before) (locks_of after)
stays_known old new before after told_books file owner span is within told blocked agree alone = grind (arith, common_steps)

-- it holds after a change of one book by an owner that doesn't wait, which nothing blocks, refused or not, where there is room for
-- the waits
pub kept_in_room : FreeWhenLocksChange → FreeWhenDescriptionLocksChange
    → (m : Machine) (books : List Book) (waits : Waits) (file : ℕ) (old new : Book) (owner : Owner) (span : Span) (mode : Option Mode)
    (result : Result (Unit {0}) Memory)
    → books ≡ slice_set m.books.items file new → file < length m.books.items → slice_get m.books.items file ≡ Some old
    → MayLock m.tables file owner → IsByteRange span → ((p : ℕ) → owner ≡ Process p → state_numbered m.states.items p ≡ Live)
    → ((k : Mode) → mode ≡ Some k → ¬ ByteConflict ((locks_of m.books.items).bytes file) owner span k)
    → OnOk result (SetsOwnerMode old new owner span mode) → HaveRoom (slice_set m.books.items file new) (waits_of m.waits) → OnErr result (SameBook old new)
    → SameWaits m.waits waits
    → (AgreeOff file span (locks_of m.books.items) (locks_of books) → AgreeButOwner file owner span (locks_of m.books.items) (locks_of books)
    → StayKnown m.waits waits (locks_of m.books.items) (locks_of books))
    → AreKept m.rules.policy m.tables books waits
kept_in_room one all m books waits file old new owner span mode result is within was may range live free sets room same waits_same known =
    let before = m.books.items in
    let after = slice_set before file new in
    let list = waits_of m.waits in
    let still : StayKnown m.waits waits (locks_of before) (locks_of after) = subst (λ bs. StayKnown m.waits waits (locks_of before) (locks_of bs)) is
    (known (subst (λ bs. AgreeOff file span (locks_of before) (locks_of bs)) (sym is)
    (off_after before file old new owner span mode result within was sets same))
    (subst (λ bs. AgreeButOwner file owner span (locks_of before) (locks_of bs)) (sym is)
    (owner_alone before file old new owner span mode result within was sets same))) in
    let idle : (p : ℕ) → owner ≡ Process p → All (λ wait. wait.owner ≢ Process p) list =
    λ p e. not_owned_by m.tables (locks_of before) list p m.kept.owned (waits_of_others m.tables m.states.items list p m.standing.suspended (live p e)) in
    subst (λ bs. AreKept m.rules.policy m.tables bs waits) (sym is) (record {
      compatible = compatible_after before file old new owner span mode result within was free sets same m.kept.compatible;
      owned = subst (AreOwned m.tables (locks_of after)) (sym waits_same.waits)
          (owned_set m.tables list before file old new owner span mode result within was may sets same m.kept.owned);
      within = within_files_set before file old new owner span mode result within was range sets same m.kept.within;
      told = ∥∥₁_map m.kept.told still.told;
      blocked = ∥∥₁_map m.kept.blocked still.blocked;
      apart = subst AreApart (sym waits_same.waits) m.kept.apart;
      room = subst (HaveRoom after) (sym waits_same.waits) room;
      free_of_cycles = subst (IsFreeOfCycles m.rules.policy (locks_of after)) (sym waits_same.waits)
          (free_after one all m.rules.policy list before file old new owner span mode result within was idle sets same m.kept.free_of_cycles);
    })

-- so it does where the change takes no room
pub kept_by_change : FreeWhenLocksChange → FreeWhenDescriptionLocksChange
    → (m : Machine) (books : List Book) (waits : Waits) (file : ℕ) (old new : Book) (owner : Owner) (span : Span) (mode : Option Mode)
    (result : Result (Unit {0}) Memory)
    → books ≡ slice_set m.books.items file new → file < length m.books.items → slice_get m.books.items file ≡ Some old
    → MayLock m.tables file owner → IsByteRange span → ((p : ℕ) → owner ≡ Process p → state_numbered m.states.items p ≡ Live)
    → ((k : Mode) → mode ≡ Some k → ¬ ByteConflict ((locks_of m.books.items).bytes file) owner span k)
    → OnOk result (SetsOwnerMode old new owner span mode) → OnOk result (room_in old owner ≤ room_in new owner) → OnErr result (SameBook old new)
    → SameWaits m.waits waits
    → (AgreeOff file span (locks_of m.books.items) (locks_of books) → AgreeButOwner file owner span (locks_of m.books.items) (locks_of books)
    → StayKnown m.waits waits (locks_of m.books.items) (locks_of books))
    → AreKept m.rules.policy m.tables books waits
kept_by_change one all m books waits file old new owner span mode result is within was may range live free sets kept same waits_same known =
    kept_in_room one all m books waits file old new owner span mode result is within was may range live free sets
    (room_after (waits_of m.waits) m.books.items file old new owner span mode result within was sets kept same m.kept.room) same waits_same known

-- and after a release of what a live process closed
pub kept_by_release : (m : Machine) (tables : Tables) (books : List Book) (waits : Waits) (p : ℕ) (released : Released)
    → state_numbered m.states.items p ≡ Live
    → ((D : Descriptors) → StandFor m.tables D → (E : Descriptors) × Closing D E p released × StandFor tables E)
    → ReleasesLocks (locks_of m.books.items) (locks_of books) p released.files released.descriptions
    → ReleasesRoom m.books.items books p released.files released.descriptions
    → SameWaits m.waits waits → StayKnown m.waits waits (locks_of m.books.items) (locks_of books)
    → ((policy : Policy) → All (λ wait. wait.owner ≢ Process p) (waits_of m.waits) → IsFreeOfCycles policy (locks_of m.books.items) (waits_of m.waits)
    → IsFreeOfCycles policy (locks_of books) (waits_of waits))
    → AreKept m.rules.policy tables books waits
kept_by_release m tables books waits p released live call locks room same known free =
    let old = locks_of m.books.items in
    let new = locks_of books in
    let list = waits_of m.waits in
    let others : All (λ wait. wait.p ≢ p) list = waits_of_others m.tables m.states.items list p m.standing.suspended live in
    record {
      compatible = compatible_released old new p released.files released.descriptions locks m.kept.compatible;
      owned = subst (AreOwned tables new) (sym same.waits) (owned_released m.tables tables old new list p released call locks others m.kept.owned);
      within = within_released old new p released.files released.descriptions locks m.kept.within;
      told = ∥∥₁_map m.kept.told known.told;
      blocked = ∥∥₁_map m.kept.blocked known.blocked;
      apart = subst AreApart (sym same.waits) m.kept.apart;
      room = subst (HaveRoom books) (sym same.waits)
          (room_released m.books.items books list p released.files released.descriptions room (none_of_released m.tables tables old list p released call others m.kept.owned) m.kept.room);
      free_of_cycles = free m.rules.policy (not_owned_by m.tables old list p m.kept.owned others) m.kept.free_of_cycles;
    }

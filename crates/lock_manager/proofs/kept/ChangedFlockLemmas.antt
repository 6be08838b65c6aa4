-- What holds of the machine after a change of one flock lock: for `Machine::begin_flock`, `Machine::change_flock`, `Machine::place_flock` and
-- `Machine::test_flock`.
use Rattle.lock_manager.proofs.Common.{common_steps, ℕ, ◌≡◌, ◌<◌, ◌≤◌, ◌⊎◌, inl, inr, refl, sym, ◌∙◌, subst, List, [], ◌∷◌, ◌++◌, length, Some, None, Option, Bool, true, false, arith, Result, Ok, Err, OnOk, OnErr, slice_get, slice_set, ◌==◌, ◌&&◌, if◌then◌else◌, ∥∥₁_map, ∥∥₁_elim, eqb-true, and_parts, eqb_tells}
use Rattle.lock_manager.proofs.Common.{Memory, Mode, Read, Write, HeldConflicts, Owner, Process, Description, Book, flock_modes_of, room_in, SameBook, FlockChange, flock_mode_from, FlockModes, Tables, Wait, Waits, Look, wanted_flock, Locks, locks_of, flock_modes_at, IsFreeOfCycles, IsBlockedIn, AreBlockedElsewhere, waits_of, AreTold, FreeWhenDescriptionLocksChange, Machine, State, with_flock_mode, AreCompatible, IsOpenOn, AreOwned, MayLock, Shows, machine_locks, machine_state, machine_waits, AreKept, AreApart, HaveRoom, has_place_at, SameWaits, Bytes, Whole}
use Rattle.std.proofs.lemmas.Bool.{or_right}
use Rattle.lock_book.specs.Books.{has_flock_place, SetsFlock, ReservesFlock}
use Rattle.lock_book.specs.Conflicts.{FlockConflict}
use Rattle.wait_core.specs.WellFormed.{IsWellFormed}
use Rattle.lock_manager.specs.WaitsKept.{FreesNobody, StayBlocked}
use Rattle.lock_manager.proofs.kept.BookLemmas.{slice_get-set, slice_get-set_same, entry_is, same_bytes, flock_mode_from-append}
use Rattle.lock_manager.proofs.kept.SafetyLemmas.{none_conflict_after, none_conflict_fewer, same_owner}
use Rattle.lock_manager.proofs.kept.OwnedLemmas.{none_but_set}
use Rattle.lock_manager.proofs.kept.WaitLemmas.{told_by_bytes, room_with, same_room, KeepsLocks, keeps_same, elsewhere_still}
use Rattle.lock_manager.proofs.kept.SuspendLemmas.{counted, kept_by_book}
use Rattle.std.proofs.lemmas.List.Folds.{list_any-append}
use Rattle.wait_core.specs.declared.Family.{Family}

-- all byte locks stay
flock_set_bytes : (books : List Book) (file : ℕ) (old new : Book) (description : ℕ) (mode : Option Mode)
    → file < length books → slice_get books file ≡ Some old → SetsFlock old new description mode
    → (f : ℕ) (o : Owner) (byte : ℕ) → (locks_of (slice_set books file new)).bytes f o byte ≡ (locks_of books).bytes f o byte
flock_set_bytes books file old new description mode within was sets f o byte =
    same_bytes books file old new within was sets.bytes f o byte

-- and of the flock locks all but the one
flock_set_flocks : (books : List Book) (file : ℕ) (old new : Book) (description : ℕ) (mode : Option Mode)
    → file < length books → slice_get books file ≡ Some old → SetsFlock old new description mode
    → (f d : ℕ) → (locks_of (slice_set books file new)).flocks f d ≡ (if (file == f) && (description == d) then mode else (locks_of books).flocks f d)
flock_set_flocks books file old new description mode within was sets f d = grind (arith, common_steps, slice_get-set, entry_is)

-- one more change counts where it is of this description on this file
flock_mode_from-push : (before : Option Mode) (changes : List FlockChange) (change : FlockChange) (file description : ℕ)
    → flock_mode_from before (changes ++ change ∷ []) file description
    ≡ (if (change.file == file) && (change.description == description) then change.mode else flock_mode_from before changes file description)
flock_mode_from-push before changes change file description = flock_mode_from-append before changes (change ∷ []) file description

-- the file and the description that a change is of
is_of : (file description f d : ℕ) → ((file == f) && (description == d)) ≡ true → (file ≡ f) × (description ≡ d)
is_of file description f d e = grind (arith, common_steps, and_parts, eqb-true)

-- a change of a flock lock that nothing blocks makes no conflict
compatible_flock : (old new : Locks) (file description : ℕ) (mode : Option Mode) → AreCompatible old
    → ((m : Mode) → mode ≡ Some m → ¬ FlockConflict (old.flocks file) (Description description) m)
    → ((f : ℕ) (o : Owner) (byte : ℕ) → new.bytes f o byte ≡ old.bytes f o byte)
    → ((f d : ℕ) → new.flocks f d ≡ (if (file == f) && (description == d) then mode else old.flocks f d)) → AreCompatible new
compatible_flock old new file description mode before free bytes flocks f = record {
  bytes = λ byte. none_conflict_fewer (λ o. old.bytes f o byte) (λ o. new.bytes f o byte) ((before f).bytes byte) (λ o m is. sym (bytes f o byte) ∙ is);
  flocks = none_conflict_after (old.flocks f) (new.flocks f) (λ d. (file == f) && (description == d)) mode (before f).flocks
      (λ one other here there. sym (is_of file description f one here).1 ∙ (is_of file description f other there).1)
      (λ one other m here distinct m_is conflicts. (let is = is_of file description f one here in
      free m m_is (record {
        description = other;
        another = λ e. (let same : other ≡ description = cc in distinct (sym is.1 ∙ sym same));
        conflicts = subst (λ (g : ℕ). HeldConflicts (old.flocks g other) m) (sym is.0) conflicts;
      })))
      (flocks f);
}

-- the description that has it is open
owned_flock : (tables : Tables) (waits : List Wait) (old new : Locks) (file description : ℕ) (mode : Option Mode)
    → MayLock tables file (Description description)
    → ((f : ℕ) (o : Owner) (byte : ℕ) → new.bytes f o byte ≡ old.bytes f o byte)
    → ((f d : ℕ) → new.flocks f d ≡ (if (file == f) && (description == d) then mode else old.flocks f d))
    → AreOwned tables old waits → AreOwned tables new waits
owned_flock tables waits old new file description mode may bytes flocks owned =
    ∥∥₁_map owned (λ given. (
      given.0,
      given.1,
      record {
        bytes = λ f d closed byte. bytes f (Description d) byte ∙ given.2.bytes f d closed byte;
        flocks = λ f d closed. flocks f d
            ∙ none_but_set ((file == f) && (description == d)) mode (old.flocks f d)
            (λ e. let at = is_of file description f d e in
            ∥∥₁_elim (may given.0 given.1) (λ x y. absurd x)
            (λ is_open. closed (subst (λ g. IsOpenOn given.0 g d) at.0 (subst (λ k. IsOpenOn given.0 file k) at.1 is_open))))
            (given.2.flocks f d closed);
      },
      given.3,
    ))

-- a place that is kept is kept on
pub flock_place_kept : (old new : Book) (description : ℕ) (mode : Option Mode) → SetsFlock old new description mode → (d : ℕ)
    → has_flock_place old d ≡ true → has_flock_place new d ≡ true
flock_place_kept old new description mode sets d there = sets.places d ∙ or_right _ (has_flock_place old d) there

-- what holds of the machine holds after a change of a flock lock that nothing blocks
pub kept_by_flock : FreeWhenDescriptionLocksChange
    → (m : Machine) (books : List Book) (waits : Waits) (file : ℕ) (old new : Book) (description : ℕ) (mode : Option Mode)
    → books ≡ slice_set m.books.items file new → file < length m.books.items → slice_get m.books.items file ≡ Some old
    → MayLock m.tables file (Description description)
    → ((k : Mode) → mode ≡ Some k → ¬ FlockConflict ((locks_of m.books.items).flocks file) (Description description) k)
    → SetsFlock old new description mode → SameWaits m.waits waits → ((locks : Locks) → AreTold m.waits locks → AreTold waits locks)
    → (AreBlockedElsewhere m.waits (locks_of m.books.items) → AreBlockedElsewhere waits (locks_of (slice_set m.books.items file new)))
    → AreKept m.rules.policy m.tables books waits
kept_by_flock all m books waits file old new description mode is within was may free sets waits_same told blocked =
    let before = m.books.items in
    let after = slice_set before file new in
    let list = waits_of m.waits in
    let bytes = flock_set_bytes before file old new description mode within was sets in
    let flocks = flock_set_flocks before file old new description mode within was sets in
    subst (λ bs. AreKept m.rules.policy m.tables bs waits) (sym is) (record {
      compatible = compatible_flock (locks_of before) (locks_of after) file description mode m.kept.compatible free bytes flocks;
      owned = subst (AreOwned m.tables (locks_of after)) (sym waits_same.waits)
          (owned_flock m.tables list (locks_of before) (locks_of after) file description mode may bytes flocks m.kept.owned);
      within = λ f o byte past. bytes f o byte ∙ m.kept.within f o byte past;
      told = ∥∥₁_map m.kept.told (λ known. told (locks_of after) (told_by_bytes m.waits (locks_of before) (locks_of after) bytes known));
      blocked = ∥∥₁_map m.kept.blocked blocked;
      apart = subst AreApart (sym waits_same.waits) m.kept.apart;
      room = subst (HaveRoom after) (sym waits_same.waits)
          (room_with before list file old new within was (λ o. same_room (room_in old o) (room_in new o) (sets.rooms o))
          (flock_place_kept old new description mode sets) m.kept.room);
      free_of_cycles = subst (IsFreeOfCycles m.rules.policy (locks_of after)) (sym waits_same.waits)
          (all m.rules.policy (locks_of before) (locks_of after) list m.kept.free_of_cycles (λ f q byte. bytes f (Process q) byte));
    })

-- the machine shows the state with the changed flock lock
pub with_flock_change : (old new : Machine) (S : State) (file : ℕ) (book changed : Book) (description : ℕ) (mode : Option Mode)
    → new.books.items ≡ slice_set old.books.items file changed → new.tables ≡ old.tables → new.states ≡ old.states
    → file < length old.books.items → slice_get old.books.items file ≡ Some book → SetsFlock book changed description mode
    → waits_of new.waits ≡ waits_of old.waits
    → Shows old S → Shows new (with_flock_mode S file description mode)
unfolding machine_locks machine_state machine_waits
with_flock_change old new S file book changed description mode books tables states within was sets waits h =
    grind (arith, common_steps, flock_set_bytes, flock_set_flocks, flock_mode_from-push)

-- of one mode there is one
some_same : (mode k : Mode) → Some mode ≡ Some k → mode ≡ k
some_same mode k same = grind (arith, common_steps)

-- a lock that conflicts still stands where what changes didn't conflict
conflict_still : (is_it : Bool) (mode held : Option Mode) (wanted : Mode) → (is_it ≡ true → ¬ HeldConflicts held wanted) → HeldConflicts held wanted
    → HeldConflicts (if is_it then mode else held) wanted
conflict_still true mode held wanted harmless conflict = absurd (harmless refl conflict)
conflict_still false mode held wanted harmless conflict = conflict

-- a shared lock, or none, keeps nobody from a shared one
keeps_no_reader : (had : Option Mode) → (had ≡ None) ⊎ (had ≡ Some Read) → ¬ HeldConflicts had Read
keeps_no_reader None one conflict = conflict
keeps_no_reader (Some Read) one conflict = conflict
keeps_no_reader (Some Write) one conflict = elim one [ inl none ↦ absurd (cc) | inr shared ↦ absurd (cc) ]

-- where each description is kept from a lock by another one's, each owner is
kept_from : (modes : FlockModes) (wanted : Mode) → ((description : ℕ) → FlockConflict modes (Description description) wanted) → (owner : Owner)
    → FlockConflict modes owner wanted
kept_from modes wanted all (Description description) = all description
kept_from modes wanted all (Process p) = record { description = (all 0).description; another = λ same. absurd (cc); conflicts = (all 0).conflicts }

-- where a change of a flock lock frees nobody, whoever was blocked stays so
pub flock_frees_none : (books : List Book) (file : ℕ) (old new : Book) (description : ℕ) (mode : Option Mode)
    → file < length books → slice_get books file ≡ Some old → SetsFlock old new description mode → FreesNobody new (flock_modes_of old description)
    → StayBlocked (locks_of books) (locks_of (slice_set books file new))
flock_frees_none books file old new description mode within was sets frees wait blocked = of_family wait.family blocked
  where
    before : Locks
    before = locks_of books

    after : Locks
    after = locks_of (slice_set books file new)

    held : ℕ → ℕ → Option Mode
    held f d = flock_modes_at (slice_get books f) d

    there : held file description ≡ flock_modes_of old description
    there = rw was refl

    still : (wanted : Mode) → FlockConflict (before.flocks wait.file) wait.owner wanted
        → (file ≡ wait.file → ¬ HeldConflicts (flock_modes_of old description) wanted) → FlockConflict (after.flocks wait.file) wait.owner wanted
    still wanted h harmless = record {
      description = h.description;
      another = h.another;
      conflicts = subst (λ m. HeldConflicts m wanted) (sym (flock_set_flocks books file old new description mode within was sets wait.file h.description))
          (conflict_still ((file == wait.file) && (description == h.description)) mode (held wait.file h.description) wanted
          (λ is conflict. let is_both = is_of file description wait.file h.description is in
          harmless is_both.0 (subst (λ m. HeldConflicts m wanted) there
          (subst (λ (n : ℕ). HeldConflicts (held n description) wanted) (sym is_both.0)
          (subst (λ (n : ℕ). HeldConflicts (held wait.file n) wanted) (sym is_both.1) conflict)))) h.conflicts);
    }

    of_mode : (wanted : Mode) → FlockConflict (before.flocks wait.file) wait.owner wanted → FlockConflict (after.flocks wait.file) wait.owner wanted
    of_mode Read h =
        let one : (flock_modes_of old description ≡ None) ⊎ (flock_modes_of old description ≡ Some Read) =
        elim frees [ inl none ↦ inl none | inr shared ↦ inr shared.0 ] in
        still Read h (λ same. keeps_no_reader (flock_modes_of old description) one)
    of_mode Write h = elim frees [
      | inl none ↦ still Write h (λ same conflict. subst (λ m. HeldConflicts m Write) none conflict)
      | inr shared ↦ elim (eqb_tells file wait.file) [
        | inl same ↦ subst (λ (f : ℕ). FlockConflict (after.flocks f) wait.owner Write) same.1
            (kept_from (after.flocks file) Write
            (λ d. rw (slice_get-set_same books file new within) (shared.1 d)) wait.owner)
        | inr other ↦ still Write h (λ same. absurd (other.1 same))
      ]
    ]

    of_family : (family : Family) → IsBlockedIn family before wait → IsBlockedIn family after wait
    of_family Bytes h = record {
      byte = h.byte;
      covered = h.covered;
      other = h.other;
      blocks = record {
        another = h.blocks.another;
        conflicts = subst (λ m. HeldConflicts m wait.mode) (sym (flock_set_bytes books file old new description mode within was sets wait.file h.other h.byte)) h.blocks.conflicts;
      };
    }
    of_family Whole h = of_mode wait.mode h

-- what holds of the machine holds after a description without a lock was to have one that nothing blocks, which was refused or not
pub kept_by_first_flock : FreeWhenDescriptionLocksChange
    → (m : Machine) (books : List Book) (file : ℕ) (old new : Book) (description : ℕ) (mode : Mode) (result : Result (Unit {0}) Memory)
    → books ≡ slice_set m.books.items file new → file < length m.books.items → slice_get m.books.items file ≡ Some old
    → MayLock m.tables file (Description description)
    → ¬ FlockConflict ((locks_of m.books.items).flocks file) (Description description) mode
    → (locks_of m.books.items).flocks file description ≡ None
    → OnOk result (SetsFlock old new description (Some mode)) → OnErr result (SameBook old new)
    → AreKept m.rules.policy m.tables books m.waits
kept_by_first_flock all m books file old new description mode (Ok unit) is within was may free none sets same =
    let before = m.books.items in
    let absent : flock_modes_of old description ≡ None = rw was at none in
    kept_by_flock all m books m.waits file old new description (Some mode) is within was may
    (λ k same. subst (λ k. ¬ FlockConflict ((locks_of before).flocks file) (Description description) k) (some_same mode k same) free)
    sets (record { waits = refl; policy = refl; processes = refl }) (λ locks told. told)
    (elsewhere_still m.waits (locks_of before) (locks_of (slice_set before file new))
    (flock_frees_none before file old new description (Some mode) within was sets (inl absent)))
kept_by_first_flock all m books file old new description mode (Err memory) is within was may free none sets same =
    kept_by_book m books file old new is within was (keeps_same old new same)

-- a book in which a place was asked for, refused or not, keeps its locks
pub place_taken : (old new : Book) (description : ℕ) (result : Result (Unit {0}) Memory) → OnOk result (ReservesFlock old new description)
    → OnErr result (SameBook old new)
    → KeepsLocks old new
place_taken old new description result h h2 = grind (arith, common_steps, same_room, or_right, keeps_same)

-- the place is there then
pub placed : (before books : List Book) (file : ℕ) (old new : Book) (description : ℕ) → books ≡ slice_set before file new → file < length before
    → ReservesFlock old new description → has_place_at (slice_get books file) description ≡ true
placed before books file old new description is within reserves = grind (arith, common_steps, slice_get-set_same)

-- the room for a flock lock that is waited for is its place
pub room_joined_flock : (books : List Book) (waits : List Wait) (wait : Wait) (description : ℕ) → wait.family ≡ Whole → wait.owner ≡ Description description
    → has_place_at (slice_get books wait.file) description ≡ true → HaveRoom books waits → HaveRoom books (waits ++ wait ∷ [])
room_joined_flock books waits wait description family owner there h = grind (arith, common_steps, counted, and_parts, eqb-true, same_owner, list_any-append)

-- a request for a flock lock of a process that there is, on a file that there is, can be asked for
pub well_formed_flock : {processes : ℕ} (wanted : Wait) (look : Look) → wanted ≡ wanted_flock wanted.p wanted.n look wanted.mode → 1 ≤ wanted.p
    → wanted.p ≤ processes → look.file < 64
    → IsWellFormed processes wanted
well_formed_flock wanted look is one most file = grind (arith, common_steps)

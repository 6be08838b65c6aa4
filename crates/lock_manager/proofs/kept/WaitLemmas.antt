-- What holds of the waits stays so while locks, descriptors and processes change: for `Machine::change`, `Machine::change_flock`, `Machine::close_fd`
-- and others.
use Rattle.lock_manager.proofs.Common.{common_steps, ℕ, ◌≡◌, ◌≢◌, ◌<◌, ◌≤◌, refl, ◌∙◌, List, [], ◌∷◌, ◌++◌, length, None, Some, Option, Bool, true, false, Result, OnOk, OnErr, All, arith, ◌==◌, if◌then◌else◌, slice_get, slice_set, IsFalse, ∥∥₁_elim, cases_Bool, eqb-true, list_any, Any-from_list_any}
use Rattle.lock_manager.proofs.Common.{Memory, Mode, Span, Owner, Process, Description, Book, SetsOwnerMode, SameBook, byte_modes_of, flock_modes_of, room_in, Tables, Descriptors, StandFor, ever_alive, Policy, Wait, Locks, locks_of, Waits, IsFreeOfCycles, AreBlockedElsewhere, waits_of, wait_of, AreTold, FreeWhenLocksChange, FreeWhenDescriptionLocksChange, ProcState, Live, Waiting, state_numbered, AreOwned, IsSuspended, AreStanding, HaveRoom, has_place_at}
use Rattle.lock_book.specs.Books.{has_flock_place}
use Rattle.wait_core.specs.declared.processes.ProcessSet.{ProcessSet}
use Rattle.wait_core.specs.Settled.{AllBlockedWhere, AgreeElsewhere}
use Rattle.wait_core.specs.WaitsView.{policy_of}
use Rattle.wait_core.specs.Processes.{AreThoseWaiting}
use Rattle.lock_manager.specs.State.{AreWaiting}
use Rattle.lock_manager.specs.WaitsKept.{StayBlocked}
use Rattle.lock_manager.proofs.kept.BookLemmas.{slice_get-set, slice_get-set_other, entry_is, after_set, changed}
use Rattle.lock_manager.proofs.kept.SafetyLemmas.{same_owner, itself, hit}

-- a process stays suspended where it waits on
pub suspended_after : (old new : Tables) (states states' : List ProcState) (waits : List Wait)
    → ((q : ℕ) → ever_alive old q ≡ true → ever_alive new q ≡ true)
    → ((q : ℕ) → ever_alive old q ≡ true → state_numbered states q ≡ Waiting → state_numbered states' q ≡ Waiting)
    → All (IsSuspended old states) waits → All (IsSuspended new states') waits
suspended_after old new states states' waits born stay h k d within = grind (arith, common_steps)

-- no wait is of a live process
pub waits_of_others : (tables : Tables) (states : List ProcState) (waits : List Wait) (p : ℕ) → All (IsSuspended tables states) waits
    → state_numbered states p ≡ Live
    → All (λ wait. wait.p ≢ p) waits
waits_of_others tables states waits p h live k d within e = grind (arith, common_steps)

-- whoever stands so still does, where the same processes were ever alive and the waits are the same
pub standing_in : (old new : Tables) (states : List ProcState) (before after : List Wait) → ((q : ℕ) → ever_alive new q ≡ ever_alive old q) → after ≡ before
    → AreStanding old states before → AreStanding new states after
standing_in old new states before after alive same h = grind (arith, common_steps, suspended_after)

-- nor is its process the owner of one
pub not_owned_by : (tables : Tables) (locks : Locks) (waits : List Wait) (p : ℕ) → AreOwned tables locks waits → All (λ wait. wait.p ≢ p) waits
    → All (λ wait. wait.owner ≢ Process p) waits
not_owned_by tables locks waits p owned others k d within e =
    ∥∥₁_elim owned (λ x y. absurd x) (λ given. let may = given.3 k d within in grind (arith, common_steps))

-- a process that no descriptors count as alive was never alive
pub never_alive : (tables : Tables) (locks : Locks) (waits : List Wait) (child : ℕ) → AreOwned tables locks waits
    → ((D : Descriptors) → StandFor tables D → IsFalse (D.ever_alive child)) → ¬ (ever_alive tables child ≡ true)
never_alive tables locks waits child owned free e =
    ∥∥₁_elim owned (λ x y. absurd x) (λ given. let no = free given.0 given.1 in let same = given.1.ever_alive child in cc)

-- the books but that of the file stay
pub agree_elsewhere : (books : List Book) (file : ℕ) (new : Book) → AgreeElsewhere file (locks_of books) (locks_of (slice_set books file new))
agree_elsewhere books file new = grind (arith, common_steps, slice_get-set_other)

-- no pair rests on a flock lock: where the byte locks stay, what is told stays true
pub told_by_bytes : (waits : Waits) (old new : Locks)
    → ((file : ℕ) (owner : Owner) (byte : ℕ) → new.bytes file owner byte ≡ old.bytes file owner byte) → AreTold waits old → AreTold waits new
told_by_bytes waits old new same told = grind (arith, common_steps)

-- a change on a byte is of its owner alone
changed_else : (locks : Locks) (file : ℕ) (owner : Owner) (span : Span) (mode : Option Mode) (f : ℕ) (o : Owner) (byte : ℕ) → o ≢ owner
    → changed locks file owner span mode f o byte ≡ locks.bytes f o byte
changed_else locks file owner span mode f o byte other = grind (arith, common_steps, hit)

-- a change of the locks of an owner closes no cycle, where a process that is the owner doesn't wait
free_changed : FreeWhenLocksChange → FreeWhenDescriptionLocksChange
    → (policy : Policy) (old new : Locks) (waits : List Wait) (file : ℕ) (owner : Owner) (span : Span) (mode : Option Mode)
    → ((p : ℕ) → owner ≡ Process p → All (λ wait. wait.owner ≢ Process p) waits)
    → ((f : ℕ) (o : Owner) (byte : ℕ) → new.bytes f o byte ≡ changed old file owner span mode f o byte)
    → IsFreeOfCycles policy old waits → IsFreeOfCycles policy new waits
free_changed one all policy old new waits file (Process p) span mode idle bytes free =
    one policy old new waits (Process p) free
    (λ f o byte other. bytes f o byte ∙ changed_else old file (Process p) span mode f o byte other) (idle p refl)
free_changed one all policy old new waits file (Description d) span mode idle bytes free =
    all policy old new waits free (λ f q byte. bytes f (Process q) byte ∙ changed_else old file (Description d) span mode f (Process q) byte (λ e. cc))

-- one book's change, refused or not, closes no cycle
pub free_after : FreeWhenLocksChange → FreeWhenDescriptionLocksChange
    → (policy : Policy) (waits : List Wait) (books : List Book) (file : ℕ) (old new : Book) (owner : Owner) (span : Span) (mode : Option Mode)
    (result : Result (Unit {0}) Memory)
    → file < length books → slice_get books file ≡ Some old
    → ((p : ℕ) → owner ≡ Process p → All (λ wait. wait.owner ≢ Process p) waits)
    → OnOk result (SetsOwnerMode old new owner span mode) → OnErr result (SameBook old new)
    → IsFreeOfCycles policy (locks_of books) waits → IsFreeOfCycles policy (locks_of (slice_set books file new)) waits
free_after one all policy waits books file old new owner span mode result within was idle sets same free =
    after_set (λ locks. IsFreeOfCycles policy locks waits) books file old new owner span mode result within was sets same
    (λ bytes flocks. free_changed one all policy (locks_of books) (locks_of (slice_set books file new)) waits file owner span mode idle bytes free)
    (λ bytes flocks. all policy (locks_of books) (locks_of (slice_set books file new)) waits free (λ f q byte. bytes f (Process q) byte))

pub places_at : (is_it : Bool) (entry : Option Book) (old new : Book) (d : ℕ) → (is_it ≡ true → entry ≡ Some old)
    → (has_flock_place old d ≡ true → has_flock_place new d ≡ true)
    → has_place_at entry d ≡ true → has_place_at (if is_it then Some new else entry) d ≡ true
places_at is_it entry old new d was kept there = grind (arith, common_steps)

-- a book in whose place one stands that keeps its places
pub places_kept : (books : List Book) (file : ℕ) (old new : Book) → file < length books → slice_get books file ≡ Some old
    → ((d : ℕ) → has_flock_place old d ≡ true → has_flock_place new d ≡ true)
    → (f d : ℕ) → has_place_at (slice_get books f) d ≡ true → has_place_at (slice_get (slice_set books file new) f) d ≡ true
places_kept books file old new within was kept f d there = grind (arith, common_steps, slice_get-set, entry_is)

-- it has room for the waits, where it also has no less room
pub room_with : (books : List Book) (waits : List Wait) (file : ℕ) (old new : Book) → file < length books → slice_get books file ≡ Some old
    → ((o : Owner) → room_in old o ≤ room_in new o) → ((d : ℕ) → has_flock_place old d ≡ true → has_flock_place new d ≡ true)
    → HaveRoom books waits → HaveRoom (slice_set books file new) waits
room_with books waits file old new within was more kept h = grind (arith, common_steps, slice_get-set, entry_is, places_kept)

pub same_room : (n m : ℕ) → m ≡ n → n ≤ m
same_room n m e = omega (arith, e)

-- it has the same locks, no less room, and the places that there were
pub record KeepsLocks (old new : Book) : Type 0 where
  pub bytes : (o : Owner) (byte : ℕ) → byte_modes_of new o byte ≡ byte_modes_of old o byte
  pub rooms : (o : Owner) → room_in old o ≤ room_in new o
  pub flocks : (d : ℕ) → flock_modes_of new d ≡ flock_modes_of old d
  pub places : (d : ℕ) → has_flock_place old d ≡ true → has_flock_place new d ≡ true

-- so it is after a refusal
pub keeps_same : (old new : Book) → SameBook old new → KeepsLocks old new
keeps_same old new same = grind (arith, common_steps)

-- one book's set, refused or not, leaves room for the waits
pub room_after : (waits : List Wait) (books : List Book) (file : ℕ) (old new : Book) (owner : Owner) (span : Span) (mode : Option Mode)
    (result : Result (Unit {0}) Memory)
    → file < length books → slice_get books file ≡ Some old
    → OnOk result (SetsOwnerMode old new owner span mode) → OnOk result (room_in old owner ≤ room_in new owner) → OnErr result (SameBook old new)
    → HaveRoom books waits → HaveRoom (slice_set books file new) waits
room_after waits books file old new owner span mode result h h2 h3 h4 h5 h6 =
    grind (arith, common_steps, room_with, keeps_same, cases_Bool, same_owner, itself)

-- where nobody waits no room is wanted
pub room_for_none : (books : List Book) → HaveRoom books []
room_for_none books = grind (arith, common_steps)

all_blocked_still : (Holds : Wait → Type 0) (policy : Policy) (old new : Locks) → StayBlocked old new → (earlier waits : List Wait)
    → AllBlockedWhere Holds policy old earlier waits → AllBlockedWhere Holds policy new earlier waits
all_blocked_still Holds policy old new still earlier [] all = tt
all_blocked_still Holds policy old new still earlier (wait ∷ waits) all =
    grind (arith, common_steps, all_blocked_still Holds policy old new still (earlier ++ wait ∷ []) waits)

-- each wait that was known to be blocked is, where no lock went that blocked one
pub elsewhere_still : (waits : Waits) (old new : Locks) → StayBlocked old new → AreBlockedElsewhere waits old → AreBlockedElsewhere waits new
elsewhere_still waits old new still known = record { blocked = all_blocked_still _ (policy_of waits) old new still [] (waits_of waits) known.blocked }

-- where the list has no wait of a process, none is found
none_found : (waits : List Wait) (p : ℕ) → list_any (λ w. w.p == p) waits ≡ false → wait_of waits p ≡ None
none_found [] p none = refl
none_found (w ∷ waits) p none = grind (arith, common_steps, cases_Bool, none_found waits p)

-- the processes of the waits are those that wait
pub those_waiting : (tables : Tables) (states : List ProcState) (waits : List Wait) (set : ProcessSet) → AreThoseWaiting set waits
    → AreStanding tables states waits
    → AreWaiting (state_numbered states) set
those_waiting tables states waits set known h p few = grind (arith, common_steps, Any-from_list_any, eqb-true, cases_Bool, none_found)

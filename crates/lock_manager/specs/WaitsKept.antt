-- What holds of the waits at every moment, also inside an event.
use Rattle.std.specs.Prelude.{All, ◌≡◌, ◌≢◌, ℕ, ◌≤◌, ◌⊎◌, ◌==◌, ◌&&◌, Bool, true, false, List, AllPairs, Option, Some, None, length, filter, slice_get}
use Rattle.std.specs.List.{list_any}
use Rattle.range_core.specs.declared.Mode.{Mode}
use Rattle.range_core.specs.declared.Mode.TheVariants.{Read, Write}
use Rattle.lock_book.specs.declared.Owner.{Owner}
use Rattle.lock_book.specs.declared.Owner.TheVariants.{Description}
use Rattle.lock_book.specs.declared.book.Book.{Book}
use Rattle.lock_book.specs.Owners.{is_same_owner}
use Rattle.lock_book.specs.Books.{room_in, flock_modes_of, has_flock_place}
use Rattle.lock_book.specs.Conflicts.{FlockConflict}
use Rattle.fd_table.specs.declared.tables.Tables.{Tables}
use Rattle.fd_table.specs.TablesView.{ever_alive}
use Rattle.wait_core.specs.declared.Family.{Family}
use Rattle.wait_core.specs.declared.Family.TheVariants.{Bytes, Whole}
use Rattle.wait_core.specs.declared.Wait.{Wait}
use Rattle.wait_core.specs.declared.waits.Waits.{Waits}
use Rattle.wait_core.specs.declared.Policy.{Policy}
use Rattle.wait_core.specs.Cycles.{IsFreeOfCycles}
use Rattle.wait_core.specs.Locks.{Locks, locks_of}
use Rattle.wait_core.specs.Blocking.{IsBlockedByLock}
use Rattle.wait_core.specs.Settled.{AreBlockedElsewhere}
use Rattle.wait_core.specs.WaitsView.{waits_of, policy_of, processes_of, wait_of, AreTold}
use Rattle.lock_manager.specs.declared.request.ProcState.{ProcState}
use Rattle.lock_manager.specs.declared.request.ProcState.TheVariants.{Live, Waiting}
use Rattle.lock_manager.specs.State.{state_numbered}
use Rattle.lock_manager.specs.Safety.{AreCompatible}
use Rattle.lock_manager.specs.DescriptionLocks.{AreOwned, AreWithinFiles}

-- the waits are of different processes (this project's choice: a process that waits makes no request)
abbrev pub AreApart : List Wait → Type 0
AreApart waits = AllPairs (λ v w. v.p ≢ w.p) waits

-- the process of the wait was alive, and no request of it is taken until the wait is over
-- (POSIX.1-2017 fcntl, DESCRIPTION, F_SETLKW, "the thread shall wait")
pub record IsSuspended (tables : Tables) (states : List ProcState) (wait : Wait) : Type 0 where
  pub born : ever_alive tables wait.p ≡ true
  pub waiting : state_numbered states wait.p ≡ Waiting

-- each process that waits has a wait in the list (this project's choice)
abbrev pub AreAwaited : List ProcState → List Wait → Type 0
AreAwaited states waits = (p : ℕ) → state_numbered states p ≡ Waiting → wait_of waits p ≢ None

-- whether the locks of the family are those on bytes
abbrev pub is_of_bytes : Family → Bool
is_of_bytes Bytes = true
is_of_bytes Whole = false

-- whether the wait is for a byte lock of this owner on this file
abbrev pub is_byte_wait : ℕ → Owner → Wait → Bool
is_byte_wait file owner wait = is_of_bytes wait.family && (wait.file == file) && is_same_owner wait.owner owner

-- whether the locks of the family are those on whole files
abbrev pub is_of_whole : Family → Bool
is_of_whole Bytes = false
is_of_whole Whole = true

-- whether the wait is for the flock lock of this description on this file
abbrev pub is_flock_wait : ℕ → ℕ → Wait → Bool
is_flock_wait file description wait =
    is_of_whole wait.family && (wait.file == file) && is_same_owner wait.owner (Description description)

-- the room that a file's book holds for the owner, and none without one
abbrev pub room_at : Option Book → Owner → ℕ
room_at None owner = 0
room_at (Some book) owner = room_in book owner

-- whether a file's book keeps a place for the description, and not without one
abbrev pub has_place_at : Option Book → ℕ → Bool
has_place_at None description = false
has_place_at (Some book) description = has_flock_place book description

-- an owner has on each file room for as many sets as it has waits for byte locks there, and a description a place for the
-- flock lock that it waits for: so a grant takes no memory (this project's choice)
pub record HaveRoom (books : List Book) (waits : List Wait) : Type 0 where
  pub rooms : (file : ℕ) (owner : Owner) → length (filter (is_byte_wait file owner) waits) ≤ room_at (slice_get books file) owner
  pub places : (file description : ℕ) → list_any (is_flock_wait file description) waits ≡ true → has_place_at (slice_get books file) description ≡ true

-- the list of waits, their policy and the number of processes stay
pub record SameWaits (old new : Waits) : Type 0 where
  pub waits : waits_of new ≡ waits_of old
  pub policy : policy_of new ≡ policy_of old
  pub processes : processes_of new ≡ processes_of old

-- a wait that a lock blocks before is blocked by one after too
abbrev pub StayBlocked : Locks → Locks → Type 0
StayBlocked before after = (wait : Wait) → IsBlockedByLock before wait → IsBlockedByLock after wait

-- where a flock lock of this mode, if there was one, went or became another, nobody is free who was blocked: there was none, or a shared one,
-- which keeps nobody from a shared one, and each description is still kept from an exclusive one
abbrev pub FreesNobody : Book → Option Mode → Type 0
FreesNobody book had = (had ≡ None) ⊎ ((had ≡ Some Read) × ((description : ℕ) → FlockConflict (flock_modes_of book) (Description description) Write))

-- what was known of the waits under the locks before is known of them under those after: which process waits for which, and that
-- each wait is blocked on a file that doesn't count as changed
pub record StayKnown (old new : Waits) (before after : Locks) : Type 0 where
  pub told : AreTold old before → AreTold new after
  pub blocked : AreBlockedElsewhere old before → AreBlockedElsewhere new after

-- what is kept of the locks and of the waits: no two locks conflict, descriptions that hold or wait are open, no lock is past the
-- largest offset, each process has one wait at most, it is known who waits for whom and which wait is blocked, each wait has its
-- room, and no process waits for itself
pub record AreKept (policy : Policy) (tables : Tables) (books : List Book) (waits : Waits) : Type 0 where
  pub compatible : AreCompatible (locks_of books)
  pub owned : AreOwned tables (locks_of books) (waits_of waits)
  pub within : AreWithinFiles (locks_of books)
  pub told : ∥ AreTold waits (locks_of books) ∥₁
  pub blocked : ∥ AreBlockedElsewhere waits (locks_of books) ∥₁
  pub apart : AreApart (waits_of waits)
  pub room : HaveRoom books (waits_of waits)
  pub free_of_cycles : IsFreeOfCycles policy (locks_of books) (waits_of waits)

-- whoever lives or waits was ever alive, and those that wait are those of the list
pub record AreStanding (tables : Tables) (states : List ProcState) (waits : List Wait) : Type 0 where
  pub alive : (p : ℕ) → state_numbered states p ≡ Live → ever_alive tables p ≡ true
  pub suspended : All (IsSuspended tables states) waits
  pub awaited : AreAwaited states waits

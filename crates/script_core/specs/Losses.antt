-- Which locks went with an event (which are told is this project's choice).
use Rattle.std.specs.Prelude.{◌≡◌, ℕ, zero, suc, ◌==◌, ◌&&◌, ◌||◌, not, nat_lt, if◌then◌else◌, Bool, true, false, MatchBool, MatchOption, Option, Some, None, is_some, is_none, option_map, option_to_list, List, [], ◌∷◌, ◌++◌, map, filter, ◌≤◌}
use Rattle.std.specs.List.{list_any}
use Rattle.range_core.specs.declared.Mode.{Mode}
use Rattle.range_core.specs.declared.Span.{Span}
use Rattle.range_core.specs.Ranges.{AreRuns}
use Rattle.fd_table.specs.declared.Limits.{Limits}
use Rattle.fd_table.specs.declared.tables.Look.{Look}
use Rattle.fd_table.specs.Descriptors.{Descriptors, descriptor_limit, look_at}
use Rattle.lock_book.specs.declared.Held.{Held}
use Rattle.lock_book.specs.declared.Owner.{Owner}
use Rattle.lock_book.specs.declared.Owner.TheVariants.{Process, Description}
use Rattle.lock_book.specs.Owners.{is_same_owner}
use Rattle.lock_book.specs.Changes.{mode_in, flock_mode_in, whole_file}
use Rattle.lock_book.specs.Reports.{IsHeldReport}
use Rattle.lock_manager.specs.declared.request.FlockOp.TheVariants.{Sh, Ex, Un}
use Rattle.lock_manager.specs.declared.request.ProcState.{ProcState}
use Rattle.lock_manager.specs.declared.request.ProcState.TheVariants.{Unborn, Live, Waiting, Ended}
use Rattle.lock_manager.specs.declared.request.Request.{Request}
use Rattle.lock_manager.specs.declared.request.Request.TheVariants.{OpenFile, Dup, DupTo, CloseFd, Seek, Resize, Lk, Flock, Fork, Exit, Signal, Kill, Enter, Leave, Bail}
use Rattle.lock_manager.specs.declared.request.Rules.{Rules}
use Rattle.lock_manager.specs.State.{State, opening_state}
use Rattle.lock_manager.specs.LockWords.{wanted_mode}
use Rattle.session_core.specs.Event.{Event}
use Rattle.session_core.specs.Runs.{IsStep, Leads}
use Rattle.script_core.specs.declared.losses.Closing.{Closing}
use Rattle.script_core.specs.declared.losses.Closing.TheVariants.{Nothing, OneOf, AllOf}

-- whether this descriptor of this process is one of those that are closed
abbrev pub closes : Closing → ℕ → ℕ → Bool
closes Nothing q fd = false
closes (OneOf p k) q fd = (q == p) && (fd == k)
closes (AllOf p) q fd = q == p

-- a process that lives or waits ends with all its descriptors (POSIX.1-2017 _Exit, "Consequences of Process Termination")
abbrev pub killed : ℕ → ProcState → Closing
killed target Unborn = Nothing
killed target Live = AllOf target
killed target Waiting = AllOf target
killed target Ended = Nothing

-- which descriptors a request of process p closes, where they are open: that of a close, or the one onto which dup2 puts another that is
-- open; all of a process that ends (POSIX.1-2017 close, dup2, _Exit and kill)
abbrev pub closed_by : Limits → State → ℕ → Request → Closing
closed_by limits S p (OpenFile file access) = Nothing
closed_by limits S p (Dup fd) = Nothing
closed_by limits S p (DupTo fd to) =
    if is_some (look_at S.descriptors p fd) && nat_lt to (descriptor_limit limits) && not (to == fd) then OneOf p to else Nothing
closed_by limits S p (CloseFd fd) = OneOf p fd
closed_by limits S p (Seek fd offset) = Nothing
closed_by limits S p (Resize fd size) = Nothing
closed_by limits S p (Lk fd cmd lock) = Nothing
closed_by limits S p (Flock fd op nb) = Nothing
closed_by limits S p (Fork child) = Nothing
closed_by limits S p Exit = AllOf p
closed_by limits S p (Signal target) = Nothing
closed_by limits S p (Kill target) = killed target (S.states target)
closed_by limits S p (Enter section visit) = Nothing
closed_by limits S p (Leave section) = Nothing
closed_by limits S p Bail = if S.refused p then AllOf p else Nothing

-- whether the test holds of what a descriptor refers to, if it is open
abbrev pub is_such : (Look → Bool) → Option Look → Bool
is_such test None = false
is_such test (Some look) = test look

-- whether it holds of one of the first so many descriptors
unfoldable pub any_open : (ℕ → Option Look) → (ℕ → Look → Bool) → ℕ → Bool
any_open look test zero = false
any_open look test (suc fd) = any_open look test fd || is_such (test fd) (look fd)

-- whether the descriptor refers to the description, and isn't closed
abbrev pub stays_on : Closing → ℕ → ℕ → ℕ → Look → Bool
stays_on closed q d fd look = not (closes closed q fd) && (look.desc == d)

-- whether one of the process refers to the description still
abbrev pub keeps : ℕ → Descriptors → Closing → ℕ → ℕ → Bool
keeps limit descriptors closed q d = any_open (look_at descriptors q) (stays_on closed q d) limit

-- whether the process lives or waits
abbrev pub is_alive : ProcState → Bool
is_alive Unborn = false
is_alive Live = true
is_alive Waiting = true
is_alive Ended = false

-- whether one of the first so many processes has a descriptor that refers to the description still (POSIX.1-2017 close, DESCRIPTION, "When
-- all file descriptors ... have been closed")
unfoldable pub stays_open : ℕ → State → Closing → ℕ → ℕ → Bool
stays_open limit S closed d zero = false
stays_open limit S closed d (suc q) = stays_open limit S closed d q || (is_alive (S.states (suc q)) && keeps limit S.descriptors closed (suc q) d)

-- a run of an owner's byte locks, as the report says it
abbrev pub byte_line : ℕ → Owner → Mode × Span → Held
byte_line file owner run = record { file = file; whole = false; owner = owner; mode = run.0; span = run.1 }

-- a description's flock lock, as the report says it
abbrev pub flock_line : ℕ → ℕ → Mode → Held
flock_line file d mode = record { file = file; whole = true; owner = Description d; mode = mode; span = whole_file }

-- the byte locks of the owner on the file, run by run
abbrev pub AreByteLocksOf : State → ℕ → Owner → List Held → Type 0
AreByteLocksOf S file owner locks = (runs : List (Mode × Span)) × AreRuns (mode_in S.changes file owner) runs × (locks ≡ map (byte_line file owner) runs)

-- all locks of the description on the file: its byte locks, and then its flock lock
abbrev pub AreLocksOf : State → ℕ → ℕ → List Held → Type 0
AreLocksOf S file d locks =
    (bytes : List Held) × AreByteLocksOf S file (Description d) bytes
    × (locks ≡ bytes ++ option_to_list (option_map (flock_line file d) (flock_mode_in S.flock_changes file d)))

-- the locks that go with a descriptor of process p which refers to this: those of the process on the file, and those of the description,
-- where no descriptor refers to it still (POSIX.1-2017 close, DESCRIPTION; fcntl_locking(2), "Open file description locks"; flock(2))
abbrev pub AreReleasedBy : State → ℕ → Look → Bool → List Held → Type 0
AreReleasedBy S p look stays locks =
    (own : List Held) × (others : List Held) × AreByteLocksOf S look.file (Process p) own
    × MatchBool stays (others ≡ []) (AreLocksOf S look.file look.desc others) × (locks ≡ own ++ others)

-- whether the end of process p releases the locks of this owner: its own, and those of a description that no other process has open
-- (POSIX.1-2017 _Exit, "Consequences of Process Termination")
abbrev pub is_released : ℕ → ℕ → State → ℕ → Owner → Bool
is_released processes limit S p (Process q) = q == p
is_released processes limit S p (Description d) = keeps limit S.descriptors Nothing p d && not (stays_open limit S (AllOf p) d processes)

-- the locks that the closing of these descriptors removes, in the report's order
abbrev pub AreReleased : ℕ → ℕ → State → Closing → List Held → Type 0
AreReleased processes limit S Nothing locks = locks ≡ []
AreReleased processes limit S (OneOf p fd) locks =
    MatchOption (look_at S.descriptors p fd) (locks ≡ []) (λ look. AreReleasedBy S p look (stays_open limit S (OneOf p fd) look.desc processes) locks)
AreReleased processes limit S (AllOf p) locks =
    (report : List Held) × IsHeldReport (mode_in S.changes) (flock_mode_in S.flock_changes) report
    × (locks ≡ filter (λ held. is_released processes limit S p held.owner) report)

-- the flock lock of the description of an open descriptor
abbrev pub flock_of : State → Option Look → Option Held
flock_of S None = None
flock_of S (Some look) = option_map (flock_line look.file look.desc) (flock_mode_in S.flock_changes look.file look.desc)

-- the flock lock that there is before a request for another one (flock(2))
abbrev pub flock_before : State → ℕ → Request → Option Held
flock_before S p (OpenFile file access) = None
flock_before S p (Dup fd) = None
flock_before S p (DupTo fd to) = None
flock_before S p (CloseFd fd) = None
flock_before S p (Seek fd offset) = None
flock_before S p (Resize fd size) = None
flock_before S p (Lk fd cmd lock) = None
flock_before S p (Flock fd Sh nb) = flock_of S (look_at S.descriptors p fd)
flock_before S p (Flock fd Ex nb) = flock_of S (look_at S.descriptors p fd)
flock_before S p (Flock fd Un nb) = None
flock_before S p (Fork child) = None
flock_before S p Exit = None
flock_before S p (Signal target) = None
flock_before S p (Kill target) = None
flock_before S p (Enter section visit) = None
flock_before S p (Leave section) = None
flock_before S p Bail = None

-- whether the owner of a flock lock has one on the file
abbrev pub has_flock : State → ℕ → Owner → Bool
has_flock T file (Process p) = false
has_flock T file (Description d) = is_some (flock_mode_in T.flock_changes file d)

-- of a flock lock that there was before, where its owner has none behind the event
abbrev pub lost_of : State → Option Held → List Held
lost_of T None = []
lost_of T (Some held) = if has_flock T held.file held.owner then [] else held ∷ []

-- the flock lock that was removed for another one, which its owner didn't get, nor was granted with the event (flock(2), "the existing lock
-- is first removed")
abbrev pub lost : State → State → ℕ → Request → List Held
lost S T p request = lost_of T (flock_before S p request)

-- whether the line of a report says a lock at this place: on the whole of the file or on its bytes, and of this owner
abbrev pub is_at : Bool → ℕ → Owner → Held → Bool
is_at whole file owner held = (if whole then held.whole else not held.whole) && (held.file == file) && is_same_owner held.owner owner

-- the lines of the earlier report whose owner has none on that file in the later one, byte locks and flock locks apart
abbrev pub gone : List Held → List Held → List Held
gone before after = filter (λ held. not (list_any (is_at held.whole held.file held.owner) after)) before

-- whether the request is for an unlock (POSIX.1-2017 fcntl, F_UNLCK; flock(2), LOCK_UN)
abbrev pub is_unlock : Request → Bool
is_unlock (OpenFile file access) = false
is_unlock (Dup fd) = false
is_unlock (DupTo fd to) = false
is_unlock (CloseFd fd) = false
is_unlock (Seek fd offset) = false
is_unlock (Resize fd size) = false
is_unlock (Lk fd cmd lock) = is_none (wanted_mode lock.kind)
is_unlock (Flock fd Sh nb) = false
is_unlock (Flock fd Ex nb) = false
is_unlock (Flock fd Un nb) = true
is_unlock (Fork child) = false
is_unlock Exit = false
is_unlock (Signal target) = false
is_unlock (Kill target) = false
is_unlock (Enter section visit) = false
is_unlock (Leave section) = false
is_unlock Bail = false

-- in a run from the opening, the locks that an event releases and those that it loses are the lines of the report before it whose owner has
-- none on that file in the report behind it, byte locks and flock locks apart; an unlock releases and loses none
abbrev pub LossesAreDifferences : Type 0
LossesAreDifferences =
    (rules : Rules) (processes : ℕ) (events : List Event) (S : State) (event : Event) (T : State) (before after released : List Held)
    → 1 ≤ processes → Leads rules processes opening_state events S → IsStep rules processes S event T
    → IsHeldReport (mode_in S.changes) (flock_mode_in S.flock_changes) before
    → IsHeldReport (mode_in T.changes) (flock_mode_in T.flock_changes) after
    → AreReleased processes (descriptor_limit rules.limits) S (closed_by rules.limits S event.p event.request) released
    → released ++ lost S T event.p event.request ≡ (if is_unlock event.request then [] else gone before after)

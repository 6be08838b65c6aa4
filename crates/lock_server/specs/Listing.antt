-- What a server lists: each time the first thing from a place on, so that going on from behind it tells all, each once, in order.
use Rattle.std.specs.Prelude.{◌≡◌, ◌≢◌, ℕ, ◌+◌, ◌<◌, ◌≤◌, ◌⊎◌, Option, Some, None, MatchOption, List, [], ◌∷◌, Any, slice_get, take}
use Rattle.range_core.specs.declared.Mode.{Mode}
use Rattle.range_core.specs.declared.Span.{Span}
use Rattle.range_core.specs.Ranges.{Conflict, IsRun, Modes}
use Rattle.wait_core.specs.declared.Family.TheVariants.{Bytes, Whole}
use Rattle.wait_core.specs.declared.Policy.{Policy}
use Rattle.wait_core.specs.declared.Policy.TheVariants.{Queue}
use Rattle.lock_server.specs.declared.FlockLock.{FlockLock}
use Rattle.lock_server.specs.declared.Lock.{Lock}
use Rattle.lock_server.specs.declared.Obstacle.{Obstacle}
use Rattle.lock_server.specs.declared.Obstacle.TheVariants as obstacle
use Rattle.lock_server.specs.declared.OwnerWait.{OwnerWait}
use Rattle.lock_server.specs.declared.Pending.{Pending}
use Rattle.lock_server.specs.declared.Waiting.{Waiting}
use Rattle.lock_server.specs.Files.{FileState, SameFile, untouched}
use Rattle.lock_server.specs.Locks.{IsFirstLock}
use Rattle.lock_server.specs.Settling.{IsHeldBack, PendingsConflict}
use Rattle.lock_server.specs.States.{State}

-- the one place comes before the other: of the first two numbers that differ it has the lesser (this project's choice)
abbrev pub IsEarlier : List ℕ → List ℕ → Type 0
IsEarlier [] others = ⊥
IsEarlier (n ∷ ns) [] = ⊥
IsEarlier (n ∷ ns) (m ∷ ms) = (n < m) ⊎ ((n ≡ m) × IsEarlier ns ms)

-- of what is listed, each at its place, this is the first from a place on (this project's choice)
pub record IsFirstFrom {X : Type 0} (place : X → List ℕ) (Listed : X → Type 0) (from : List ℕ) (found : X) : Type 0 where
  pub listed : Listed found
  pub from_there : ¬ IsEarlier (place found) from
  pub first : (other : X) → Listed other → IsEarlier (place other) (place found) → IsEarlier (place other) from

-- all that is listed comes before the place (this project's choice)
pub record EndsBefore {X : Type 0} (place : X → List ℕ) (Listed : X → Type 0) (from : List ℕ) : Type 0 where
  pub earlier : (other : X) → Listed other → IsEarlier (place other) from

-- what is told from a place on: the first that is listed, or that there is none (this project's choice)
abbrev pub IsNextFrom : {X : Type 0} → (X → List ℕ) → (X → Type 0) → List ℕ → Option X → Type 0
IsNextFrom place Listed from found = MatchOption found (EndsBefore place Listed from) (IsFirstFrom place Listed from)

-- a number's own place (this project's choice)
abbrev pub file_place : ℕ → List ℕ
file_place file = file ∷ []

-- the file has a lock or a wait (this project's choice)
abbrev pub IsInUse : State → ℕ → Type 0
IsInUse S file = ¬ SameFile (S.files file) untouched

-- byte locks by owner, and then by first byte (this project's choice)
abbrev pub lock_place : Lock → List ℕ
lock_place lock = lock.owner ∷ lock.span.first ∷ []

-- the lock is one on the file: a largest range on all of which its owner has its mode
-- (fcntl_locking(2), "Advisory record locking", "splitting, shrinking, or coalescing")
abbrev pub IsByteLock : FileState → Lock → Type 0
IsByteLock F lock = IsRun (F.bytes lock.owner) lock.span.first lock.mode lock.span

-- flock locks by owner (this project's choice)
abbrev pub flock_place : FlockLock → List ℕ
flock_place lock = lock.owner ∷ []

-- the flock lock is one on the file (flock(2))
abbrev pub IsFlockLock : FileState → FlockLock → Type 0
IsFlockLock F lock = F.flocks lock.owner ≡ Some lock.mode

-- waits by owner, then by file, and then by ticket (this project's choice)
abbrev pub wait_place : OwnerWait → List ℕ
wait_place wait = wait.owner ∷ wait.file ∷ wait.ticket ∷ []

-- an owner, at most this one, waits here by the ticket (this project's choice)
abbrev pub IsWaitAmong : List Pending → ℕ → OwnerWait → Type 0
IsWaitAmong waits last wait = (wait.owner ≤ last) × Any (λ pending. (pending.owner ≡ wait.owner) × (pending.ticket ≡ wait.ticket)) waits

-- an owner, at most this one, waits on the file by the ticket (this project's choice)
abbrev pub IsWaitUpTo : State → ℕ → OwnerWait → Type 0
IsWaitUpTo S last wait = IsWaitAmong (S.files wait.file).waits last wait

-- the flock lock, of another owner than this one, is in the way of one of the mode (flock(2))
pub record IsFlockInTheWay (F : FileState) (owner : ℕ) (mode : Mode) (lock : FlockLock) : Type 0 where
  pub on_file : IsFlockLock F lock
  pub another : lock.owner ≢ owner
  pub conflicts : Conflict lock.mode mode

-- of the earlier waits that conflict with the wait the first has the ticket (this project's choice)
pub record IsFirstConflict (earlier : List Pending) (wait : Pending) (ticket : ℕ) : Type 0 where
  pub place : ℕ
  pub other : Pending
  pub there : slice_get earlier place ≡ Some other
  pub conflicts : PendingsConflict other wait
  pub first : (before : ℕ) (v : Pending) → before < place → slice_get earlier before ≡ Some v → ¬ PendingsConflict v wait
  pub of_ticket : other.ticket ≡ ticket

-- what is in the way of the wait: the first byte lock, or the flock lock of the least owner; where no lock is, under the queue policy, the
-- first of the earlier waits that conflict with it (POSIX.1-2017 fcntl, DESCRIPTION, F_SETLKW; flock(2); the order is this project's choice)
abbrev pub IsObstacle : Policy → FileState → List Pending → Pending → Obstacle → Type 0
IsObstacle policy F earlier wait (obstacle.Lock lock) = (wait.family ≡ Bytes) × IsFirstLock F wait.owner wait.span wait.mode lock
IsObstacle policy F earlier wait (obstacle.Flock lock) =
    (wait.family ≡ Whole) × IsFirstFrom flock_place (IsFlockInTheWay F wait.owner wait.mode) (0 ∷ []) lock
IsObstacle policy F earlier wait (obstacle.Wait ticket) = (policy ≡ Queue) × (¬ IsHeldBack F wait) × IsFirstConflict earlier wait ticket

-- the wait at this place in order of arrival, with what is in its way (this project's choice)
pub record IsWaitAt (policy : Policy) (F : FileState) (place : ℕ) (waiting : Waiting) : Type 0 where
  pub there : slice_get F.waits place ≡ Some waiting.pending
  pub obstacle : IsObstacle policy F (take place F.waits) waiting.pending waiting.obstacle

-- the number behind this one, and the least one where there is none (this project's choice)
abbrev pub number_behind : Option ℕ → ℕ
number_behind None = 0
number_behind (Some number) = number + 1

-- of the runs of one mode that begin at the byte or behind it this is the first (this project's choice)
pub record IsFirstRunFrom (modes : Modes) (byte : ℕ) (run : Mode × Span) : Type 0 where
  pub is_run : IsRun modes run.1.first run.0 run.1
  pub from_there : byte ≤ run.1.first
  pub first : (mode : Mode) (span : Span) → IsRun modes span.first mode span → byte ≤ span.first → run.1.first ≤ span.first

-- each run of one mode begins before the byte (this project's choice)
pub record BeginBefore (modes : Modes) (byte : ℕ) : Type 0 where
  pub before : (mode : Mode) (span : Span) → IsRun modes span.first mode span → span.first < byte

-- of two waits, if there are two, this is the earlier one (this project's choice)
abbrev pub IsEarlierOf : Option OwnerWait → Option OwnerWait → Option OwnerWait → Type 0
IsEarlierOf found None first = first ≡ found
IsEarlierOf None (Some wait) first = first ≡ Some wait
IsEarlierOf (Some found) (Some wait) first =
    (IsEarlier (wait_place wait) (wait_place found) × (first ≡ Some wait)) ⊎ ((¬ IsEarlier (wait_place wait) (wait_place found)) × (first ≡ Some found))

-- A table that is built up from what bytes tell: locks, waits, grants and crossed owners are put, and no wait is granted (the words are
-- this project's choice).
use Rattle.std.specs.Prelude.{◌≡◌, ℕ, ◌++◌, false, Option, Some, None, List, [], ◌∷◌, map, slice_get, take}
use Rattle.wait_core.specs.declared.Policy.{Policy}
use Rattle.lock_server.specs.declared.FlockLock.{FlockLock}
use Rattle.lock_server.specs.declared.Lock.{Lock}
use Rattle.lock_server.specs.declared.Pending.{Pending}
use Rattle.lock_server.specs.Calls.{SetsOn, Suspends, byte_request, flock_request, no_ticket}
use Rattle.lock_server.specs.Deadlock.{WaitsUncrossed}
use Rattle.lock_server.specs.Files.{SameFile}
use Rattle.lock_server.specs.Safety.{IsCompatible}
use Rattle.lock_server.specs.Settling.{IsHeldBack, IsSettled}
use Rattle.lock_server.specs.States.{Crosses, IsTaken, SameState, State}
use Rattle.wait_core.specs.Cycles.{IsReachable}

-- the byte lock, as it would be asked for
abbrev pub lock_request : Lock → Pending
lock_request lock = byte_request no_ticket lock.owner lock.span lock.mode false

-- the flock lock, as it would be asked for
abbrev pub flock_lock_request : FlockLock → Pending
flock_lock_request lock = flock_request no_ticket lock.owner lock.mode

-- these locks are set on the file, one after another, each held back by none before it
abbrev pub SetsEach : State → ℕ → List Pending → State → Type 0
SetsEach S file [] T = SameState S T
SetsEach S file (wanted ∷ more) T =
    (between : State) × (¬ IsHeldBack (S.files file) wanted) × SetsOn S file wanted.family wanted.owner wanted.span (Some wanted.mode) between
    × SetsEach between file more T

-- the same up to the lock at this place, which is held back
pub record SetsBefore {X : Type 0} (as_request : X → Pending) (S : State) (file : ℕ) (locks : List X) (place : ℕ) (T : State) : Type 0 where
  pub next : X
  pub at : slice_get locks place ≡ Some next
  pub sets : SetsEach S file (map as_request (take place locks)) T
  pub held_back : IsHeldBack (T.files file) (as_request next)

-- up to this place, or all
abbrev pub SetsUpTo : {X : Type 0} → (X → Pending) → State → ℕ → List X → Option ℕ → State → Type 0
SetsUpTo as_request S file locks None T = SetsEach S file (map as_request locks) T
SetsUpTo as_request S file locks (Some place) T = SetsBefore as_request S file locks place T

-- these waits join on the file, one after another, each with a ticket that is free
abbrev pub JoinsEach : State → ℕ → List Pending → State → Type 0
JoinsEach S file [] T = SameState S T
JoinsEach S file (wait ∷ more) T = (between : State) × (¬ IsTaken S wait.ticket) × Suspends S file wait between × JoinsEach between file more T

-- the same up to the wait at this place, whose ticket is taken
pub record JoinsBefore (S : State) (file : ℕ) (waits : List Pending) (place : ℕ) (T : State) : Type 0 where
  pub next : Pending
  pub at : slice_get waits place ≡ Some next
  pub joins : JoinsEach S file (take place waits) T
  pub taken : IsTaken T next.ticket

-- up to this place, or all
abbrev pub JoinsUpTo : State → ℕ → List Pending → Option ℕ → State → Type 0
JoinsUpTo S file waits None T = JoinsEach S file waits T
JoinsUpTo S file waits (Some place) T = JoinsBefore S file waits place T

-- these grants come behind those that are there, and all else stays
pub record QueuesEach (S : State) (tickets : List ℕ) (T : State) : Type 0 where
  pub files : (file : ℕ) → SameFile (S.files file) (T.files file)
  pub grants : T.grants ≡ S.grants ++ tickets
  pub crossed : (owner : ℕ) → T.crossed owner ≡ S.crossed owner

-- the same up to the grant at this place, whose ticket is taken
pub record QueuesBefore (S : State) (tickets : List ℕ) (place : ℕ) (T : State) : Type 0 where
  pub next : ℕ
  pub at : slice_get tickets place ≡ Some next
  pub queues : QueuesEach S (take place tickets) T
  pub taken : IsTaken T next

-- up to this place, or all
abbrev pub QueuesUpTo : State → List ℕ → Option ℕ → State → Type 0
QueuesUpTo S tickets None T = QueuesEach S tickets T
QueuesUpTo S tickets (Some place) T = QueuesBefore S tickets place T

-- these owners are crossed, where they have detected waits, and all else stays
pub record CrossesEach (S : State) (owners : List ℕ) (T : State) : Type 0 where
  pub files : (file : ℕ) → SameFile (S.files file) (T.files file)
  pub grants : T.grants ≡ S.grants
  pub crossed : Crosses S owners T

-- no two owners conflict on any file
abbrev pub AreCompatible : State → Type 0
AreCompatible S = (file : ℕ) → IsCompatible (S.files file)

-- each wait on each file is blocked
abbrev pub AreSettled : Policy → State → Type 0
AreSettled policy S = (file : ℕ) → IsSettled policy (S.files file)

-- the owner is reachable from itself through owners that were given no lock since they wait
abbrev pub IsOnCycle : Policy → State → ℕ → Type 0
IsOnCycle policy S owner = IsReachable (WaitsUncrossed policy S) owner owner

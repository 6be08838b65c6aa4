-- What each call comes to: a relation of the state before it, its answer, and the state after it.
use Rattle.std.specs.Prelude.{◌≡◌, ◌≢◌, ℕ, ◌<◌, ◌⊎◌, not, Bool, false, IsTrue, IsFalse, All, AllPairs, Option, Some, None, List, [], ◌∷◌, filter, Contains}
use Rattle.range_core.specs.declared.Mode.{Mode}
use Rattle.range_core.specs.declared.Span.{Span}
use Rattle.range_core.specs.Facts.{MatchFact}
use Rattle.lock_book.specs.Changes.{whole_file}
use Rattle.wait_core.specs.declared.Family.{Family}
use Rattle.wait_core.specs.declared.Family.TheVariants.{Bytes, Whole}
use Rattle.wait_core.specs.declared.Policy.{Policy}
use Rattle.lock_server.specs.declared.Conversion.{Conversion}
use Rattle.lock_server.specs.declared.Conversion.TheVariants.{Stepwise, Atomic}
use Rattle.lock_server.specs.declared.Pending.{Pending}
use Rattle.lock_server.specs.declared.Rules.{Rules}
use Rattle.lock_server.specs.declared.Answer.{Answer}
use Rattle.lock_server.specs.declared.Answer.TheVariants.{Done, Blocked}
use Rattle.lock_server.specs.declared.WaitAnswer.{WaitAnswer}
use Rattle.lock_server.specs.declared.WaitAnswer.TheVariants as told
use Rattle.lock_server.specs.Pendings.{is_byte_wait}
use Rattle.lock_server.specs.Files.{FileState, SameFile, SetsBytes, SetsLock, Unlocks, Joins, Leaves}
use Rattle.lock_server.specs.Settling.{HasAlready, IsBlockedUnless, IsHeldBack, IsWaitBlocked}
use Rattle.lock_server.specs.States.{State, SameState, Crosses, IsPending, ChangesFile, SettlesFile}
use Rattle.lock_server.specs.Deadlock.{ClosesCycle}

-- the ticket of a request that doesn't wait, which is never told (this project's choice)
abbrev pub no_ticket : ℕ
no_ticket = 0

-- a request for byte locks, as it would wait (POSIX.1-2017 fcntl, DESCRIPTION, F_SETLKW)
abbrev pub byte_request : ℕ → ℕ → Span → Mode → Bool → Pending
byte_request ticket owner span mode detect =
    record { ticket = ticket; owner = owner; family = Bytes; span = span; mode = mode; detect = detect }

-- a request for a flock lock, as it would wait; no deadlock is looked for (flock(2))
abbrev pub flock_request : ℕ → ℕ → Mode → Pending
flock_request ticket owner mode =
    record { ticket = ticket; owner = owner; family = Whole; span = whole_file; mode = mode; detect = false }

-- whom a set gives a lock: its owner, and nobody by an unlock (this project's choice)
abbrev pub given_by : ℕ → Option Mode → List ℕ
given_by owner None = []
given_by owner (Some mode) = owner ∷ []

-- the owner has this mode of the family, where it is one of bytes on just the range, and no wait is granted yet
-- (POSIX.1-2017 fcntl, DESCRIPTION, F_SETLK; flock(2))
pub record SetsOn (S : State) (file : ℕ) (family : Family) (owner : ℕ) (span : Span) (mode : Option Mode) (T : State) : Type 0 where
  pub sets : SetsLock family (S.files file) owner span mode (T.files file)
  pub waits : (T.files file).waits ≡ (S.files file).waits
  pub changes : ChangesFile S file (given_by owner mode) T

-- the same of bytes, before the owner is crossed (this project's choice)
pub record SetsUncrossed (S : State) (file : ℕ) (owner : ℕ) (span : Span) (mode : Option Mode) (T : State) : Type 0 where
  pub sets : SetsBytes (S.files file) owner span mode (T.files file)
  pub waits : (T.files file).waits ≡ (S.files file).waits
  pub others : (other : ℕ) → other ≢ file → SameFile (S.files other) (T.files other)
  pub grants : T.grants ≡ S.grants
  pub crossed : (owner : ℕ) → T.crossed owner ≡ S.crossed owner

-- these owners were given locks and are crossed, where they have a detected wait, and all else stays (this project's choice)
pub record CrossesOwners (S : State) (given : List ℕ) (T : State) : Type 0 where
  pub files : (file : ℕ) → SameFile (S.files file) (T.files file)
  pub grants : T.grants ≡ S.grants
  pub crossed : Crosses S given T

-- the same, and then the file is settled (POSIX.1-2017 fcntl, DESCRIPTION, F_SETLK; flock(2))
pub record Changes (policy : Policy) (S : State) (file : ℕ) (family : Family) (owner : ℕ) (span : Span) (mode : Option Mode) (T : State) : Type 0 where
  pub between : State
  pub sets : SetsOn S file family owner span mode between
  pub settles : SettlesFile policy between file T

-- the owner has no mode of the family on the file, and no wait is granted yet (POSIX.1-2017 close; fcntl_locking(2); flock(2))
pub record ReleasesOn (S : State) (file : ℕ) (family : Family) (owner : ℕ) (T : State) : Type 0 where
  pub unlocks : Unlocks family (S.files file) owner (T.files file)
  pub waits : (T.files file).waits ≡ (S.files file).waits
  pub changes : ChangesFile S file [] T

-- the close rule: the owner loses its locks of the family on the file, and the file is settled; its waits stay
-- (POSIX.1-2017 close; fcntl_locking(2); flock(2))
pub record Releases (policy : Policy) (S : State) (file : ℕ) (family : Family) (owner : ℕ) (T : State) : Type 0 where
  pub between : State
  pub releases : ReleasesOn S file family owner between
  pub settles : SettlesFile policy between file T

-- the lock that is asked for is set, and the file is settled (POSIX.1-2017 fcntl, DESCRIPTION, F_SETLK; flock(2))
abbrev pub Gives : Policy → State → ℕ → Pending → State → Type 0
Gives policy S file wanted T = Changes policy S file wanted.family wanted.owner wanted.span (Some wanted.mode) T

-- a request that doesn't wait: a lock in the way refuses it and changes nothing; else its lock is set
-- (POSIX.1-2017 fcntl, ERRORS, EAGAIN; flock(2), EWOULDBLOCK)
abbrev pub TestComesTo : Policy → State → ℕ → Pending → Answer → State → Type 0
TestComesTo policy S file wanted answer T =
    MatchFact (IsHeldBack (S.files file) wanted) ((answer ≡ Blocked) × SameState S T) ((answer ≡ Done) × Gives policy S file wanted T)

-- a lock of another owner is in the way of a set; of an unlock none ever is (POSIX.1-2017 fcntl, DESCRIPTION, F_SETLK)
abbrev pub IsSetHeldBack : FileState → ℕ → Span → Option Mode → Type 0
IsSetHeldBack F owner span None = ⊥
IsSetHeldBack F owner span (Some mode) = IsHeldBack F (byte_request no_ticket owner span mode false)

-- a set or an unlock of bytes; an unlock is never refused (POSIX.1-2017 fcntl, DESCRIPTION, F_SETLK)
abbrev pub SetComesTo : Policy → State → ℕ → ℕ → Span → Option Mode → Answer → State → Type 0
SetComesTo policy S file owner span None answer T = (answer ≡ Done) × Changes policy S file Bytes owner span None T
SetComesTo policy S file owner span (Some mode) answer T = TestComesTo policy S file (byte_request no_ticket owner span mode false) answer T

-- the wait joins those on its file (POSIX.1-2017 fcntl, DESCRIPTION, F_SETLKW; flock(2))
pub record Suspends (S : State) (file : ℕ) (wait : Pending) (T : State) : Type 0 where
  pub joins : Joins (S.files file) wait (T.files file)
  pub changes : ChangesFile S file [] T

-- the request is detected, and its wait would close a cycle (POSIX.1-2017 fcntl, ERRORS, EDEADLK)
abbrev pub IsRefused : Policy → State → ℕ → Pending → Type 0
IsRefused policy S file wanted = IsTrue wanted.detect × ClosesCycle policy S file wanted

-- a request that may wait: where nothing blocks it, its lock is set; where it is detected and would close a cycle, it is refused
-- and changes nothing; else it waits (POSIX.1-2017 fcntl, DESCRIPTION, F_SETLKW, and ERRORS, EDEADLK; flock(2))
abbrev pub WaitComesTo : Policy → State → ℕ → Pending → WaitAnswer → State → Type 0
WaitComesTo policy S file wanted answer T =
    MatchFact (IsWaitBlocked policy (S.files file) (S.files file).waits wanted)
    (MatchFact (IsRefused policy S file wanted) ((answer ≡ told.Deadlock) × SameState S T)
    ((answer ≡ told.Waits) × Suspends S file wanted T))
    ((answer ≡ told.Done) × Gives policy S file wanted T)

-- the wait with the ticket leaves its file, and no wait is granted yet (FUSE, interrupt)
pub record LeavesOn (S : State) (file ticket : ℕ) (T : State) : Type 0 where
  pub before : List Pending
  pub wait : Pending
  pub after : List Pending
  pub of_ticket : wait.ticket ≡ ticket
  pub leaves : Leaves (S.files file) before wait after (T.files file)
  pub changes : ChangesFile S file [] T

-- the same, and then the file is settled (POSIX.1-2017 fcntl, F_SETLKW and EINTR; FUSE, interrupt)
pub record Cancels (policy : Policy) (S : State) (ticket : ℕ) (T : State) : Type 0 where
  pub file : ℕ
  pub between : State
  pub leaves : LeavesOn S file ticket between
  pub settles : SettlesFile policy between file T

-- a cancel ends the wait with the ticket where there is one, and else changes nothing (this project's choice)
abbrev pub CancelComesTo : Policy → State → ℕ → Bool → State → Type 0
CancelComesTo policy S ticket answer T =
    (IsTrue answer × Cancels policy S ticket T) ⊎ (IsFalse answer × (¬ IsPending S ticket) × SameState S T)

-- the oldest grant leaves the queue, and all else stays; nothing changes where there is none (this project's choice)
abbrev pub FetchComesTo : State → Option ℕ → State → Type 0
FetchComesTo S None T = (S.grants ≡ []) × SameState S T
FetchComesTo S (Some ticket) T =
    (S.grants ≡ ticket ∷ T.grants) × ((file : ℕ) → SameFile (S.files file) (T.files file)) × ((owner : ℕ) → T.crossed owner ≡ S.crossed owner)

-- the old lock of an atomic conversion was removed, and the request doesn't wait: a lock in the way refuses it, and else its lock is set;
-- then the file is settled, once (flock(2), "Converting a lock", as Linux does it)
abbrev pub TestAtOnceComesTo : Policy → State → ℕ → Pending → Answer → State → Type 0
TestAtOnceComesTo policy S file wanted answer T =
    MatchFact (IsHeldBack (S.files file) wanted) ((answer ≡ Blocked) × SettlesFile policy S file T) ((answer ≡ Done) × Gives policy S file wanted T)

-- flock that doesn't wait, of an owner that converts a lock: step by step the old lock is removed and the file settled, and then the
-- request is tested as any other; an atomic one is tested before any wait is granted (flock(2), "Converting a lock")
abbrev pub ConversionComesTo : Conversion → Policy → State → ℕ → Pending → Answer → State → Type 0
ConversionComesTo Stepwise policy S file wanted answer T =
    (between : State) × Releases policy S file Whole wanted.owner between × TestComesTo policy between file wanted answer T
ConversionComesTo Atomic policy S file wanted answer T =
    (between : State) × ReleasesOn S file Whole wanted.owner between × TestAtOnceComesTo policy between file wanted answer T

-- flock that doesn't wait, of an owner with another mode, if any (flock(2))
abbrev pub FlockFrom : Rules → State → ℕ → Pending → Option Mode → Answer → State → Type 0
FlockFrom rules S file wanted None answer T = TestComesTo rules.policy S file wanted answer T
FlockFrom rules S file wanted (Some held) answer T = ConversionComesTo rules.conversion rules.policy S file wanted answer T

-- flock that doesn't wait, of an owner with this mode, if any: the mode that is held changes nothing (flock(2))
abbrev pub FlockComesTo : Rules → State → ℕ → Pending → Option Mode → Answer → State → Type 0
FlockComesTo rules S file wanted held answer T =
    MatchFact (held ≡ Some wanted.mode) ((answer ≡ Done) × SameState S T) (FlockFrom rules S file wanted held answer T)

-- flock that doesn't wait, with LOCK_UN where there is no mode, which is never refused (flock(2))
abbrev pub FlockOpComesTo : Rules → State → ℕ → ℕ → Option Mode → Answer → State → Type 0
FlockOpComesTo rules S file owner None answer T = (answer ≡ Done) × Releases rules.policy S file Whole owner T
FlockOpComesTo rules S file owner (Some mode) answer T =
    FlockComesTo rules S file (flock_request no_ticket owner mode) ((S.files file).flocks owner) answer T

-- the old lock of an atomic conversion was removed, and the request may wait: it joins the waits where a lock is in its way or, under the
-- queue policy and where its owner hadn't had as much (Had), an earlier wait; else its lock is set; then the file is settled, once
-- (flock(2), "Converting a lock", as Linux does it; the queue policy is this project's choice)
abbrev pub WaitAtOnceComesTo : Policy → Type 0 → State → ℕ → Pending → WaitAnswer → State → Type 0
WaitAtOnceComesTo policy Had S file wanted answer T =
    MatchFact (IsBlockedUnless policy (S.files file) (S.files file).waits wanted Had)
    ((answer ≡ told.Waits) × (joined : State) × Suspends S file wanted joined × SettlesFile policy joined file T)
    ((answer ≡ told.Done) × Gives policy S file wanted T)

-- flock that may wait, of an owner that converts a lock, in the same way (flock(2), "Converting a lock")
abbrev pub WaitConversionComesTo : Conversion → Policy → State → ℕ → Pending → WaitAnswer → State → Type 0
WaitConversionComesTo Stepwise policy S file wanted answer T =
    (between : State) × Releases policy S file Whole wanted.owner between × WaitComesTo policy between file wanted answer T
WaitConversionComesTo Atomic policy S file wanted answer T =
    (between : State) × ReleasesOn S file Whole wanted.owner between
    × WaitAtOnceComesTo policy (HasAlready (S.files file) wanted) between file wanted answer T

-- flock that may wait, of an owner with another mode, if any (flock(2))
abbrev pub FlockWaitFrom : Rules → State → ℕ → Pending → Option Mode → WaitAnswer → State → Type 0
FlockWaitFrom rules S file wanted None answer T = WaitComesTo rules.policy S file wanted answer T
FlockWaitFrom rules S file wanted (Some held) answer T = WaitConversionComesTo rules.conversion rules.policy S file wanted answer T

-- flock that may wait, of an owner with this mode, if any: the mode that is held changes nothing (flock(2))
abbrev pub FlockWaitComesTo : Rules → State → ℕ → Pending → Option Mode → WaitAnswer → State → Type 0
FlockWaitComesTo rules S file wanted held answer T =
    MatchFact (held ≡ Some wanted.mode) ((answer ≡ told.Done) × SameState S T) (FlockWaitFrom rules S file wanted held answer T)

-- whether the wait is none for byte locks of this owner (this project's choice)
abbrev pub is_other_wait : ℕ → Pending → Bool
is_other_wait owner wait = not (is_byte_wait owner wait)

-- one of these waits leaves the file, and no wait is granted yet (this project's choice)
pub record DismissesOn (S : State) (file : ℕ) (is_one : Pending → Bool) (T : State) : Type 0 where
  pub before : List Pending
  pub wait : Pending
  pub after : List Pending
  pub of_them : IsTrue (is_one wait)
  pub leaves : Leaves (S.files file) before wait after (T.files file)
  pub changes : ChangesFile S file [] T

-- the owner's byte locks and its waits for byte locks leave the file (this project's choice)
pub record ForgetsOn (S : State) (file owner : ℕ) (T : State) : Type 0 where
  pub unlocks : Unlocks Bytes (S.files file) owner (T.files file)
  pub waits : (T.files file).waits ≡ filter (is_other_wait owner) (S.files file).waits
  pub changes : ChangesFile S file [] T

-- the same on these files, one after another, each settled before the next (this project's choice)
abbrev pub ForgetsIn : Policy → List ℕ → State → ℕ → State → Type 0
ForgetsIn policy [] S owner T = SameState S T
ForgetsIn policy (file ∷ files) S owner T =
    (between : State) × (next : State) × ForgetsOn S file owner between × SettlesFile policy between file next × ForgetsIn policy files next owner T

-- the owner has no byte lock on the file and no wait for one (this project's choice)
pub record IsStrangerOn (F : FileState) (owner : ℕ) : Type 0 where
  pub bytes : (byte : ℕ) → F.bytes owner byte ≡ None
  pub waits : All (λ wait. IsTrue (is_other_wait owner wait)) F.waits

-- an owner that is no more: its byte locks and its waits for byte locks leave all files, the files rising
-- (POSIX.1-2017 _Exit, "Consequences of Process Termination"; the order is this project's choice)
pub record Forgets (policy : Policy) (S : State) (owner : ℕ) (T : State) : Type 0 where
  pub files : List ℕ
  pub rising : AllPairs (λ one other. one < other) files
  pub others : (file : ℕ) → (¬ Contains files file) → IsStrangerOn (S.files file) owner
  pub forgets : ForgetsIn policy files S owner T

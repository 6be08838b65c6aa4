-- The lines that the clients of a lock server see, one call of it after another: what each call sends and answers. A wait that is granted
-- later is answered where its ticket is fetched, behind the call that granted it.
use Rattle.std.specs.Prelude.{◌≡◌, ℕ, ◌+◌, ◌-◌, ◌^◌, ◌==◌, ◌⊎◌, ⊤, Bool, true, false, if◌then◌else◌, All, Any, Contains, Option, Some, None, List, [], ◌∷◌, ◌++◌}
use Rattle.range_core.specs.declared.Mode.{Mode}
use Rattle.range_core.specs.declared.Span.{Span}
use Rattle.range_core.specs.Ranges.{IsByteRange}
use Rattle.history_core.specs.declared.request.Request.{Request}
use Rattle.history_core.specs.declared.request.Action.{Action}
use Rattle.history_core.specs.declared.request.Action.TheVariants as actions
use Rattle.history_core.specs.declared.request.Answer.{Answer}
use Rattle.history_core.specs.declared.request.Answer.TheVariants as answers
use Rattle.history_judge.specs.Histories.{Answered, HistoryLine, IsLegal, Sent}
use Rattle.lock_server.specs.declared.Answer.{Answer as ServerAnswer}
use Rattle.lock_server.specs.declared.Answer.TheVariants as told
use Rattle.lock_server.specs.declared.Lock.{Lock}
use Rattle.lock_server.specs.declared.WaitAnswer.{WaitAnswer}
use Rattle.lock_server.specs.declared.WaitAnswer.TheVariants as waits
use Rattle.lock_server.specs.declared.server.LockServer.{LockServer}
use Rattle.lock_server.specs.Agreement.{Call, Reply, Tells, Through}
use Rattle.lock_server.specs.Agreement as calls
use Rattle.lock_server.specs.Clients.{HasByteLock, HasFlockLock, is_within}
use Rattle.lock_server.specs.Closing.{is_through}
use Rattle.lock_server.specs.Files.{FileState}
use Rattle.lock_server.specs.ServerView.{state_of, through_of}
use Rattle.lock_server.specs.States.{State, SameState, opening}

-- an ID from which on no request has one, and the ID of the request that was sent last with each ticket (this project's choice)
pub record Names : Type 0 where
  pub free : ℕ
  pub of_ticket : ℕ → ℕ

-- the request that waits under the ticket has the ID that was free
abbrev pub named : Names → ℕ → Names
named names ticket = record { free = names.free + 1; of_ticket = λ other. if other == ticket then names.free else names.of_ticket other }

-- all bytes of 64 bits
abbrev pub all_bytes : Span
all_bytes = record { first = 0; last = 2 ^ 64 - 1 }

-- a request, by the ID
abbrev pub request_of : ℕ → ℕ → Action → Request
request_of id owner action = record { id = id; owner = owner; action = action }

-- a request and its answer, behind which the ID is free again
abbrev pub exchange : ℕ → ℕ → ℕ → Action → Answer → List HistoryLine
exchange id file owner action answer = Sent file (request_of id owner action) ∷ Answered id answer ∷ []

-- the same request of each owner, one after another, each done
abbrev pub exchange_each : ℕ → ℕ → List ℕ → Action → List HistoryLine
exchange_each id file [] action = []
exchange_each id file (owner ∷ owners) action = exchange id file owner action answers.Done ++ exchange_each id file owners action

-- the same request of one owner on each file, one after another, each done
abbrev pub exchange_on : ℕ → List ℕ → ℕ → Action → List HistoryLine
exchange_on id [] owner action = []
exchange_on id (file ∷ files) owner action = exchange id file owner action answers.Done ++ exchange_on id files owner action

-- the deaths of the owners on each file
abbrev pub deaths_on : ℕ → List ℕ → List ℕ → List HistoryLine
deaths_on id [] owners = []
deaths_on id (file ∷ files) owners = exchange_each id file owners actions.Gone ++ deaths_on id files owners

-- an unlock by flock of the owner, if there is one (flock(2), LOCK_UN)
abbrev pub unlock_of : ℕ → ℕ → Option ℕ → List HistoryLine
unlock_of id file None = []
unlock_of id file (Some owner) = exchange id file owner actions.FlockUnlock answers.Done

-- what a get is told (POSIX.1-2017 fcntl, F_GETLK)
abbrev pub told_lock : Option Lock → Answer
told_lock None = answers.Free
told_lock (Some lock) = answers.Held (Some lock.owner) lock.mode lock.span

-- what a request is told that doesn't wait (POSIX.1-2017 fcntl, ERRORS, EAGAIN; flock(2), EWOULDBLOCK)
abbrev pub told_answer : ServerAnswer → Answer
told_answer told.Done = answers.Done
told_answer told.Blocked = answers.Busy

-- the answer that a request that may wait has at once: where it waits there is none (POSIX.1-2017 fcntl, F_SETLKW and EDEADLK)
abbrev pub answered_at_once : ℕ → WaitAnswer → List HistoryLine
answered_at_once id waits.Done = Answered id answers.Done ∷ []
answered_at_once id waits.Deadlock = Answered id answers.Deadlock ∷ []
answered_at_once id waits.Waits = []

-- the names behind it: where it waits its ticket has its ID
abbrev pub named_behind : WaitAnswer → Names → ℕ → Names
named_behind waits.Done names ticket = names
named_behind waits.Deadlock names ticket = names
named_behind waits.Waits names ticket = named names ticket

-- a set, or an unlock where there is no mode (POSIX.1-2017 fcntl, F_SETLK)
abbrev pub set_action : Option Mode → Span → Action
set_action None span = actions.Unlock span
set_action (Some mode) span = actions.Set mode span

-- a flock that doesn't wait, LOCK_UN where there is no mode (flock(2))
abbrev pub flock_action : Option Mode → Action
flock_action None = actions.FlockUnlock
flock_action (Some mode) = actions.Flock mode

-- the owner has a lock or a wait on the file
abbrev pub IsThere : FileState → ℕ → Type 0
IsThere F owner = HasByteLock F owner ⊎ (HasFlockLock F owner ⊎ Any (λ wait. wait.owner ≡ owner) F.waits)

-- a call that no client sees
abbrev pub IsSilent : Names → List HistoryLine → Names → Type 0
IsSilent names lines after = (lines ≡ []) × (after ≡ names)

-- a call that is a request with its answer
abbrev pub IsExchange : Names → ℕ → ℕ → Action → Answer → List HistoryLine → Names → Type 0
IsExchange names file owner action answer lines after = (lines ≡ exchange names.free file owner action answer) × (after ≡ names)

-- a get
abbrev pub IsGet : Names → ℕ → ℕ → Action → Reply → List HistoryLine → Names → Type 0
IsGet names file owner action (calls.TellsLock found) lines after = IsExchange names file owner action (told_lock found) lines after
IsGet names file owner action reply lines after = ⊥

-- a request that doesn't wait
abbrev pub IsTest : Names → ℕ → ℕ → Action → Reply → List HistoryLine → Names → Type 0
IsTest names file owner action (calls.TellsAnswer answer) lines after = IsExchange names file owner action (told_answer answer) lines after
IsTest names file owner action reply lines after = ⊥

-- a request that may wait; where its ticket is taken it isn't made
abbrev pub IsWait : Names → ℕ → ℕ → ℕ → Action → Reply → List HistoryLine → Names → Type 0
IsWait names ticket file owner action (calls.TellsWait answer) lines after =
    (lines ≡ Sent file (request_of names.free owner action) ∷ answered_at_once names.free answer) × (after ≡ named_behind answer names ticket)
IsWait names ticket file owner action calls.TicketTaken lines after = IsSilent names lines after
IsWait names ticket file owner action reply lines after = ⊥

-- a cancel: where it ended a wait, this one is told so (POSIX.1-2017 fcntl, ERRORS, EINTR)
abbrev pub IsCancel : Names → ℕ → Reply → List HistoryLine → Names → Type 0
IsCancel names ticket (calls.TellsEnded true) lines after = (lines ≡ Answered (names.of_ticket ticket) answers.Interrupted ∷ []) × (after ≡ names)
IsCancel names ticket (calls.TellsEnded false) lines after = IsSilent names lines after
IsCancel names ticket reply lines after = ⊥

-- a grant is fetched: its request is told that it is done (POSIX.1-2017 fcntl, F_SETLKW; flock(2))
abbrev pub IsFetch : Names → Reply → List HistoryLine → Names → Type 0
IsFetch names (calls.TellsGrant None) lines after = IsSilent names lines after
IsFetch names (calls.TellsGrant (Some ticket)) lines after = (lines ≡ Answered (names.of_ticket ticket) answers.Done ∷ []) × (after ≡ names)
IsFetch names reply lines after = ⊥

-- an owner that is no more: an unlock of all bytes on each file on which it has a byte lock, and maybe on others, in any order
-- (POSIX.1-2017 _Exit, "Consequences of Process Termination")
pub record AreForgotten (S : State) (names : Names) (owner : ℕ) (lines : List HistoryLine) : Type 0 where
  pub files : List ℕ
  pub all : (file : ℕ) → HasByteLock (S.files file) owner → Contains files file
  pub are : lines ≡ exchange_on names.free files owner (actions.Unlock all_bytes)

-- a last close: an unlock of all bytes by each owner that it takes byte locks from, and maybe by others that were seen through the open
-- file, in any order, and then one by flock of its flock owner, if there is one (fcntl_locking(2), "last close"; flock(2))
pub record AreReleased (S : State) (through : Through) (names : Names) (file open_file : ℕ) (flock_owner : Option ℕ) (lines : List HistoryLine) : Type 0 where
  pub owners : List ℕ
  pub seen : All (λ owner. is_through (through file) open_file owner ≡ true) owners
  pub all : (owner : ℕ) → is_through (through file) open_file owner ≡ true → HasByteLock (S.files file) owner → Contains owners owner
  pub are : lines ≡ exchange_each names.free file owners (actions.Unlock all_bytes) ++ unlock_of names.free file flock_owner

-- a client that is gone: on each of these files the death of each of these owners of it, which are, with maybe others, all that have a
-- lock or a wait, and where (POSIX.1-2017 _Exit; flock(2))
pub record AreGone (S : State) (names : Names) (first last : ℕ) (lines : List HistoryLine) : Type 0 where
  pub files : List ℕ
  pub owners : List ℕ
  pub within : All (λ owner. is_within first last owner ≡ true) owners
  pub all : (file owner : ℕ) → is_within first last owner ≡ true → IsThere (S.files file) owner → Contains files file × Contains owners owner
  pub are : lines ≡ deaths_on names.free files owners

-- a file that is gone: the death there of each owner that has a lock or a wait on it, and maybe of others, in any order
pub record AreGoneFrom (S : State) (names : Names) (file : ℕ) (lines : List HistoryLine) : Type 0 where
  pub owners : List ℕ
  pub all : (owner : ℕ) → IsThere (S.files file) owner → Contains owners owner
  pub are : lines ≡ exchange_each names.free file owners actions.Gone

-- the lines that a call brings in the state, by what it is told, and the names behind them: a flush is an unlock of all bytes; a call that
-- reads or notes alone brings none
abbrev pub Shows : State → Through → Names → Call → Reply → List HistoryLine → Names → Type 0
Shows S through names (calls.Get file owner span mode) reply lines after = IsGet names file owner (actions.Get mode span) reply lines after
Shows S through names (calls.Set file owner span mode) reply lines after = IsTest names file owner (set_action mode span) reply lines after
Shows S through names (calls.Wait ticket file owner span mode detect) reply lines after =
    IsWait names ticket file owner (actions.Wait mode span) reply lines after
Shows S through names (calls.Cancel ticket) reply lines after = IsCancel names ticket reply lines after
Shows S through names (calls.Note file owner open_file) reply lines after = IsSilent names lines after
Shows S through names (calls.Flush file owner) reply lines after = IsExchange names file owner (actions.Unlock all_bytes) answers.Done lines after
Shows S through names (calls.Forget owner) reply lines after = AreForgotten S names owner lines × (after ≡ names)
Shows S through names (calls.Flock file owner mode) reply lines after = IsTest names file owner (flock_action mode) reply lines after
Shows S through names (calls.FlockWait ticket file owner mode) reply lines after =
    IsWait names ticket file owner (actions.FlockWait mode) reply lines after
Shows S through names (calls.FlockRelease file owner) reply lines after = IsExchange names file owner actions.FlockUnlock answers.Done lines after
Shows S through names (calls.Release file open_file flock_owner) reply lines after =
    AreReleased S through names file open_file flock_owner lines × (after ≡ names)
Shows S through names calls.NextGrant reply lines after = IsFetch names reply lines after
Shows S through names (calls.ForgetOwners first last) reply lines after = AreGone S names first last lines × (after ≡ names)
Shows S through names (calls.ForgetFile file) reply lines after = AreGoneFrom S names file lines × (after ≡ names)
Shows S through names (calls.HasLocks first last) reply lines after = IsSilent names lines after
Shows S through names (calls.CountsOf first last) reply lines after = IsSilent names lines after

-- the bytes that a call is told are such as it asks for: some of those that a file can have
abbrev pub IsAsked : Call → Type 0
IsAsked (calls.Get file owner span mode) = IsByteRange span
IsAsked (calls.Set file owner span mode) = IsByteRange span
IsAsked (calls.Wait ticket file owner span mode detect) = IsByteRange span
IsAsked other = ⊤

-- the server is told these calls one after another, tells these replies, and its clients see these lines
abbrev pub ShowsRun : LockServer → Names → List Call → List Reply → List HistoryLine → Type 0
ShowsRun server names [] [] lines = lines ≡ []
ShowsRun server names [] (reply ∷ replies) lines = ⊥
ShowsRun server names (call ∷ run) [] lines = ⊥
ShowsRun server names (call ∷ run) (reply ∷ replies) lines =
    (next : LockServer) × IsAsked call × Tells server call reply next × (after : Names) × (first : List HistoryLine) × (rest : List HistoryLine)
    × Shows (state_of server) (through_of server) names call reply first after × ShowsRun next after run replies rest × (lines ≡ first ++ rest)

-- what the clients see of a server that begins without locks is permitted, under either policy and by either conversion, and also where each
-- get has to tell a largest range
abbrev pub RunsAreLegal : Type 0
RunsAreLegal = (runs : Bool) (server : LockServer) (names : Names) (run : List Call) (replies : List Reply) (lines : List HistoryLine)
    → SameState opening (state_of server) → ShowsRun server names run replies lines → IsLegal runs lines

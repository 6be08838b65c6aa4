-- What C is told by a number, and what the server's call came to.
use Rattle.std.specs.Prelude.{◌≡◌, ◌⊎◌, ℕ, Option, Result, Ok, Err, MatchOption}
use Rattle.range_core.specs.declared.Mode.{Mode}
use Rattle.range_core.specs.declared.Span.{Span}
use Rattle.range_core.specs.declared.memory.Memory.{Memory}
use Rattle.range_core.specs.Ranges.{SplitsRun}
use Rattle.lock_server.specs.declared.Counts.{Counts}
use Rattle.lock_server.specs.declared.Lock.{Lock}
use Rattle.lock_server.specs.declared.Rules.{Rules}
use Rattle.lock_server.specs.declared.server.LockServer.{LockServer}
use Rattle.lock_server.specs.declared.Answer.{Answer}
use Rattle.lock_server.specs.declared.Answer.TheVariants.{Done, Blocked}
use Rattle.lock_server.specs.declared.WaitAnswer.{WaitAnswer}
use Rattle.lock_server.specs.declared.WaitAnswer.TheVariants as told
use Rattle.lock_server.specs.declared.WaitFault.{WaitFault}
use Rattle.lock_server.specs.declared.WaitFault.TheVariants as fault
use Rattle.lock_server.specs.Counting.{AreCounts}
use Rattle.lock_server.specs.Locks.{IsFirstLock, IsInTheWay}
use Rattle.lock_server.specs.States.{State, SameState}
use Rattle.lock_server.specs.ServerView.{rules_of, state_of, through_of}
use Rattle.lock_server_c.specs.declared.status.TheConstants.{DONE, BLOCKED, WAITS, DEADLOCK, TICKET_TAKEN, NO_MEMORY, INVALID}
use Rattle.lock_server_c.specs.declared.bytes.BlockerOut.{BlockerOut}
use Rattle.lock_server_c.specs.declared.clients.CountsOut.{CountsOut}
use Rattle.lock_server_c.specs.declared.handle.Handle.{Handle}
use Rattle.lock_server_c.specs.Numbers.{number_of}
use Rattle.lock_server_c.specs.Owned.{BothHave}

-- the handle has a server before the call and after it, of the same rules, and the call takes the one's state to the other's
-- (this project's choice)
abbrev pub Goes : Handle → Handle → (Rules → State → State → Type 0) → Type 0
Goes old new comes_to =
    BothHave old.server new.server (λ server next. (rules_of next ≡ rules_of server) × comes_to (rules_of server) (state_of server) (state_of next))

-- the call takes what is known of owners and open files before it to what is known after it (this project's choice)
abbrev pub Seen : Handle → Handle → ((ℕ → ℕ → Option ℕ) → (ℕ → ℕ → Option ℕ) → Type 0) → Type 0
Seen old new comes_to = BothHave old.server new.server (λ server next. comes_to (through_of server) (through_of next))

-- the status of a request that doesn't wait: the answer that the call came to, or no memory, and nothing has changed
-- (this project's choice)
abbrev pub AnswerTold : ℕ → State → State → (Answer → Type 0) → Type 0
AnswerTold status S T comes_to =
    ((status ≡ DONE) × comes_to Done) ⊎ (((status ≡ BLOCKED) × comes_to Blocked) ⊎ ((status ≡ NO_MEMORY) × SameState S T))

-- the status of a request that may wait: the answer that the call came to; or the ticket is taken, or there was no memory, and
-- nothing has changed (this project's choice)
abbrev pub WaitTold : ℕ → State → State → (WaitAnswer → Type 0) → Type 0
WaitTold status S T comes_to =
    ((status ≡ DONE) × comes_to told.Done) ⊎ (((status ≡ WAITS) × comes_to told.Waits) ⊎ (((status ≡ DEADLOCK) × comes_to told.Deadlock)
    ⊎ (((status ≡ TICKET_TAKEN) ⊎ (status ≡ NO_MEMORY)) × SameState S T)))

-- the call takes the one handle's server to the other's, and tells this of its answer (this project's choice)
abbrev pub Answers : Handle → Handle → ℕ → (Rules → State → Answer → State → Type 0) → Type 0
Answers old new status comes_to = Goes old new (λ rules S T. AnswerTold status S T (λ answer. comes_to rules S answer T))

-- the same of a request that may wait (this project's choice)
abbrev pub AnswersWait : Handle → Handle → ℕ → (Rules → State → WaitAnswer → State → Type 0) → Type 0
AnswersWait old new status comes_to = Goes old new (λ rules S T. WaitTold status S T (λ answer. comes_to rules S answer T))

-- what the owner has by flock on the file
abbrev pub flock_mode : State → ℕ → ℕ → Option Mode
flock_mode S file owner = (S.files file).flocks owner

-- the status of an answer, or of no memory
abbrev pub status_of : Result Answer Memory → ℕ
status_of (Ok Done) = DONE
status_of (Ok Blocked) = BLOCKED
status_of (Err memory) = NO_MEMORY

-- the status of the answer to a request that may wait, or of what kept it from being taken
abbrev pub wait_status_of : Result WaitAnswer WaitFault → ℕ
wait_status_of (Ok told.Done) = DONE
wait_status_of (Ok told.Waits) = WAITS
wait_status_of (Ok told.Deadlock) = DEADLOCK
wait_status_of (Err fault.TicketTaken) = TICKET_TAKEN
wait_status_of (Err (fault.Memory memory)) = NO_MEMORY

-- C asks for what its numbers name, and this holds of that; where they name nothing the status is that of an invalid call, and the
-- server stays (this project's choice)
abbrev pub Asks : {X : Type 0} → Option X → Handle → Handle → ℕ → (X → Type 0) → Type 0
Asks asked old new status holds = MatchOption asked ((status ≡ INVALID) × (new.server ≡ old.server)) holds

-- what C is told of a lock that is in the way: the owner's number, the range and the mode
abbrev pub out_of : Lock → BlockerOut
out_of lock = record { owner = lock.owner; first = lock.span.first; last = lock.span.last; mode = number_of lock.mode }

-- the range lies inside one lock of the owner on the file, so that an unlock of it leaves two (fcntl_locking(2), "splitting")
abbrev pub SplitsLock : LockServer → ℕ → ℕ → Span → Type 0
SplitsLock server file owner span = SplitsRun (((state_of server).files file).bytes owner) span

-- C is told of the first lock that is in the way (POSIX.1-2017 fcntl, DESCRIPTION, F_GETLK)
pub record LockTold (server : LockServer) (file owner : ℕ) (span : Span) (mode : Mode) (out : BlockerOut) : Type 0 where
  pub lock : Lock
  pub is_first : IsFirstLock ((state_of server).files file) owner span mode lock
  pub written : out ≡ out_of lock

-- the status of a get: a lock is in the way, which is told; or none is, and what C gave for one stays (POSIX.1-2017 fcntl, F_GETLK)
abbrev pub GetTold : ℕ → LockServer → ℕ → ℕ → Span → Mode → BlockerOut → BlockerOut → Type 0
GetTold status server file owner span mode old new =
    ((status ≡ BLOCKED) × LockTold server file owner span mode new)
    ⊎ ((status ≡ DONE) × (¬ IsInTheWay ((state_of server).files file) owner span mode) × (new ≡ old))

-- what C is told of counts
abbrev pub counts_out_of : Counts → CountsOut
counts_out_of counts = record { runs = counts.runs; flock_locks = counts.flock_locks; waits = counts.waits }

-- C is told how many runs, flock locks and waits the owners from the first to the last have (this project's choice)
pub record CountsTold (server : LockServer) (first last : ℕ) (out : CountsOut) : Type 0 where
  pub counts : Counts
  pub are : AreCounts (state_of server) first last counts
  pub written : out ≡ counts_out_of counts

-- Servers that are told the same calls: what each tells, and where it ends. What a call comes to here is what its contract says, but for
-- want of memory: a call that wants memory changes nothing, and counts as not made.
use Rattle.std.specs.Prelude.{◌≡◌, ◌↔◌, ℕ, Bool, IsTrue, Option, Some, None, List, [], ◌∷◌, MatchOption}
use Rattle.range_core.specs.declared.Mode.{Mode}
use Rattle.range_core.specs.declared.Span.{Span}
use Rattle.range_core.specs.Facts.{MatchFact}
use Rattle.wait_core.specs.declared.Family.TheVariants.{Bytes, Whole}
use Rattle.lock_server.specs.declared.Answer.{Answer}
use Rattle.lock_server.specs.declared.Counts.{Counts}
use Rattle.lock_server.specs.declared.Lock.{Lock}
use Rattle.lock_server.specs.declared.Rules.{Rules}
use Rattle.lock_server.specs.declared.WaitAnswer.{WaitAnswer}
use Rattle.lock_server.specs.declared.server.LockServer.{LockServer}
use Rattle.lock_server.specs.Calls.{CancelComesTo, FetchComesTo, FlockOpComesTo, FlockWaitComesTo, Forgets, Releases, SetComesTo, WaitComesTo, byte_request, flock_request}
use Rattle.lock_server.specs.Clients.{ForgetsFile, ForgetsOwners, ForgetsSeen, ForgetsSeenOn, HaveLocks, is_within}
use Rattle.lock_server.specs.Closing.{Closes}
use Rattle.lock_server.specs.Counting.{AreCounts}
use Rattle.lock_server.specs.Files.{FileState}
use Rattle.lock_server.specs.Locks.{IsFirstLock, IsInTheWay}
use Rattle.lock_server.specs.Openings.{ForgetsOwner, ForgetsThrough, SameOpenings, SeesOn}
use Rattle.lock_server.specs.ServerView.{rules_of, state_of, through_of}
use Rattle.lock_server.specs.States.{State, IsTaken, SameState}

-- a call of a server, with its arguments in order (this project's choice)
pub data Call : Type 0 where
  Get : ℕ → ℕ → Span → Mode → Call
  Set : ℕ → ℕ → Span → Option Mode → Call
  Wait : ℕ → ℕ → ℕ → Span → Mode → Bool → Call
  Cancel : ℕ → Call
  Note : ℕ → ℕ → ℕ → Call
  Flush : ℕ → ℕ → Call
  Forget : ℕ → Call
  Flock : ℕ → ℕ → Option Mode → Call
  FlockWait : ℕ → ℕ → ℕ → Mode → Call
  FlockRelease : ℕ → ℕ → Call
  Release : ℕ → ℕ → Option ℕ → Call
  NextGrant : Call
  ForgetOwners : ℕ → ℕ → Call
  ForgetFile : ℕ → Call
  HasLocks : ℕ → ℕ → Call
  CountsOf : ℕ → ℕ → Call

-- what a call tells (this project's choice)
pub data Reply : Type 0 where
  Silent TicketTaken : Reply
  TellsLock : Option Lock → Reply
  TellsAnswer : Answer → Reply
  TellsWait : WaitAnswer → Reply
  TellsEnded : Bool → Reply
  TellsGrant : Option ℕ → Reply
  TellsHaving : Bool → Reply
  TellsCounts : Counts → Reply

-- by file and owner: the open file through which the owner was last seen there (this project's choice)
abbrev pub Through : Type 0
Through = ℕ → ℕ → Option ℕ

-- the locks and waits stay, and who was seen through which open file (this project's choice)
pub record StaysSame (S : State) (through : Through) (T : State) (next : Through) : Type 0 where
  pub state : SameState S T
  pub openings : SameOpenings through next

-- what a get tells: the first lock in the way, or that there is none (POSIX.1-2017 fcntl, DESCRIPTION, F_GETLK)
abbrev pub GetComesTo : FileState → ℕ → Span → Mode → Option Lock → Type 0
GetComesTo F owner span mode found = MatchOption found (¬ IsInTheWay F owner span mode) (IsFirstLock F owner span mode)

-- a request that may wait: its ticket is taken, and nothing changes; or it comes to what it asks for (this project's choice)
abbrev pub WithTicket : State → Through → ℕ → Reply → State → Through → (WaitAnswer → Type 0) → Type 0
WithTicket S through ticket reply T next comes_to =
    MatchFact (IsTaken S ticket) ((reply ≡ TicketTaken) × StaysSame S through T next)
    ((answer : WaitAnswer) × (reply ≡ TellsWait answer) × comes_to answer × SameOpenings through next)

-- what a call comes to: the state, the notes and the reply (this project's choice; each call's contract)
abbrev pub CallComesTo : Rules → State → Through → Call → Reply → State → Through → Type 0
CallComesTo rules S through (Get file owner span mode) reply T next =
    (found : Option Lock) × (reply ≡ TellsLock found) × GetComesTo (S.files file) owner span mode found × StaysSame S through T next
CallComesTo rules S through (Set file owner span mode) reply T next =
    (answer : Answer) × (reply ≡ TellsAnswer answer) × SetComesTo rules.policy S file owner span mode answer T × SameOpenings through next
CallComesTo rules S through (Wait ticket file owner span mode detect) reply T next =
    WithTicket S through ticket reply T next (λ answer. WaitComesTo rules.policy S file (byte_request ticket owner span mode detect) answer T)
CallComesTo rules S through (Cancel ticket) reply T next =
    (was_there : Bool) × (reply ≡ TellsEnded was_there) × CancelComesTo rules.policy S ticket was_there T × SameOpenings through next
CallComesTo rules S through (Note file owner open_file) reply T next =
    (reply ≡ Silent) × SameState S T × SeesOn through next file owner (Some open_file)
CallComesTo rules S through (Flush file owner) reply T next =
    (reply ≡ Silent) × Releases rules.policy S file Bytes owner T × SeesOn through next file owner None
CallComesTo rules S through (Forget owner) reply T next = (reply ≡ Silent) × Forgets rules.policy S owner T × ForgetsOwner through next owner
CallComesTo rules S through (Flock file owner mode) reply T next =
    (answer : Answer) × (reply ≡ TellsAnswer answer) × FlockOpComesTo rules S file owner mode answer T × SameOpenings through next
CallComesTo rules S through (FlockWait ticket file owner mode) reply T next =
    WithTicket S through ticket reply T next
    (λ answer. FlockWaitComesTo rules S file (flock_request ticket owner mode) ((S.files file).flocks owner) answer T)
CallComesTo rules S through (FlockRelease file owner) reply T next =
    (reply ≡ Silent) × Releases rules.policy S file Whole owner T × SameOpenings through next
CallComesTo rules S through (Release file open_file flock_owner) reply T next =
    (reply ≡ Silent) × Closes rules.policy S through file open_file flock_owner T × ForgetsThrough through next file open_file
CallComesTo rules S through NextGrant reply T next =
    (granted : Option ℕ) × (reply ≡ TellsGrant granted) × FetchComesTo S granted T × SameOpenings through next
CallComesTo rules S through (ForgetOwners first last) reply T next =
    (reply ≡ Silent) × ForgetsOwners rules.policy S first last T × ForgetsSeen through next (is_within first last)
CallComesTo rules S through (ForgetFile file) reply T next = (reply ≡ Silent) × ForgetsFile S file T × ForgetsSeenOn through next file
CallComesTo rules S through (HasLocks first last) reply T next =
    (have : Bool) × (reply ≡ TellsHaving have) × (IsTrue have ↔ HaveLocks S first last) × StaysSame S through T next
CallComesTo rules S through (CountsOf first last) reply T next =
    (counts : Counts) × (reply ≡ TellsCounts counts) × AreCounts S first last counts × StaysSame S through T next

-- the server is told the call, tells this, and has become the next (this project's choice)
pub record Tells (server : LockServer) (call : Call) (reply : Reply) (next : LockServer) : Type 0 where
  pub rules : rules_of next ≡ rules_of server
  pub comes_to : CallComesTo (rules_of server) (state_of server) (through_of server) call reply (state_of next) (through_of next)

-- the server is told these calls one after another, tells these replies, and has become the last (this project's choice)
abbrev pub Runs : LockServer → List Call → List Reply → LockServer → Type 0
Runs server [] [] last = last ≡ server
Runs server [] (reply ∷ replies) last = ⊥
Runs server (call ∷ calls) [] last = ⊥
Runs server (call ∷ calls) (reply ∷ replies) last = (next : LockServer) × Tells server call reply next × Runs next calls replies last

-- the two servers are in the same state: the rules, the locks, waits, grants and crossed owners, and who was seen through which
-- open file (this project's choice)
pub record SameServer (one other : LockServer) : Type 0 where
  pub rules : rules_of other ≡ rules_of one
  pub state : SameState (state_of one) (state_of other)
  pub openings : SameOpenings (through_of one) (through_of other)

-- two servers in the same state that are told the same calls tell the same, grants too, and end in the same state
-- (this project's choice)
abbrev pub ReplicasAgree : Type 0
ReplicasAgree = (one other : LockServer) (calls : List Call) (replies answers : List Reply) (last end : LockServer) → SameServer one other
    → Runs one calls replies last → Runs other calls answers end → (answers ≡ replies) × SameServer last end

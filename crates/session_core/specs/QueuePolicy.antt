-- What the queue policy promises of every run (the words are this project's choice).
use Rattle.std.specs.Prelude.{◌≡◌, ℕ, ◌≤◌, ◌⊎◌, Some, IsTrue, IsFalse, List, [], ◌∷◌, ◌++◌, All, Any, Contains, flat_map}
use Rattle.range_core.specs.declared.Mode.{Mode}
use Rattle.lock_book.specs.declared.Owner.{Owner}
use Rattle.lock_book.specs.declared.Owner.TheVariants.{Process, Description}
use Rattle.wait_core.specs.declared.Family.{Family}
use Rattle.wait_core.specs.declared.Family.TheVariants.{Bytes, Whole}
use Rattle.wait_core.specs.declared.Policy.TheVariants.{Queue}
use Rattle.wait_core.specs.declared.Wait.{Wait}
use Rattle.wait_core.specs.Blocking.{WaitsConflict}
use Rattle.lock_manager.specs.declared.request.Rules.{Rules}
use Rattle.lock_manager.specs.declared.request.Request.{Request}
use Rattle.lock_manager.specs.declared.request.Request.TheVariants.{OpenFile, Dup, DupTo, CloseFd, Seek, Resize, Lk, Flock, Fork, Exit, Signal, Kill, Enter, Leave, Bail}
use Rattle.lock_manager.specs.declared.request.Note.{Note}
use Rattle.lock_manager.specs.declared.request.Note.TheVariants.{Answer, Waits}
use Rattle.lock_manager.specs.declared.request.Reply.{Reply}
use Rattle.lock_manager.specs.declared.request.Reply.TheVariants as replies
use Rattle.lock_manager.specs.State.{State, opening_state, locks_held}
use Rattle.lock_manager.specs.Asking.{AsksForBytes, AsksForWhole}
use Rattle.lock_manager.specs.LockWords.{may_wait}
use Rattle.lock_manager.specs.FlockCalls.{IsFlockTested}
use Rattle.session_core.specs.Event.{Event}
use Rattle.session_core.specs.Runs.{Leads, IsRun}
use Rattle.session_core.specs.Headline.{EndsProcess}

-- in the state S the request number n of process p asks for this lock, and would wait for it were it blocked: it is a setlkw, an
-- osetlkw, or a flock without LOCK_NB
abbrev pub WouldWaitAs : State → ℕ → ℕ → Request → Wait → Type 0
WouldWaitAs S p n (Lk fd cmd lock) wait = IsTrue (may_wait cmd) × AsksForBytes S p n fd cmd lock wait
WouldWaitAs S p n (Flock fd op nb) wait = IsFalse nb × AsksForWhole S p n fd op wait
WouldWaitAs S p n (OpenFile file access) wait = ⊥
WouldWaitAs S p n (Dup fd) wait = ⊥
WouldWaitAs S p n (DupTo fd to) wait = ⊥
WouldWaitAs S p n (CloseFd fd) wait = ⊥
WouldWaitAs S p n (Seek fd offset) wait = ⊥
WouldWaitAs S p n (Resize fd size) wait = ⊥
WouldWaitAs S p n (Fork child) wait = ⊥
WouldWaitAs S p n Exit wait = ⊥
WouldWaitAs S p n (Signal target) wait = ⊥
WouldWaitAs S p n (Kill target) wait = ⊥
WouldWaitAs S p n (Enter section visit) wait = ⊥
WouldWaitAs S p n (Leave section) wait = ⊥
WouldWaitAs S p n Bail wait = ⊥

-- the event, which comes after these, tells that its request waits, and what it waits for is this
pub record WaitsAs (rules : Rules) (processes : ℕ) (before : List Event) (event : Event) (wait : Wait) : Type 0 where
  pub state : State
  pub leads : Leads rules processes opening_state before state
  pub asks : WouldWaitAs state event.p event.n event.request wait
  pub told : Contains event.notes (Waits event.p event.n)

-- under the queue policy each note that a request waits is of its event's own request, and there is what this waits for
abbrev pub NotesAreOfWaits : Type 0
NotesAreOfWaits =
    (rules : Rules) (processes : ℕ) (before : List Event) (event : Event) (after : List Event) (T : State) (p n : ℕ)
    → rules.policy ≡ Queue → IsRun rules processes (before ++ event ∷ after) T → Contains event.notes (Waits p n)
    → (event.p ≡ p) × (event.n ≡ n) × (wait : Wait) × WaitsAs rules processes before event wait

-- all that these events tell, in order
abbrev pub notes_told : List Event → List Note
notes_told events = flat_map (λ event. event.notes) events

-- the wait is over: one of these notes answers its request (Ok, or EINTR), or one of these events ends its process
abbrev pub IsOver : List Event → List Note → Wait → Type 0
IsOver events notes wait =
    ((reply : Reply) × Contains notes (Answer wait.p wait.n reply)) ⊎ Any (λ event. EndsProcess event wait.p) events

-- one of these events tells an Ok to the request of the wait: the events before it, and its notes before that one
pub record IsGrantedIn (events : List Event) (wait : Wait) : Type 0 where
  pub before : List Event
  pub event : Event
  pub after : List Event
  pub place : events ≡ before ++ event ∷ after
  pub told : List Note
  pub others : List Note
  pub notes : event.notes ≡ told ++ Answer wait.p wait.n replies.Ok ∷ others

-- under the queue policy, where the note that v waits stands before the note that w waits, and the two conflict, each Ok to w's
-- request stands behind an answer to v's request, or behind the end of v's process. An event that ends a process stands before its own
-- grants: they are made after the process has lost its locks and its wait
abbrev pub GrantsAreInTurn : Type 0
GrantsAreInTurn =
    (rules : Rules) (processes : ℕ) (before : List Event) (first : Event) (between : List Event) (second : Event) (after : List Event)
    (T : State) (v w : Wait)
    → rules.policy ≡ Queue → 1 ≤ processes → IsRun rules processes (before ++ first ∷ between ++ second ∷ after) T
    → WaitsAs rules processes before first v → WaitsAs rules processes (before ++ first ∷ between) second w → WaitsConflict v w
    → (grant : IsGrantedIn (before ++ first ∷ between ++ second ∷ after) w)
    → IsOver (grant.before ++ grant.event ∷ []) (notes_told grant.before ++ grant.told) v

-- the wait is for a flock lock, and its description has one of this mode on the file (flock(2))
abbrev pub HasFlock : State → Wait → Mode → Type 0
HasFlock S wait mode =
    (wait.family ≡ Whole) × (d : ℕ) × (wait.owner ≡ Description d) × ((locks_held S).flocks wait.file d ≡ Some mode)

-- the first note of the event answers its request Ok, and its lock is set by that: flock sets nothing where the description has
-- the mode already (flock(2))
pub record SetsAtOnce (S : State) (event : Event) (wanted : Wait) : Type 0 where
  pub others : List Note
  pub told : event.notes ≡ Answer event.p event.n replies.Ok ∷ others
  pub sets : ¬ HasFlock S wanted wanted.mode

-- the state in which a request for this lock is tested, behind these grants: a lock command finds it so; a flock request is tested
-- behind the first half of its conversion, if it makes one (flock(2), "converting a lock"; the order is this project's choice)
abbrev pub IsTestedOf : Family → Owner → Rules → State → Wait → List Note → State → Type 0
IsTestedOf Bytes owner rules S wanted grants tested = (grants ≡ []) × (tested ≡ S)
IsTestedOf Whole (Description d) rules S wanted grants tested = IsFlockTested rules S wanted.file d grants tested
IsTestedOf Whole (Process p) rules S wanted grants tested = (grants ≡ []) × (tested ≡ S)

-- the same, by the family and the owner of the lock
abbrev pub IsTested : Rules → State → Wait → List Note → State → Type 0
IsTested rules S wanted grants tested = IsTestedOf wanted.family wanted.owner rules S wanted grants tested

-- none that one of these events told to wait conflicts with the lock, but for those that are over by these events and these grants
abbrev pub PassesNoneTold : Rules → ℕ → List Event → List Note → Wait → Type 0
PassesNoneTold rules processes before grants wanted =
    (early : List Event) (first : Event) (between : List Event) (v : Wait) → before ≡ early ++ first ∷ between
    → WaitsAs rules processes early first v → WaitsConflict v wanted → IsOver before (notes_told before ++ grants) v

-- the request of the event was tested in a state, behind grants that the event tells right after the caller's Ok, and it passed none:
-- no wait in the list of that state conflicts with the lock, nor does any that was told to wait before and wasn't over at the test
pub record PassesNone (rules : Rules) (processes : ℕ) (before : List Event) (S : State) (event : Event) (wanted : Wait) : Type 0 where
  pub grants : List Note
  pub tested : State
  pub is_tested : IsTested rules S wanted grants tested
  pub others : List Note
  pub told : event.notes ≡ Answer event.p event.n replies.Ok ∷ (grants ++ others)
  pub none_listed : All (λ v. ¬ WaitsConflict v wanted) tested.waits
  pub none_told : PassesNoneTold rules processes before grants wanted

-- under the queue policy a request that would wait were it blocked, and sets its lock at once, passes none: where it is tested, no wait
-- in the list conflicts with it
abbrev pub RequestsJoinTheQueue : Type 0
RequestsJoinTheQueue =
    (rules : Rules) (processes : ℕ) (before : List Event) (event : Event) (after : List Event) (S T : State) (wanted : Wait)
    → rules.policy ≡ Queue → 1 ≤ processes → IsRun rules processes (before ++ event ∷ after) T
    → Leads rules processes opening_state before S → WouldWaitAs S event.p event.n event.request wanted → SetsAtOnce S event wanted
    → PassesNone rules processes before S event wanted

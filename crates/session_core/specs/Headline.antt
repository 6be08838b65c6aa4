-- What holds of a session at every moment between two events (the words are this project's choice).
use Rattle.std.specs.Prelude.{◌≡◌, ◌≢◌, ℕ, ◌+◌, ◌≤◌, ◌⊎◌, Some, IfSome, IfNone, List, [], ◌∷◌, ◌++◌, map, length, All, Contains, slice_get}
use Rattle.std.specs.List.Sorted.{IsStrictlyIncreasing}
use Rattle.fd_table.specs.Descriptors.{process_limit}
use Rattle.lock_manager.specs.declared.request.Note.{Note}
use Rattle.lock_manager.specs.declared.request.Note.TheVariants.{Answer, Waits}
use Rattle.lock_manager.specs.declared.request.Reply.TheVariants as replies
use Rattle.lock_manager.specs.declared.request.ProcState.{ProcState}
use Rattle.lock_manager.specs.declared.request.ProcState.TheVariants.{Unborn, Live, Waiting, Ended}
use Rattle.lock_manager.specs.declared.manager.Manager.{Manager}
use Rattle.lock_manager.specs.ManagerView.{IsSafeManager, rules_of, processes_of, state_at}
use Rattle.lock_manager.specs.declared.request.Request.{Request}
use Rattle.lock_manager.specs.declared.request.Request.TheVariants.{Exit, Kill, Bail}
use Rattle.session_core.specs.Event.{Event}
use Rattle.session_core.specs.Runs.{events_of}
use Rattle.session_core.specs.Mail.{IsPrefixOf, requests_taken, answers_to, reply_to}
use Rattle.session_core.specs.Draining.{IsReplayed}

-- the process that a note is for
abbrev pub told_process : Note → ℕ
told_process (Answer p n reply) = p
told_process (Waits p n) = p

-- a process that stands so waits for the answer to its last request (POSIX.1-2017 fcntl, DESCRIPTION, F_SETLKW)
abbrev pub IsWaiting : ProcState → Type 0
IsWaiting Unborn = ⊥
IsWaiting Live = ⊥
IsWaiting Waiting = Unit {0}
IsWaiting Ended = ⊥

-- a process that stands so has ended
abbrev pub IsEnded : ProcState → Type 0
IsEnded Unborn = ⊥
IsEnded Live = ⊥
IsEnded Waiting = ⊥
IsEnded Ended = Unit {0}

-- the event ends the process: it is its exit, its kill of itself, a kill of it by another that was answered Ok, or its bail that wasn't
-- (POSIX.1-2017 _Exit; kill, DESCRIPTION, SIGKILL; the bail is this project's choice)
abbrev pub EndsProcess : Event → ℕ → Type 0
EndsProcess event p =
    ((event.p ≡ p) × (event.request ≡ Exit))
    ⊎ ((event.p ≡ p) × (event.request ≡ Kill p))
    ⊎ ((event.p ≢ p) × (event.request ≡ Kill p) × Contains event.notes (Answer event.p event.n replies.Ok))
    ⊎ ((event.p ≡ p) × (event.request ≡ Bail) × ¬ Contains event.notes (Answer event.p event.n replies.Ok))

-- the event is not of the process, and tells it nothing
abbrev pub LeavesAlone : ℕ → Event → Type 0
LeavesAlone p event = (event.p ≢ p) × All (λ note. told_process note ≢ p) event.notes

-- after the event that ends a process no event and no note is the process'
-- (POSIX.1-2017 _Exit, "Consequences of Process Termination")
abbrev pub IsQuietAfterEnd : List Event → Type 0
IsQuietAfterEnd events =
    (p : ℕ) (before : List Event) (event : Event) (after : List Event)
    → events ≡ before ++ event ∷ after → EndsProcess event p → All (LeavesAlone p) after

-- of a process that was never alive nothing was taken, and nothing was answered to it
abbrev pub IsQuietBeforeBirth : Manager → List Event → ℕ → Type 0
IsQuietBeforeBirth manager events p = state_at manager p ≡ Unborn → (events_of p events ≡ []) × (answers_to p events ≡ [])

-- a taken request of the process without an answer is its last, and then it waits or has ended
abbrev pub IsAnsweredInTurn : Manager → List Event → ℕ → Type 0
IsAnsweredInTurn manager events p =
    (place : ℕ) (event : Event) → slice_get (events_of p events) place ≡ Some event
    → IfNone (reply_to p event.n events)
    ((length (events_of p events) ≡ place + 1) × (IsWaiting (state_at manager p) ⊎ IsEnded (state_at manager p)))

-- the answers to the process have the numbers 1, 2, and so on
abbrev pub AreAnswersNumbered : List Event → ℕ → Type 0
AreAnswersNumbered events p = (place : ℕ) → IfSome (slice_get (answers_to p events) place) (λ answer. answer.0 ≡ place + 1)

-- each note is for one of so many processes
abbrev pub AreToldInRange : ℕ → List Event → Type 0
AreToldInRange processes events =
    All (λ event. All (λ note. (1 ≤ told_process note) × (told_process note ≤ processes)) event.notes) events

-- how many requests one process may send (this project's choice)
abbrev pub request_limit : ℕ
request_limit = 1099511627776

-- there are 1 to so many processes as the limits allow, and none has sent more requests than it may (this project's choice)
pub record AreWithinLimits (manager : Manager) (sent : ℕ → List Request) : Type 0 where
  pub some : 1 ≤ processes_of manager
  pub few : processes_of manager ≤ process_limit (rules_of manager).limits
  pub requests : (p : ℕ) → length (sent p) ≤ request_limit

-- of each process a prefix of what it sent was taken, each once and in order; each request is answered once at most, in turn;
-- there is nothing of a process that was never alive, and nothing after the end of one; no owners conflict, each wait is blocked
-- and no traditional waits close a cycle; the manager's state is the replay of the journal, which is a run; and there are no more
-- processes and requests than there may be
pub record Holds (manager : Manager) (sent : ℕ → List Request) (journal : List Event) : Type 0 where
  pub taken_in_order : (p : ℕ) → IsPrefixOf (requests_taken p journal) (sent p)
  pub answered_once : (p : ℕ) → IsStrictlyIncreasing (map (λ answer. answer.0) (answers_to p journal))
  pub answers_numbered : (p : ℕ) → AreAnswersNumbered journal p
  pub answered_taken : (p : ℕ) → length (answers_to p journal) ≤ length (events_of p journal)
  pub answered_in_turn : (p : ℕ) → IsAnsweredInTurn manager journal p
  pub within_limits : AreWithinLimits manager sent
  pub told_in_range : AreToldInRange (processes_of manager) journal
  pub quiet_before_birth : (p : ℕ) → IsQuietBeforeBirth manager journal p
  pub quiet_after_end : IsQuietAfterEnd journal
  pub safe : IsSafeManager manager
  pub replayed : IsReplayed manager journal

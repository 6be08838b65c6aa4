-- What a `Sequencer` keeps of what it took (the words are this project's choice).
use Rattle.std.specs.Prelude.{◌≡◌, ℕ, ◌+◌, ◌<◌, ◌==◌, if◌then◌else◌, Option, IsNone, List, [], ◌∷◌, ◌++◌, length, slice_get}
use Rattle.std.proofs.Props.{props}
use Rattle.lock_manager.specs.declared.request.Request.{Request}
use Rattle.lock_manager.specs.declared.request.ProcState.TheVariants.{Live}
use Rattle.lock_manager.specs.declared.manager.Manager.{Manager}
use Rattle.lock_manager.specs.State.{State}
use Rattle.lock_manager.specs.ManagerView.{StandsFor, SameManager, rules_of, processes_of, state_at}
use Rattle.session_core.specs.declared.sequencer.Sequencer.{Sequencer}
use Rattle.session_core.specs.Event.{Event}
use Rattle.session_core.specs.Runs.{IsStep, events_of}
use Rattle.session_core.specs.Mailboxes.{mail_sent, mail_waiting}
use Rattle.session_core.specs.Told.{AreTold}

-- the manager of the sequencer
unfoldable pub manager_in : Sequencer → Manager
manager_in sequencer = sequencer.manager

-- what a process sent, in order, where these events were taken
unfoldable pub sent_by : Sequencer → List Event → ℕ → List Request
sent_by sequencer journal p = mail_sent sequencer.mailboxes.items journal p

-- what a process sent that wasn't taken, in order
unfoldable pub waiting_at : Sequencer → ℕ → List Request
waiting_at sequencer p = mail_waiting sequencer.mailboxes.items p

-- the first request of the process that wasn't taken, if there is one
abbrev pub first_waiting : Sequencer → ℕ → Option Request
first_waiting sequencer p = slice_get (waiting_at sequencer p) 0

-- these events are what was taken
unfoldable pub HasTold : Sequencer → List Event → Type 0
HasTold sequencer journal = AreTold sequencer.manager sequencer.mailboxes.items sequencer.answers journal

pub HasTold-prop : (sequencer : Sequencer) (journal : List Event) → IsProp (HasTold sequencer journal)
unfolding HasTold
HasTold-prop sequencer journal = hlevel props

-- no live process has mail that wasn't taken
abbrev pub HasNoMail : Sequencer → Type 0
HasNoMail sequencer = (p : ℕ) → state_at (manager_in sequencer) p ≡ Live → IsNone (first_waiting sequencer p)

-- no live process of a lesser number has mail that wasn't taken
abbrev pub HasNoneWaitingBelow : Sequencer → ℕ → Type 0
HasNoneWaitingBelow sequencer p = (q : ℕ) → q < p → state_at (manager_in sequencer) q ≡ Live → IsNone (first_waiting sequencer q)

-- the two show the same, whatever was taken
pub record SameSequencer (old new : Sequencer) : Type 0 where
  pub manager : SameManager (manager_in old) (manager_in new)
  pub told : (journal : List Event) → HasTold old journal → HasTold new journal
  pub sent : (journal : List Event) (p : ℕ) → sent_by new journal p ≡ sent_by old journal p

-- what each process sent, and then one more request of this one
abbrev pub sent_with : Sequencer → List Event → ℕ → Request → ℕ → List Request
sent_with sequencer journal p request q = if q == p then sent_by sequencer journal q ++ request ∷ [] else sent_by sequencer journal q

-- behind what was taken, one event more was: this request of this process; and then so much was sent by each process
pub record TellsOf (old new : Sequencer) (p : ℕ) (request : Request) (all : ℕ → List Request) (journal : List Event) (event : Event) : Type 0 where
  pub process : event.p ≡ p
  pub request_is : event.request ≡ request
  pub number : event.n ≡ length (events_of p journal) + 1
  pub told : HasTold new (journal ++ event ∷ [])
  pub step : (S : State) → StandsFor (manager_in old) S
      → (T : State) × IsStep (rules_of (manager_in old)) (processes_of (manager_in old)) S event T × StandsFor (manager_in new) T
  pub sent : (q : ℕ) → sent_by new (journal ++ event ∷ []) q ≡ all q
  pub rules : rules_of (manager_in new) ≡ rules_of (manager_in old)
  pub processes : processes_of (manager_in new) ≡ processes_of (manager_in old)

-- behind what was taken, one event more was: the next request of this process, which is this
abbrev pub Tells : Sequencer → Sequencer → ℕ → Request → List Event → Event → Type 0
Tells old new p request journal event = TellsOf old new p request (sent_by old journal) journal event

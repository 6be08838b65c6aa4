-- What a `Session` shows (the words are this project's choice).
use Rattle.std.specs.Prelude.{◌≡◌, ℕ, ◌+◌, ◌==◌, if◌then◌else◌, Option, Some, None, List, [], ◌∷◌, ◌++◌, length}
use Rattle.lock_manager.specs.declared.request.Rules.{Rules}
use Rattle.lock_manager.specs.declared.request.Request.{Request}
use Rattle.lock_manager.specs.declared.manager.Manager.{Manager}
use Rattle.lock_manager.specs.State.{State, opening_state}
use Rattle.lock_manager.specs.ManagerView.{StandsFor, SameManager, rules_of, processes_of, state_at}
use Rattle.session_core.specs.declared.session.Session.{Session}
use Rattle.session_core.specs.Event.{Event}
use Rattle.session_core.specs.Runs.{IsStep, events_of}
use Rattle.session_core.specs.SequencerView.{manager_in, sent_by}
use Rattle.session_core.specs.Draining.{IsNext, IsDrained}
use Rattle.session_core.specs.Headline.{Holds}

-- the manager of the session
unfoldable pub manager_of : Session → Manager
manager_of session = manager_in session.sequencer

-- the journal
unfoldable pub events_in : Session → List Event
events_in session = session.journal.items

-- what a process sent, in order
unfoldable pub sent_of : Session → ℕ → List Request
sent_of session p = sent_by session.sequencer session.journal.items p

-- the rules and the number of processes stay
pub record SameRules (old new : Session) : Type 0 where
  pub rules : rules_of (manager_of new) ≡ rules_of (manager_of old)
  pub processes : processes_of (manager_of new) ≡ processes_of (manager_of old)

-- the two show the same
pub record SameSession (old new : Session) : Type 0 where
  pub manager : SameManager (manager_of old) (manager_of new)
  pub journal : events_in new ≡ events_in old
  pub sent : (p : ℕ) → sent_of new p ≡ sent_of old p

-- without mail and entries, at the opening, under these rules and with so many processes
pub record IsEmptySession (rules : Rules) (processes : ℕ) (session : Session) : Type 0 where
  pub rules_are : rules_of (manager_of session) ≡ rules
  pub processes_are : processes_of (manager_of session) ≡ processes
  pub opening : StandsFor (manager_of session) opening_state
  pub journal : events_in session ≡ []
  pub sent : (p : ℕ) → sent_of session p ≡ []

-- the request is the last that the process sent, and nothing else changed
pub record Arrives (old new : Session) (p : ℕ) (request : Request) (n : ℕ) : Type 0 where
  pub sent : (q : ℕ) → sent_of new q ≡ (if q == p then sent_of old q ++ request ∷ [] else sent_of old q)
  pub number : n ≡ length (sent_of new p)
  pub journal : events_in new ≡ events_in old
  pub manager : SameManager (manager_of old) (manager_of new)

-- one event was taken: the next request of the least live process that has one
pub record TakesOne (old new : Session) (place : ℕ) : Type 0 where
  pub event : Event
  pub is_next : IsNext (state_at (manager_of old)) (sent_of old) (events_in old) event
  pub journal : events_in new ≡ events_in old ++ event ∷ []
  pub at_place : place ≡ length (events_in new)
  pub step : (S : State) → StandsFor (manager_of old) S
      → (T : State) × IsStep (rules_of (manager_of old)) (processes_of (manager_of old)) S event T × StandsFor (manager_of new) T
  pub sent : (p : ℕ) → sent_of new p ≡ sent_of old p
  pub same_rules : SameRules old new

-- what each process sent, and then one more request of this one
abbrev pub sent_with : Session → ℕ → Request → ℕ → List Request
sent_with session p request q = if q == p then sent_of session q ++ request ∷ [] else sent_of session q

-- one event was taken, the next request of this process, which is this; and so much was sent by each process
pub record TakesRequest (old new : Session) (p : ℕ) (request : Request) (sent : ℕ → List Request) (place : ℕ) : Type 0 where
  pub event : Event
  pub process : event.p ≡ p
  pub request_is : event.request ≡ request
  pub number : event.n ≡ length (events_of p (events_in old)) + 1
  pub journal : events_in new ≡ events_in old ++ event ∷ []
  pub at_place : place ≡ length (events_in new)
  pub step : (S : State) → StandsFor (manager_of old) S
      → (T : State) × IsStep (rules_of (manager_of old)) (processes_of (manager_of old)) S event T × StandsFor (manager_of new) T
  pub sent_is : (q : ℕ) → sent_of new q ≡ sent q
  pub same_rules : SameRules old new

-- one event was taken, or no live process has mail
abbrev pub TakesNext : Session → Session → Option ℕ → Type 0
TakesNext old new (Some place) = TakesOne old new place
TakesNext old new None = IsDrained (state_at (manager_of old)) (sent_of old) (events_in old) × SameSession old new

-- what holds of a session between two events
abbrev pub SessionHolds : Session → Type 0
SessionHolds session = ∥ Holds (manager_of session) (sent_of session) (events_in session) ∥₁

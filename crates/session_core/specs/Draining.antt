-- The order in which mail is taken (this project's choice).
use Rattle.std.specs.Prelude.{◌≡◌, ℕ, ◌+◌, ◌<◌, Option, Some, IsNone, List, [], ◌∷◌, ◌++◌, length, slice_get}
use Rattle.lock_manager.specs.declared.request.Rules.{Rules}
use Rattle.lock_manager.specs.declared.request.Request.{Request}
use Rattle.lock_manager.specs.declared.request.ProcState.{ProcState}
use Rattle.lock_manager.specs.declared.request.ProcState.TheVariants.{Live}
use Rattle.lock_manager.specs.declared.manager.Manager.{Manager}
use Rattle.lock_manager.specs.State.{State, opening_state}
use Rattle.lock_manager.specs.ManagerView.{StandsFor, rules_of, processes_of}
use Rattle.session_core.specs.Event.{Event}
use Rattle.session_core.specs.Runs.{IsStep, IsRun, events_of}
use Rattle.session_core.specs.Mail.{requests_sent}

-- the first request of the process that wasn't taken, if there is one
abbrev pub next_untaken : (ℕ → List Request) → List Event → ℕ → Option Request
next_untaken sent events p = slice_get (sent p) (length (events_of p events))

-- after these events no live process has mail that wasn't taken
abbrev pub IsDrained : (ℕ → ProcState) → (ℕ → List Request) → List Event → Type 0
IsDrained states sent events = (p : ℕ) → states p ≡ Live → IsNone (next_untaken sent events p)

-- after these events no live process of a lesser number has mail that wasn't taken
abbrev pub HasNoMailBelow : (ℕ → ProcState) → (ℕ → List Request) → List Event → ℕ → Type 0
HasNoMailBelow states sent events p = (q : ℕ) → q < p → states q ≡ Live → IsNone (next_untaken sent events q)

-- the event takes, after these events, the next request of the least live process that has one
pub record IsNext (states : ℕ → ProcState) (sent : ℕ → List Request) (events : List Event) (event : Event) : Type 0 where
  pub live : states event.p ≡ Live
  pub request : next_untaken sent events event.p ≡ Some event.request
  pub least : HasNoMailBelow states sent events event.p
  pub number : event.n ≡ length (events_of event.p events) + 1

-- after these events, in the state S, mail is taken by these further events, one after another, which leaves the state T
abbrev pub TakesMail : Rules → ℕ → (ℕ → List Request) → List Event → State → List Event → State → Type 0
TakesMail rules processes sent events S [] T = T ≡ S
TakesMail rules processes sent events S (event ∷ more) T =
    IsNext S.states sent events event
    × (between : State) × IsStep rules processes S event between
    × TakesMail rules processes sent (events ++ event ∷ []) between more T

-- after these events, in the state S, mail is taken by these further events until there is none, which leaves the state T
abbrev pub DrainsMail : Rules → ℕ → (ℕ → List Request) → List Event → State → List Event → State → Type 0
DrainsMail rules processes sent events S more T =
    TakesMail rules processes sent events S more T × IsDrained T.states sent (events ++ more)

-- after these arrivals and events, in the state S, the later arrivals come in turn, and after each mail is taken until there
-- is none; this makes the journal, and leaves the state T
abbrev pub DrainsFrom : Rules → ℕ → List (ℕ × Request) → List Event → State → List (ℕ × Request) → List Event → State → Type 0
DrainsFrom rules processes arrived events S [] journal T = (journal ≡ events) × (T ≡ S)
DrainsFrom rules processes arrived events S (arrival ∷ later) journal T =
    (more : List Event) × (between : State)
    × DrainsMail rules processes (λ p. requests_sent p (arrived ++ arrival ∷ [])) events S more between
    × DrainsFrom rules processes (arrived ++ arrival ∷ []) (events ++ more) between later journal T

-- the journal of the arrivals, from the opening, and the state that it leaves
abbrev pub IsDrain : Rules → ℕ → List (ℕ × Request) → List Event → State → Type 0
IsDrain rules processes arrivals journal T = DrainsFrom rules processes [] [] opening_state arrivals journal T

-- the journal is a run, and the manager stands for the state that it leaves
pub record IsReplayed (manager : Manager) (journal : List Event) : Type 0 where
  pub state : State
  pub run : IsRun (rules_of manager) (processes_of manager) journal state
  pub stands : StandsFor manager state

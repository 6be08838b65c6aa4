-- Which entries are illegal, and what a run would have in their place (the words are this project's choice).
use Rattle.std.specs.Prelude.{◌≡◌, ◌≢◌, ℕ, ◌+◌, List, [], ◌∷◌, ◌++◌, length}
use Rattle.lock_manager.specs.declared.request.Rules.{Rules}
use Rattle.lock_manager.specs.declared.request.ProcState.TheVariants.{Live}
use Rattle.lock_manager.specs.State.{State}
use Rattle.session_core.specs.declared.check.Expected.{Expected}
use Rattle.session_core.specs.declared.check.Expected.TheVariants.{NoRequest, NumberAfter, Notes}
use Rattle.session_core.specs.Event.{Event}
use Rattle.session_core.specs.Runs.{IsRun, events_of}

-- after these events, in the state S, the definition has this in place of the event: no request, where the process stands so and
-- isn't live; else the number behind this one, which is how many requests of the process were taken; else the same event with
-- these notes, with which the run goes on
abbrev pub WouldHave : Rules → ℕ → List Event → State → Event → Expected → Type 0
WouldHave rules processes events S event (NoRequest state) = (S.states event.p ≡ state) × (state ≢ Live)
WouldHave rules processes events S event (NumberAfter taken) =
    (S.states event.p ≡ Live) × (taken ≡ length (events_of event.p events)) × (event.n ≢ taken + 1)
WouldHave rules processes events S event (Notes notes) =
    (notes.items ≢ event.notes) × ((T : State) × IsRun rules processes (events ++ record event { notes = notes.items } ∷ []) T)

-- these events are a run, none begins with them and then this one, and the definition has this in its place
pub record IsIllegal (rules : Rules) (processes : ℕ) (events : List Event) (event : Event) (expected : Expected) : Type 0 where
  pub state : State
  pub run : IsRun rules processes events state
  pub would_have : WouldHave rules processes events state event expected
  pub none : (more : List Event) (T : State) → ¬ IsRun rules processes (events ++ event ∷ more) T

-- Every run goes on.
use Rattle.std.specs.Prelude.{◌≡◌, ℕ, List, [], ◌∷◌, ◌++◌}
use Rattle.lock_manager.specs.declared.request.Rules.{Rules}
use Rattle.lock_manager.specs.declared.request.Request.{Request}
use Rattle.lock_manager.specs.declared.request.ProcState.TheVariants.{Live}
use Rattle.lock_manager.specs.State.{State}
use Rattle.session_core.specs.Event.{Event}
use Rattle.session_core.specs.Runs.{IsRun}

-- whatever a process requests that lives after a run, the run goes on with an event of that: it can't be that it goes on with none
abbrev pub EveryRunGoesOn : Type 0
EveryRunGoesOn =
    (rules : Rules) (processes : ℕ) (events : List Event) (S : State) (p : ℕ) (request : Request)
    → IsRun rules processes events S → S.states p ≡ Live
    → ¬ ((event : Event) (T : State) → event.p ≡ p → event.request ≡ request → ¬ IsRun rules processes (events ++ event ∷ []) T)

-- What is made of a list of arrivals is determined by them.
use Rattle.std.specs.Prelude.{◌≡◌, ℕ, List}
use Rattle.lock_manager.specs.declared.request.Rules.{Rules}
use Rattle.lock_manager.specs.declared.request.Request.{Request}
use Rattle.lock_manager.specs.State.{State}
use Rattle.session_core.specs.Event.{Event}
use Rattle.session_core.specs.Draining.{IsDrain}

-- two drains of the same arrivals, under the same rules and of as many processes, make the same journal and leave the same
-- state
abbrev pub ArrivalsHaveOneDrain : Type 0
ArrivalsHaveOneDrain =
    (rules : Rules) (processes : ℕ) (arrivals : List (ℕ × Request)) (journal other : List Event) (T U : State)
    → IsDrain rules processes arrivals journal T → IsDrain rules processes arrivals other U → (journal ≡ other) × (T ≡ U)

-- The step has one outcome.
use Rattle.std.specs.Prelude.{◌≡◌, ℕ, List}
use Rattle.lock_manager.specs.declared.request.Rules.{Rules}
use Rattle.lock_manager.specs.declared.request.Request.{Request}
use Rattle.lock_manager.specs.declared.request.Note.{Note}
use Rattle.lock_manager.specs.State.{State}
use Rattle.lock_manager.specs.Step.{Step}

-- two steps under the same rules from one state by one request of one process make the same notes and leave the same state
abbrev pub StepHasOneOutcome : Type 0
StepHasOneOutcome =
    (rules : Rules) (processes : ℕ) (S : State) (p n : ℕ) (request : Request) (notes others : List Note) (T U : State)
    → Step rules processes S p n request notes T → Step rules processes S p n request others U → (notes ≡ others) × (T ≡ U)

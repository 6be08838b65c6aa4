-- The step has some outcome.
use Rattle.std.specs.Prelude.{◌≡◌, ◌≢◌, ℕ, Some, None, IsSome, List}
use Rattle.fd_table.specs.Descriptors.{Descriptors, description_numbered}
use Rattle.wait_core.specs.declared.Wait.{Wait}
use Rattle.wait_core.specs.WaitsView.{wait_of}
use Rattle.lock_manager.specs.declared.request.Rules.{Rules}
use Rattle.lock_manager.specs.declared.request.Request.{Request}
use Rattle.lock_manager.specs.declared.request.Note.{Note}
use Rattle.lock_manager.specs.declared.request.ProcState.{ProcState}
use Rattle.lock_manager.specs.declared.request.ProcState.TheVariants.{Live, Waiting}
use Rattle.lock_manager.specs.declared.manager.Manager.{Manager}
use Rattle.lock_manager.specs.State.{State, opening_state}
use Rattle.lock_manager.specs.Step.{Step}
use Rattle.lock_manager.specs.ManagerView.{StandsFor}

-- each descriptor that is open refers to a description that was made (POSIX.1-2017 open, DESCRIPTION)
abbrev pub AreMade : Descriptors → Type 0
AreMade D = (p fd number : ℕ) → D.description_of p fd ≡ Some number → IsSome (description_numbered D.descriptions number)

-- each process that waits has a wait in the list (this project's choice)
abbrev pub AreAwaitedIn : List Wait → (ℕ → ProcState) → Type 0
AreAwaitedIn waits states = (p : ℕ) → states p ≡ Waiting → wait_of waits p ≢ None

-- what a step asks of a state: open descriptors refer to descriptions that were made, and who waits has a wait in the list
pub record IsWhole (S : State) : Type 0 where
  pub made : AreMade S.descriptors
  pub awaited : AreAwaitedIn S.waits S.states

-- the opening state is whole, each step keeps that, and each state that a manager stands for is whole; and from a whole state, by whatever
-- request of a live process, there is a step: it can't be that no notes and no state are those of one
pub record StepHasSomeOutcome : Type 0 where
  pub opening : IsWhole opening_state
  pub kept : (rules : Rules) (processes : ℕ) (S : State) (p n : ℕ) (request : Request) (notes : List Note) (T : State)
      → IsWhole S → Step rules processes S p n request notes T → IsWhole T
  pub managers : (manager : Manager) (S : State) → StandsFor manager S → IsWhole S
  pub some : (rules : Rules) (processes : ℕ) (S : State) (p n : ℕ) (request : Request) → IsWhole S → S.states p ≡ Live
      → ¬ ((notes : List Note) (T : State) → ¬ Step rules processes S p n request notes T)

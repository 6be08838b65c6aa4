-- Which states a `Manager` stands for (the words are this project's choice).
use Rattle.std.specs.Prelude.{◌≡◌, ℕ, Bool, Option, List}
use Rattle.lock_book.specs.declared.Owner.{Owner}
use Rattle.lock_book.specs.Changes.{mode_in, flock_mode_in}
use Rattle.fd_table.specs.TablesView.{StandFor}
use Rattle.wait_core.specs.declared.Wait.{Wait}
use Rattle.wait_core.specs.Locks.{Locks}
use Rattle.lock_manager.specs.declared.request.Rules.{Rules}
use Rattle.lock_manager.specs.declared.request.Request.{Request}
use Rattle.lock_manager.specs.declared.request.Note.{Note}
use Rattle.lock_manager.specs.declared.request.ProcState.{ProcState}
use Rattle.lock_manager.specs.declared.request.Visit.{Visit}
use Rattle.lock_manager.specs.declared.manager.Manager.{Manager}
use Rattle.lock_manager.specs.State.{State}
use Rattle.lock_manager.specs.Step.{Step}
use Rattle.lock_manager.specs.MachineView.{machine_rules, machine_processes, machine_state, machine_locks, machine_waits}
use Rattle.lock_manager.specs.SectionsView.{visit_in, refused_in}
use Rattle.lock_manager.specs.Safety.{IsSafe}

-- the rules of the manager
unfoldable pub rules_of : Manager → Rules
rules_of manager = machine_rules manager.machine

-- how many processes there are
unfoldable pub processes_of : Manager → ℕ
processes_of manager = machine_processes manager.machine

-- where a process stands
unfoldable pub state_at : Manager → ℕ → ProcState
state_at manager p = machine_state manager.machine p

-- the locks that are held
unfoldable pub locks_in_books : Manager → Locks
locks_in_books manager = machine_locks manager.machine

-- the waits in order of arrival
unfoldable pub waits_of : Manager → List Wait
waits_of manager = machine_waits manager.machine

-- by which visit a process is in a section
unfoldable pub visit_at : Manager → ℕ → ℕ → Option Visit
visit_at manager p section = visit_in manager.sections p section

-- whether the last answer to a process that lives was an error
unfoldable pub refused_at : Manager → ℕ → Bool
refused_at manager p = refused_in manager.sections p

-- the manager stands for the state: they have the same modes, descriptors, waits and process states, the same processes are in the same
-- sections, and the same were told an error last
pub record StandsFor (manager : Manager) (S : State) : Type 0 where
  pub bytes : (file : ℕ) (owner : Owner) (byte : ℕ) → (locks_in_books manager).bytes file owner byte ≡ mode_in S.changes file owner byte
  pub flocks : (file description : ℕ) → (locks_in_books manager).flocks file description ≡ flock_mode_in S.flock_changes file description
  pub descriptors : StandFor manager.machine.tables S.descriptors
  pub waits : waits_of manager ≡ S.waits
  pub states : (p : ℕ) → state_at manager p ≡ S.states p
  pub visits : (p section : ℕ) → visit_at manager p section ≡ S.visits p section
  pub refused : (p : ℕ) → refused_at manager p ≡ S.refused p

-- new stands for each state that old stands for, each process stands where it stood, and the rules are the same
pub record SameManager (old new : Manager) : Type 0 where
  pub stands : (S : State) → StandsFor old S → StandsFor new S
  pub states : (p : ℕ) → state_at new p ≡ state_at old p
  pub rules : rules_of new ≡ rules_of old
  pub processes : processes_of new ≡ processes_of old

-- for whatever state old stands for, the notes are those of one step from it, and new stands for the state after that step
abbrev pub StepsBy : Manager → Manager → ℕ → ℕ → Request → List Note → Type 0
StepsBy old new p n request notes =
    (S : State) → StandsFor old S → (T : State) × Step (rules_of old) (processes_of old) S p n request notes T × StandsFor new T

-- no owners conflict, each wait is blocked, and no traditional waits close a cycle
abbrev pub IsSafeManager : Manager → Type 0
IsSafeManager manager = ∥ IsSafe (rules_of manager).policy (locks_in_books manager) (waits_of manager) ∥₁

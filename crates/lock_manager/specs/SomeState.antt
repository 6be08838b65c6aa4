-- Each `Manager` stands for some state.
use Rattle.lock_manager.specs.declared.manager.Manager.{Manager}
use Rattle.lock_manager.specs.State.{State}
use Rattle.lock_manager.specs.ManagerView.{StandsFor}

-- any manager stands for some state
abbrev pub ManagersStandForSome : Type 0
ManagersStandForSome = (manager : Manager) → (S : State) × StandsFor manager S

-- What it is for a machine to grant a wait (POSIX.1-2017 fcntl, DESCRIPTION, F_SETLKW; fcntl_locking(2), F_OFD_SETLKW; flock(2)).
use Rattle.std.specs.Prelude.{◌≡◌, ◌+◌, ◌≤◌, Some, List, ◌∷◌, ◌++◌, length}
use Rattle.wait_core.specs.declared.Wait.{Wait}
use Rattle.wait_core.specs.Blocking.{IsBlockedByLock}
use Rattle.wait_core.specs.WaitsView.{wait_of}
use Rattle.wait_core.specs.WellFormed.{IsWellFormed}
use Rattle.lock_manager.specs.declared.machine.Machine.{Machine}
use Rattle.lock_manager.specs.State.{State}
use Rattle.lock_manager.specs.Settling.{granted}
use Rattle.lock_manager.specs.MachineView.{Shows, SameRules, StayLive, KeepPlaces, machine_processes, machine_locks, machine_waits}

-- the wait is the one of its process in the list, it is well formed, and no lock blocks it
pub record IsGrantable (machine : Machine) (wait : Wait) : Type 0 where
  pub waits : wait_of (machine_waits machine) wait.p ≡ Some wait
  pub well_formed : IsWellFormed (machine_processes machine) wait
  pub free : ¬ IsBlockedByLock (machine_locks machine) wait

-- new shows the state in which the wait has left the list, its process lives and has the lock; all who lived live on, each place
-- that was kept is, and the descriptors and the rules stay
pub record Grants (old new : Machine) (wait : Wait) : Type 0 where
  pub shows : (S : State) (before after : List Wait) → Shows old S → S.waits ≡ before ++ wait ∷ after → Shows new (granted S before wait after)
  pub fewer : length (machine_waits new) + 1 ≤ length (machine_waits old)
  pub lives : StayLive old new
  pub places : KeepPlaces old new
  pub tables : new.tables ≡ old.tables
  pub same_rules : SameRules old new

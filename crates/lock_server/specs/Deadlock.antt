-- Which owner waits for which, and when a wait would close a cycle: edges, chains and cycles are those of `wait_core`, between owners.
use Rattle.std.specs.Prelude.{◌≡◌, ℕ, ◌⊎◌, IsTrue, Any, List}
use Rattle.range_core.specs.Ranges.{HeldConflicts, Covers}
use Rattle.wait_core.specs.declared.Family.{Family}
use Rattle.wait_core.specs.declared.Family.TheVariants.{Bytes, Whole}
use Rattle.wait_core.specs.declared.Policy.{Policy}
use Rattle.wait_core.specs.declared.Policy.TheVariants.{Held, Queue}
use Rattle.wait_core.specs.Blocking.{WaitsConflict}
use Rattle.wait_core.specs.Cycles.{ClosesWith, HasNoCycle, IsEdge, IsReachable}
use Rattle.lock_server.specs.declared.Pending.{Pending}
use Rattle.lock_server.specs.Pendings.{as_wait}
use Rattle.lock_server.specs.Files.{FileState}
use Rattle.lock_server.specs.States.{State}

-- on some byte of the wait's range this other owner has a lock that conflicts (POSIX.1-2017 fcntl, ERRORS, EDEADLK)
pub record BlocksByBytes (F : FileState) (wait : Pending) (other : ℕ) : Type 0 where
  pub byte : ℕ
  pub covered : Covers wait.span byte
  pub another : ¬ (other ≡ wait.owner)
  pub conflicts : HeldConflicts (F.bytes other byte) wait.mode

-- this other owner has a flock lock that conflicts (flock(2))
pub record BlocksByFlock (F : FileState) (wait : Pending) (other : ℕ) : Type 0 where
  pub another : ¬ (other ≡ wait.owner)
  pub conflicts : HeldConflicts (F.flocks other) wait.mode

-- this other owner has a lock of the wait's family that conflicts (POSIX.1-2017 fcntl, ERRORS, EDEADLK)
abbrev pub BlocksIn : Family → FileState → Pending → ℕ → Type 0
BlocksIn Bytes F wait other = BlocksByBytes F wait other
BlocksIn Whole F wait other = BlocksByFlock F wait other

-- the owner blocks the wait, where these came before it: by a lock and, under the queue policy, also by an earlier wait
-- (POSIX.1-2017 fcntl, ERRORS, EDEADLK; the queue policy is this project's choice)
abbrev pub IsBlockedByOwner : Policy → FileState → List Pending → Pending → ℕ → Type 0
IsBlockedByOwner Held F earlier wait other = BlocksIn wait.family F wait other
IsBlockedByOwner Queue F earlier wait other =
    BlocksIn wait.family F wait other ⊎ Any (λ v. (v.owner ≡ other) × WaitsConflict (as_wait v) (as_wait wait)) earlier

-- one owner waits for another on the file: it has a detected wait there, and the other blocks it
-- (POSIX.1-2017 fcntl, ERRORS, EDEADLK; which waits are detected is the server's choice)
abbrev pub WaitsForOn : Policy → FileState → ℕ → ℕ → Type 0
WaitsForOn policy F one other =
    IsEdge (λ (wait : Pending). wait.owner) (λ (wait : Pending). IsTrue wait.detect) (IsBlockedByOwner policy F) F.waits one other

-- one owner waits for another on some file (POSIX.1-2017 fcntl, ERRORS, EDEADLK)
pub record WaitsFor (policy : Policy) (S : State) (one other : ℕ) : Type 0 where
  pub file : ℕ
  pub on_file : WaitsForOn policy (S.files file) one other

-- one owner is reachable from another (POSIX.1-2017 fcntl, ERRORS, EDEADLK)
abbrev pub LeadsTo : Policy → State → ℕ → ℕ → Type 0
LeadsTo policy S one other = IsReachable (WaitsFor policy S) one other

-- a wait that would join those on the file closes a cycle: from some owner that blocks it its own is reachable
-- (POSIX.1-2017 fcntl, ERRORS, EDEADLK, "would cause a deadlock")
abbrev pub ClosesCycle : Policy → State → ℕ → Pending → Type 0
ClosesCycle policy S file wait = ClosesWith (WaitsFor policy S) (IsBlockedByOwner policy (S.files file) (S.files file).waits wait) wait.owner

-- one owner waits for another, and was given no lock since it waits (this project's choice)
abbrev pub WaitsUncrossed : Policy → State → ℕ → ℕ → Type 0
WaitsUncrossed policy S one other = WaitsFor policy S one other × ¬ IsTrue (S.crossed one)

-- from no owner is itself reachable through owners that were given no lock since they wait; of owners that make no other request while
-- they wait, that is: from no owner is itself reachable (POSIX.1-2017 fcntl, ERRORS, EDEADLK; the exception is this project's choice)
abbrev pub IsFreeOfCycles : Policy → State → Type 0
IsFreeOfCycles policy S = HasNoCycle (WaitsUncrossed policy S)

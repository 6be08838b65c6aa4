-- What holds of a lock server between any two calls.
use Rattle.std.specs.Prelude.{◌≡◌, ◌≢◌, ℕ, AllPairs, Contains}
use Rattle.lock_book.specs.Conflicts.{IsFreeOfConflicts}
use Rattle.wait_core.specs.declared.Policy.{Policy}
use Rattle.lock_server.specs.Files.{FileState}
use Rattle.lock_server.specs.Settling.{IsSettled}
use Rattle.lock_server.specs.States.{State, WaitsOn}
use Rattle.lock_server.specs.Deadlock.{IsFreeOfCycles}

-- no two owners of the file conflict
abbrev pub IsCompatible : FileState → Type 0
IsCompatible F = IsFreeOfConflicts F.bytes F.flocks

-- each ticket names one wait or one grant (this project's choice)
pub record AreTicketsOnce (S : State) : Type 0 where
  pub on_one_file : (file other ticket : ℕ) → WaitsOn S file ticket → WaitsOn S other ticket → file ≡ other
  pub on_a_file : (file : ℕ) → AllPairs (λ v w. v.ticket ≢ w.ticket) (S.files file).waits
  pub granted_once : AllPairs (λ one other. one ≢ other) S.grants
  pub waits_or_granted : (file ticket : ℕ) → WaitsOn S file ticket → ¬ Contains S.grants ticket

-- between two calls no owners conflict, each wait is blocked, no detected waits close a cycle, and each ticket is there once
-- (POSIX.1-2017 fcntl; flock(2); that each wait is blocked is this project's choice)
pub record IsSafe (policy : Policy) (S : State) : Type 0 where
  pub compatible : (file : ℕ) → IsCompatible (S.files file)
  pub settled : (file : ℕ) → IsSettled policy (S.files file)
  pub free_of_cycles : IsFreeOfCycles policy S
  pub once : AreTicketsOnce S

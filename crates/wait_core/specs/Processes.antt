-- Sets of processes (the words are this project's choice).
use Rattle.std.specs.List.{list_any}
use Rattle.std.specs.Prelude.{ℕ, ◌≡◌, List, ◌-◌, ◌^◌, ◌<◌, ◌≤◌, ◌==◌, Bool, false, zero, suc, IsTrue, IsFalse}
use Rattle.std.specs.Int.{bit_at}
use Rattle.wait_core.specs.declared.processes.TheConstants.{PROCESSES}
use Rattle.wait_core.specs.declared.processes.ProcessSet.{ProcessSet}
use Rattle.wait_core.specs.declared.Wait.{Wait}

-- the set of no process
abbrev pub no_process : ProcessSet
no_process = record { bits = 0 }

-- whether the process is in the set: process p is bit p - 1, and there is no process 0
unfoldable pub is_member : ProcessSet → ℕ → Bool
is_member set zero = false
is_member set (suc k) = bit_at set.bits k == 1

-- by how much the word of the set is below that of all processes: less with each one more
unfoldable pub lacking : ProcessSet → ℕ
lacking set = 2 ^ 64 - set.bits

-- the process is in the one set and not in the other, and each of less number that is in the one is in the other
pub record IsFirstBeyond (set other : ProcessSet) (p : ℕ) : Type 0 where
  pub from_one : 1 ≤ p
  pub few : p ≤ PROCESSES
  pub known : IsTrue (is_member set p)
  pub beyond : IsFalse (is_member other p)
  pub least : (q : ℕ) → q < p → IsTrue (is_member set q) → IsTrue (is_member other q)

-- each process of the one set is in the other
abbrev pub IsWithin : ProcessSet → ProcessSet → Type 0
IsWithin set other = (p : ℕ) → p ≤ PROCESSES → IsTrue (is_member set p) → IsTrue (is_member other p)

-- the set has the processes of these waits, and no other
abbrev pub AreThoseWaiting : ProcessSet → List Wait → Type 0
AreThoseWaiting set waits = (p : ℕ) → p ≤ PROCESSES → is_member set p ≡ list_any (λ wait. wait.p == p) waits

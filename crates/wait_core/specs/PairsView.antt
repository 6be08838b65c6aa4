-- What `Pairs` stands for (the words are this project's choice).
use Rattle.std.specs.Prelude.{ℕ, ◌≤◌, ◌↔◌, Bool, List, [], slice_index_or, IsTrue}
use Rattle.wait_core.specs.declared.processes.TheConstants.{PROCESSES}
use Rattle.wait_core.specs.declared.pairs.Pairs.{Pairs}
use Rattle.wait_core.specs.declared.Wait.{Wait}
use Rattle.wait_core.specs.Locks.{Locks}
use Rattle.wait_core.specs.Pairs.{IsBlockedWait, StandsBehind}
use Rattle.wait_core.specs.Processes.{no_process, is_member}

-- whether the first process is told to wait for the second: the second is in the row of the first
unfoldable pub pair_in : Pairs → ℕ → ℕ → Bool
pair_in pairs p q = is_member (slice_index_or pairs.rows.items p no_process) q

-- of this process it is told whether it blocks the wait by a lock
abbrev pub TellsPair : Pairs → Locks → ℕ → Wait → Type 0
TellsPair pairs locks q wait = IsTrue (pair_in pairs wait.p q) ↔ IsBlockedWait locks wait.p q wait

-- and of each process
abbrev pub TellsWait : Pairs → Locks → Wait → Type 0
TellsWait pairs locks wait = (q : ℕ) → 1 ≤ q → q ≤ PROCESSES → TellsPair pairs locks q wait

-- of each two processes it is told whether the first has a traditional wait behind one of the second that conflicts with it
pub record TellsQueue (pairs : Pairs) (waits : List Wait) : Type 0 where
  pub stands : (p q : ℕ) → p ≤ PROCESSES → 1 ≤ q → q ≤ PROCESSES → IsTrue (pair_in pairs p q) ↔ StandsBehind [] waits p q

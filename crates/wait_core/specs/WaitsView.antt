-- What `Waits` stands for (the words are this project's choice).
use Rattle.std.specs.Prelude.{◌≡◌, ◌≢◌, ℕ, suc, ◌<◌, ◌≤◌, ◌==◌, ◌↔◌, Bool, not, Option, List, find, filter, IsTrue}
use Rattle.range_core.specs.declared.TheConstants.{OFFMAX}
use Rattle.range_core.specs.declared.Span.{Span}
use Rattle.range_core.specs.Ranges.{Covers}
use Rattle.lock_book.specs.declared.Owner.{Owner}
use Rattle.lock_book.specs.declared.Owner.TheVariants.{Process}
use Rattle.wait_core.specs.declared.Policy.{Policy}
use Rattle.wait_core.specs.declared.Policy.TheVariants.{Held}
use Rattle.wait_core.specs.declared.Wait.{Wait}
use Rattle.wait_core.specs.declared.processes.TheConstants.{PROCESSES}
use Rattle.wait_core.specs.declared.waits.Waits.{Waits}
use Rattle.wait_core.specs.Locks.{Locks}
use Rattle.wait_core.specs.Cycles.{WaitsFor}
use Rattle.wait_core.specs.PairsView.{pair_in}

-- the waits in order of arrival
unfoldable pub waits_of : Waits → List Wait
waits_of waits = waits.waits.items

-- the policy of the waits
unfoldable pub policy_of : Waits → Policy
policy_of waits = waits.policy

-- how many processes there are
unfoldable pub processes_of : Waits → ℕ
processes_of waits = waits.processes

-- whether the first process is told to wait for the second by a lock
unfoldable pub has_pair : Waits → ℕ → ℕ → Bool
has_pair waits p q = pair_in waits.pairs p q

-- the process is told to wait for some process by a lock
abbrev pub IsTold : Waits → ℕ → Type 0
IsTold waits p = (k : ℕ) × (k < PROCESSES) × IsTrue (has_pair waits p (suc k))

-- the wait of a process, of which it has one at most
abbrev pub wait_of : List Wait → ℕ → Option Wait
wait_of waits p = find (λ wait. wait.p == p) waits

-- the waits of all other processes
abbrev pub without_wait_of : List Wait → ℕ → List Wait
without_wait_of waits p = filter (λ wait. not (wait.p == p)) waits

-- the pairs that are told are those of these locks: a process is told to wait for another by a lock just where it does
-- (what one waits for by an earlier wait, the list itself tells)
pub record AreTold (waits : Waits) (locks : Locks) : Type 0 where
  pub pairs : (p q : ℕ) → p ≤ 64 → 1 ≤ q → q ≤ 64 → IsTrue (has_pair waits p q) ↔ WaitsFor Held locks (waits_of waits) p q

-- the two have the same byte locks on each file but this one
abbrev pub AgreeBut : ℕ → Locks → Locks → Type 0
AgreeBut file old new = (other : ℕ) (owner : Owner) (byte : ℕ) → other ≢ file → new.bytes other owner byte ≡ old.bytes other owner byte

-- the two have the same traditional locks on the bytes of files, but for those of this owner on these bytes of this file
abbrev pub AgreeButOwner : ℕ → Owner → Span → Locks → Locks → Type 0
AgreeButOwner file owner span old new =
    (other q byte : ℕ) → byte ≤ OFFMAX → ¬ ((other ≡ file) × (Process q ≡ owner) × Covers span byte)
    → new.bytes other (Process q) byte ≡ old.bytes other (Process q) byte

-- The cycle that a wait would close, told step by step: by which lock, or under the queue policy by which earlier wait, each process
-- blocks the one before it (POSIX.1-2017 fcntl, ERRORS, EDEADLK; which cycle is told is this project's choice).
use Rattle.std.specs.Prelude.{◌≡◌, ◌≢◌, ℕ, zero, suc, ◌<◌, ◌≤◌, ◌↔◌, ◌⊎◌, Bool, false, Some, List, [], ◌∷◌, ◌++◌, All, Any, IsFalse, IsTrue, codes, decimal, length, slice_get, slice_index_or, take}
use Rattle.range_core.specs.Ranges.{Conflict, Covers}
use Rattle.lock_book.specs.declared.Held.{Held}
use Rattle.lock_book.specs.declared.Owner.TheVariants.{Process}
use Rattle.wait_core.specs.declared.Policy.{Policy}
use Rattle.wait_core.specs.declared.Policy.TheVariants as policies
use Rattle.wait_core.specs.declared.Wait.{Wait}
use Rattle.wait_core.specs.Blocking.{WaitsConflict}
use Rattle.wait_core.specs.Cycles.{IsChain, IsTraditional}
use Rattle.lock_manager.specs.declared.request.InTheWay.{InTheWay}
use Rattle.lock_manager.specs.declared.request.InTheWay.TheVariants as obstacles
use Rattle.lock_manager.specs.Asking.{IsFirstOf}
use Rattle.script_core.specs.declared.deadlock.Link.{Link}
use Rattle.script_core.specs.declared.deadlock.Start.{Start}
use Rattle.script_core.specs.declared.deadlock.Start.TheVariants.{Wanted, Waiting}
use Rattle.script_core.specs.EntryText.{tag}
use Rattle.script_core.specs.ReportText.{held_text, wait_text}

-- the line of the report says a traditional lock of this process, another owner, that conflicts with the wait on some byte
-- (POSIX.1-2017 fcntl, ERRORS, EDEADLK)
pub record IsLockAgainst (q : ℕ) (wait : Wait) (held : Held) : Type 0 where
  pub of_bytes : IsFalse held.whole
  pub file : held.file ≡ wait.file
  pub owner : held.owner ≡ Process q
  pub another : held.owner ≢ wait.owner
  pub byte : ℕ
  pub in_lock : Covers held.span byte
  pub in_wait : Covers wait.span byte
  pub conflicts : Conflict held.mode wait.mode

-- the other is a traditional wait of this process, and conflicts with the wait (the queue policy is this project's choice)
abbrev pub IsWaitAgainst : ℕ → Wait → Wait → Type 0
IsWaitAgainst q wait other = (other.p ≡ q) × IsTraditional other × WaitsConflict other wait

-- what makes the step from a wait, with these before it, to the process: the first line of the report that says a lock of it against the
-- wait; or, where none does, and under the queue policy, the first wait of it against that one (this project's choice)
abbrev pub IsStepTo : Policy → List Held → List Wait → Wait → ℕ → InTheWay → Type 0
IsStepTo policy report earlier wait q (obstacles.Lock held) = IsFirstOf (IsLockAgainst q wait) report held
IsStepTo policy report earlier wait q (obstacles.Wait other) =
    (policy ≡ policies.Queue) × All (λ held. ¬ IsLockAgainst q wait held) report × IsFirstOf (IsWaitAgainst q wait) earlier other

-- the link tells the step from the wait at this place, a traditional one of process p, with those before it
pub record IsLinkAt (policy : Policy) (report : List Held) (waits : List Wait) (p : ℕ) (link : Link) (place : ℕ) : Type 0 where
  pub wait : slice_get waits place ≡ Some link.wait
  pub of_p : link.wait.p ≡ p
  pub traditional : IsTraditional link.wait
  pub step : IsStepTo policy report (take place waits) link.wait link.process link.step

-- the link tells a step from there: from the wait that would join the list, behind all of it, or from one of a process in it
abbrev pub IsLink : Policy → List Held → List Wait → Start → Link → Type 0
IsLink policy report waits (Wanted wait) link = (link.wait ≡ wait) × IsStepTo policy report waits wait link.process link.step
IsLink policy report waits (Waiting p) link = (place : ℕ) × IsLinkAt policy report waits p link place

-- the links tell the steps from there through these processes, each to the next
abbrev pub AreLinks : Policy → List Held → List Wait → Start → List ℕ → List Link → Type 0
AreLinks policy report waits start [] links = links ≡ []
AreLinks policy report waits start (q ∷ qs) links =
    (link : Link) × (rest : List Link) × (links ≡ link ∷ rest) × (link.process ≡ q) × IsLink policy report waits start link
    × AreLinks policy report waits (Waiting q) qs rest

-- a wait of process p would close the cycle through these: the first blocks the wait, each waits for the next, and the last for p
abbrev pub IsCycle : (ℕ → Type 0) → (ℕ → ℕ → Type 0) → ℕ → ℕ → List ℕ → Type 0
IsCycle Blocks Waits p blocker through = Blocks blocker × IsChain Waits blocker through p

-- the first number in which they differ is less in the one
abbrev pub IsLess : List ℕ → List ℕ → Type 0
IsLess [] ys = ⊥
IsLess (x ∷ xs) [] = ⊥
IsLess (x ∷ xs) (y ∷ ys) = (x < y) ⊎ ((x ≡ y) × IsLess xs ys)

-- the links tell a cycle that the wait would close, where these processes block it and these wait for each other: the shortest and, of
-- several, the one with the least processes in order (this project's choice)
pub record TellsCycle (policy : Policy) (report : List Held) (waits : List Wait) (wait : Wait) (Blocks : ℕ → Type 0) (Waits : ℕ → ℕ → Type 0)
    (links : List Link) : Type 0 where
  pub blocker : ℕ
  pub through : List ℕ
  pub closes : IsCycle Blocks Waits wait.p blocker through
  pub shortest : (other : ℕ) (by : List ℕ) → IsCycle Blocks Waits wait.p other by → length through ≤ length by
  pub least : (other : ℕ) (by : List ℕ) → IsCycle Blocks Waits wait.p other by → length by ≡ length through
      → ¬ IsLess (other ∷ by) (blocker ∷ through)
  pub told : AreLinks policy report waits (Wanted wait) (blocker ∷ through ++ wait.p ∷ []) links

-- a step as a lock of the report or a wait says it, without the end of the line
abbrev pub step_text : InTheWay → List ℕ
step_text (obstacles.Lock held) = held_text held
step_text (obstacles.Wait wait) = wait_text wait

-- the first step: the process, and what of it blocks the wait
abbrev pub first_step_text : Link → List ℕ
first_step_text link = codes "would wait for " ++ decimal link.process ++ codes " (" ++ step_text link.step ++ codes ")"

-- a step behind the first: the process, the request that waits for it, and what of it blocks that
unfoldable pub next_step_text : Link → List ℕ
next_step_text link =
    codes ", which waits for " ++ decimal link.process ++ codes " (" ++ tag link.wait.p link.wait.n ++ codes ", " ++ step_text link.step ++ codes ")"

-- by the report and the waits, the process blocks a wait that has these before it
abbrev pub IsBlockedInReport : Policy → List Held → List Wait → Wait → ℕ → Type 0
IsBlockedInReport policies.Held report earlier wait q = Any (IsLockAgainst q wait) report
IsBlockedInReport policies.Queue report earlier wait q = Any (IsLockAgainst q wait) report ⊎ Any (IsWaitAgainst q wait) earlier

-- the wait at this place is a traditional one of process p, and process q blocks it
pub record BlocksAt (policy : Policy) (report : List Held) (waits : List Wait) (p q place : ℕ) : Type 0 where
  pub wait : Wait
  pub at : slice_get waits place ≡ Some wait
  pub of_p : wait.p ≡ p
  pub traditional : IsTraditional wait
  pub blocked : IsBlockedInReport policy report (take place waits) wait q

-- process p waits for process q, by the report and the waits
abbrev pub WaitsInReport : Policy → List Held → List Wait → ℕ → ℕ → Type 0
WaitsInReport policy report waits p q = (place : ℕ) × BlocksAt policy report waits p q place

-- there is a step from there to the process
abbrev pub LeadsInReport : Policy → List Held → List Wait → Start → ℕ → Type 0
LeadsInReport policy report waits (Wanted wait) q = IsBlockedInReport policy report waits wait q
LeadsInReport policy report waits (Waiting p) q = WaitsInReport policy report waits p q

-- the link tells a step to a process of the set, the least to which there is one
pub record IsLeastLink (policy : Policy) (report : List Held) (waits : List Wait) (start : Start) (layer : List Bool) (link : Link) : Type 0 where
  pub is_link : IsLink policy report waits start link
  pub member : IsTrue (slice_index_or layer link.process false)
  pub least : (q : ℕ) → LeadsInReport policy report waits start q → IsTrue (slice_index_or layer q false) → link.process ≤ q

-- at most so many steps lead from process q to process p
abbrev pub IsNear : (ℕ → ℕ → Type 0) → ℕ → ℕ → ℕ → Type 0
IsNear Waits p zero q = q ≡ p
IsNear Waits p (suc k) q = IsNear Waits p k q ⊎ ((next : ℕ) × Waits q next × IsNear Waits p k next)

-- the set is that of the processes from which at most so many steps lead to process p
abbrev pub IsLayer : (ℕ → ℕ → Type 0) → ℕ → ℕ → List Bool → Type 0
IsLayer Waits p k layer = (q : ℕ) → IsTrue (slice_index_or layer q false) ↔ IsNear Waits p k q

-- there is a step to a process from which at most so many lead to process p
abbrev pub LeadsNear : (ℕ → Type 0) → (ℕ → ℕ → Type 0) → ℕ → ℕ → Type 0
LeadsNear Leads Waits p k = (q : ℕ) × Leads q × IsNear Waits p k q

-- there is a step into the last of so many sets, and none into the one before
abbrev pub IsTight : (ℕ → Type 0) → (ℕ → ℕ → Type 0) → ℕ → ℕ → Type 0
IsTight Leads Waits p zero = LeadsNear Leads Waits p zero
IsTight Leads Waits p (suc k) = LeadsNear Leads Waits p (suc k) × (¬ LeadsNear Leads Waits p k)

-- these are the sets of the processes from which at most so many steps lead to the process of the wait, up to the first with one that
-- blocks it
pub record IsLayersTo (policy : Policy) (report : List Held) (waits : List Wait) (wait : Wait) (layers : List (List Bool)) : Type 0 where
  pub last : ℕ
  pub count : length layers ≡ suc last
  pub each : (k : ℕ) (layer : List Bool) → slice_get layers k ≡ Some layer → IsLayer (WaitsInReport policy report waits) wait.p k layer
  pub tight : IsTight (LeadsInReport policy report waits (Wanted wait)) (WaitsInReport policy report waits) wait.p last

-- the links tell the cycle by the report and the waits; none where there is no cycle
abbrev pub TellsCycleIfAny : Policy → List Held → List Wait → Wait → List Link → Type 0
TellsCycleIfAny policy report waits wait [] =
    (blocker : ℕ) (through : List ℕ)
    → ¬ IsCycle (LeadsInReport policy report waits (Wanted wait)) (WaitsInReport policy report waits) wait.p blocker through
TellsCycleIfAny policy report waits wait (link ∷ links) =
    TellsCycle policy report waits wait (LeadsInReport policy report waits (Wanted wait)) (WaitsInReport policy report waits) (link ∷ links)

-- What keeps a list of waits free of cycles (POSIX.1-2017 fcntl, ERRORS, EDEADLK).
use Rattle.std.specs.Prelude.{◌≡◌, ◌≢◌, ℕ, List, [], ◌∷◌, ◌++◌, All}
use Rattle.lock_book.specs.declared.Owner.{Owner}
use Rattle.lock_book.specs.declared.Owner.TheVariants.{Process}
use Rattle.wait_core.specs.declared.Policy.{Policy}
use Rattle.wait_core.specs.declared.Wait.{Wait}
use Rattle.wait_core.specs.Locks.{Locks}
use Rattle.wait_core.specs.Cycles.{IsTraditional, ClosesCycle, IsFreeOfCycles}
use Rattle.wait_core.specs.WaitsView.{without_wait_of}

-- the two have the same byte locks, but for those of one owner
abbrev pub AgreeButOwner : Owner → Locks → Locks → Type 0
AgreeButOwner owner old new = (file : ℕ) (other : Owner) (byte : ℕ) → other ≢ owner → new.bytes file other byte ≡ old.bytes file other byte

-- the two have the same traditional locks
abbrev pub AgreeOnProcesses : Locks → Locks → Type 0
AgreeOnProcesses old new = (file p byte : ℕ) → new.bytes file (Process p) byte ≡ old.bytes file (Process p) byte

-- a list free of cycles stays so when a wait joins that, if it is traditional, closes none
abbrev pub FreeWhenOneJoins : Type 0
FreeWhenOneJoins = (policy : Policy) (locks : Locks) (waits : List Wait) (wait : Wait)
    → IsFreeOfCycles policy locks waits → (IsTraditional wait → ¬ ClosesCycle policy locks waits wait)
    → IsFreeOfCycles policy locks (waits ++ wait ∷ [])

-- a list free of cycles stays so when the waits of a process leave
abbrev pub FreeWhenOneLeaves : Type 0
FreeWhenOneLeaves = (policy : Policy) (locks : Locks) (waits : List Wait) (p : ℕ)
    → IsFreeOfCycles policy locks waits → IsFreeOfCycles policy locks (without_wait_of waits p)

-- a list free of cycles stays so when the locks of an owner change that has no wait
abbrev pub FreeWhenLocksChange : Type 0
FreeWhenLocksChange = (policy : Policy) (old new : Locks) (waits : List Wait) (owner : Owner)
    → IsFreeOfCycles policy old waits → AgreeButOwner owner old new → All (λ wait. wait.owner ≢ owner) waits
    → IsFreeOfCycles policy new waits

-- a list free of cycles stays so when only locks of descriptions change
abbrev pub FreeWhenDescriptionLocksChange : Type 0
FreeWhenDescriptionLocksChange = (policy : Policy) (old new : Locks) (waits : List Wait)
    → IsFreeOfCycles policy old waits → AgreeOnProcesses old new → IsFreeOfCycles policy new waits

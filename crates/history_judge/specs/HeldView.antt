-- The locks on all files that happenings leave.
use Rattle.std.specs.Prelude.{◌≡◌, ℕ, Bool, true, false, Option, Some, None, Result, IfOk, OnErr}
use Rattle.std.specs.BTreeMap.{get}
use Rattle.std.specs.Ordering.{nat_cmp}
use Rattle.range_core.specs.declared.memory.Memory.{Memory}
use Rattle.history_core.specs.declared.held_locks.HeldLocks.{HeldLocks}
use Rattle.history_core.specs.HeldView.{locks_in}
use Rattle.history_core.specs.Locks.{FileLocks, no_locks}
use Rattle.history_core.specs.Orders.{MayDo}
use Rattle.history_judge.specs.declared.held_files.HeldFiles.{HeldFiles}
use Rattle.history_judge.specs.declared.order.FileHappening.{FileHappening}

-- the locks of an entry: none, where there is none
abbrev pub held_on : Option HeldLocks → FileLocks
held_on None = no_locks
held_on (Some held) = locks_in held

-- the locks on each file
abbrev pub locks_on : HeldFiles → ℕ → FileLocks
locks_on held file = held_on (get nat_cmp held.files file)

-- on its own file this happens, where it may, and else nothing
pub record Happens (old : FileLocks) (happening : FileHappening) (result : Result Bool Memory) (new : FileLocks) : Type 0 where
  pub leaves : IfOk result (λ may. may ≡ true → MayDo happening.deed old happening.request new)
  pub may_not : IfOk result (λ may. may ≡ false → (after : FileLocks) → ¬ MayDo happening.deed old happening.request after)
  pub stays : IfOk result (λ may. may ≡ false → new ≡ old)
  pub err : OnErr result (new ≡ old)

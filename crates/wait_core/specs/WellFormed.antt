-- The waits that can be asked for.
use Rattle.std.specs.Prelude.{ℕ, ◌<◌, ◌≤◌, Bool, true, false, IsTrue}
use Rattle.range_core.specs.Ranges.{IsByteRange}
use Rattle.lock_book.specs.declared.Owner.{Owner}
use Rattle.lock_book.specs.declared.Owner.TheVariants.{Process, Description}
use Rattle.wait_core.specs.declared.Family.{Family}
use Rattle.wait_core.specs.declared.Family.TheVariants.{Bytes, Whole}
use Rattle.wait_core.specs.declared.Wait.{Wait}

-- whether such an owner can have locks of the family: a flock lock is always a description's (flock(2))
abbrev pub can_own : Family → Owner → Bool
can_own Bytes owner = true
can_own Whole (Process p) = false
can_own Whole (Description d) = true

-- the wait is of one of so many processes, numbered from 1, on one of the 64 files and on bytes that a file can have
-- (this project's choice)
pub record IsWellFormed (processes : ℕ) (wait : Wait) : Type 0 where
  pub from_one : 1 ≤ wait.p
  pub process : wait.p ≤ processes
  pub file : wait.file < 64
  pub range : IsByteRange wait.span
  pub owner : IsTrue (can_own wait.family wait.owner)

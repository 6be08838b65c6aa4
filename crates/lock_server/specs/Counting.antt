-- How many locks and waits clients have.
use Rattle.std.specs.Prelude.{◌≡◌, ℕ, zero, suc, ◌+◌, ◌-◌, ◌^◌, ◌≤◌, min, if◌then◌else◌, Option, Some, None, length, filter}
use Rattle.range_core.specs.declared.TheConstants.{OFFMAX}
use Rattle.range_core.specs.declared.Mode.{Mode}
use Rattle.range_core.specs.declared.Mode.TheVariants.{Read, Write}
use Rattle.range_core.specs.Ranges.{Modes}
use Rattle.lock_server.specs.declared.Counts.{Counts}
use Rattle.lock_server.specs.Clients.{is_within}
use Rattle.lock_server.specs.Files.{FileState}
use Rattle.lock_server.specs.States.{State}

-- the sum over the numbers below this one (this project's choice)
unfoldable pub sum_below : ℕ → (ℕ → ℕ) → ℕ
sum_below zero count = 0
sum_below (suc number) count = sum_below number count + count number

-- this is the sum over all numbers, where from some number on there is nothing to count (this project's choice)
pub record IsSum (count : ℕ → ℕ) (total : ℕ) : Type 0 where
  pub bound : ℕ
  pub beyond : (number : ℕ) → bound ≤ number → count number ≡ 0
  pub is : total ≡ sum_below bound count

-- 1 where a run begins: there is a mode, and the byte before hasn't it
-- (fcntl_locking(2), "Advisory record locking", "splitting, shrinking, or coalescing")
abbrev pub begins : Option Mode → Option Mode → ℕ
begins before None = 0
begins None (Some mode) = 1
begins (Some Read) (Some Read) = 0
begins (Some Read) (Some Write) = 1
begins (Some Write) (Some Read) = 1
begins (Some Write) (Some Write) = 0

-- 1 where a run begins at the byte (this project's choice)
abbrev pub begins_at : Modes → ℕ → ℕ
begins_at modes zero = begins None (modes 0)
begins_at modes (suc byte) = begins (modes byte) (modes (suc byte))

-- how many runs there are: largest ranges of one mode
-- (fcntl_locking(2), "Advisory record locking", "splitting, shrinking, or coalescing")
abbrev pub runs_of : Modes → ℕ
runs_of modes = sum_below (OFFMAX + 1) (begins_at modes)

-- 1 where there is a flock lock (flock(2))
abbrev pub lock_of : Option Mode → ℕ
lock_of None = 0
lock_of (Some mode) = 1

-- how many runs the owners from first to last have on the file (this project's choice)
abbrev pub runs_on : ℕ → ℕ → FileState → ℕ
runs_on first last F = sum_below (last + 1) (λ owner. if is_within first last owner then runs_of (F.bytes owner) else 0)

-- how many flock locks they have there (this project's choice)
abbrev pub flock_locks_on : ℕ → ℕ → FileState → ℕ
flock_locks_on first last F = sum_below (last + 1) (λ owner. if is_within first last owner then lock_of (F.flocks owner) else 0)

-- how many waits they have there (this project's choice)
abbrev pub waits_on : ℕ → ℕ → FileState → ℕ
waits_on first last F = length (filter (λ wait. is_within first last wait.owner) F.waits)

-- a count as it is told: one that is larger than the largest number is told as that (this project's choice)
abbrev pub told : ℕ → ℕ
told count = min count (2 ^ 64 - 1)

-- this is told of the sum over all files (this project's choice)
pub record IsTold (S : State) (count : FileState → ℕ) (number : ℕ) : Type 0 where
  pub total : ℕ
  pub sum : IsSum (λ file. count (S.files file)) total
  pub is : number ≡ told total

-- these are the runs, the flock locks and the waits of the owners from first to last, on all files (this project's choice)
pub record AreCounts (S : State) (first last : ℕ) (counts : Counts) : Type 0 where
  pub runs : IsTold S (runs_on first last) counts.runs
  pub flock_locks : IsTold S (flock_locks_on first last) counts.flock_locks
  pub waits : IsTold S (waits_on first last) counts.waits

-- and on one file
pub record AreCountsOn (F : FileState) (first last : ℕ) (counts : Counts) : Type 0 where
  pub runs : counts.runs ≡ told (runs_on first last F)
  pub flock_locks : counts.flock_locks ≡ told (flock_locks_on first last F)
  pub waits : counts.waits ≡ told (waits_on first last F)

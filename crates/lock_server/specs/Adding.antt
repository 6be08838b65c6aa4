-- Locks that take nothing from what their owner has, so that who was blocked stays so (the words are this project's choice).
use Rattle.std.specs.Prelude.{◌≡◌, ℕ, Option, Some, None, [], take, slice_get}
use Rattle.range_core.specs.declared.Mode.{Mode}
use Rattle.range_core.specs.declared.Mode.TheVariants.{Read, Write}
use Rattle.range_core.specs.Ranges.{Covers}
use Rattle.wait_core.specs.declared.Family.{Family}
use Rattle.wait_core.specs.declared.Family.TheVariants.{Bytes, Whole}
use Rattle.wait_core.specs.declared.Policy.{Policy}
use Rattle.lock_server.specs.declared.Pending.{Pending}
use Rattle.lock_server.specs.Files.{FileState, GetsLock}
use Rattle.lock_server.specs.Settling.{AllBlocked}

-- what is held, if anything, is no more than the wanted mode
abbrev pub IsAtMost : Option Mode → Mode → Type 0
IsAtMost None wanted = Unit {0}
IsAtMost (Some Read) wanted = Unit {0}
IsAtMost (Some Write) Read = ⊥
IsAtMost (Some Write) Write = Unit {0}

-- the lock takes nothing from what its owner has: of bytes on none of its bytes
abbrev pub AddsIn : Family → FileState → Pending → Type 0
AddsIn Bytes F wait = (byte : ℕ) → Covers wait.span byte → IsAtMost (F.bytes wait.owner byte) wait.mode
AddsIn Whole F wait = IsAtMost (F.flocks wait.owner) wait.mode

-- the lock that the wait is for takes nothing from what its owner has
abbrev pub OnlyAdds : FileState → Pending → Type 0
OnlyAdds F wait = AddsIn wait.family F wait

-- where each wait before the one at this place is blocked, it is so, too, once that one has its lock
abbrev pub LeavesBlocked : Policy → FileState → ℕ → Type 0
LeavesBlocked policy F place = (wait : Pending) (G : FileState) → slice_get F.waits place ≡ Some wait → GetsLock F wait G
    → AllBlocked policy F [] (take place F.waits) → AllBlocked policy G [] (take place F.waits)

-- What the locks stand for that happenings leave.
use Rattle.std.specs.Prelude.{ℕ, ◌==◌, if◌then◌else◌, Option, None, Some, List, [], ◌∷◌}
use Rattle.range_core.specs.declared.Mode.{Mode}
use Rattle.history_core.specs.declared.byte_locks.ByteLock.{ByteLock}
use Rattle.history_core.specs.declared.held_locks.FlockLock.{FlockLock}
use Rattle.history_core.specs.declared.held_locks.HeldLocks.{HeldLocks}
use Rattle.history_core.specs.PossibilityView.{locks_of}
use Rattle.history_core.specs.Locks.{FileLocks}

-- the locks on the file
abbrev pub locks_in : HeldLocks → FileLocks
locks_in held = locks_of held.possibility

-- the flock lock that is kept as a lock on a byte
abbrev pub flock_of : ByteLock → FlockLock
flock_of lock = record { owner = lock.owner; mode = lock.mode }

-- the mode that the first of the flock locks gives that the owner has
abbrev pub flocks_in : List FlockLock → ℕ → Option Mode
flocks_in [] owner = None
flocks_in (lock ∷ locks) owner = if lock.owner == owner then Some lock.mode else flocks_in locks owner

-- What the flock locks on a file stand for.
use Rattle.std.specs.Prelude.{ℕ, Option}
use Rattle.range_core.specs.declared.Mode.{Mode}
use Rattle.history_core.specs.declared.flock_locks.FlockLocks.{FlockLocks}
use Rattle.history_core.specs.ByteView.{bytes_of}

-- each owner's mode of the whole file: that on byte 0 of the list
abbrev pub flocks_of : FlockLocks → ℕ → Option Mode
flocks_of locks owner = bytes_of locks.locks owner 0

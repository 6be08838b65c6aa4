-- What the byte locks on a file stand for.
use Rattle.std.specs.Prelude.{ℕ}
use Rattle.range_core.specs.Ranges.{Modes}
use Rattle.history_core.specs.declared.byte_locks.ByteLocks.{ByteLocks}
use Rattle.history_core.specs.ByteLists.{bytes_in}

-- each owner's mode on each byte
abbrev pub bytes_of : ByteLocks → ℕ → Modes
bytes_of locks = bytes_in locks.runs.items

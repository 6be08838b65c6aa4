use Rattle.history_core.proofs.Common.{◌≡◌, ◌≤◌, ◌<◌, ℕ, Some, bytes_of}
use Rattle.std.proofs.Common.{◌-◌}
use Rattle.history_core.proofs.byte_locks.ByteLocks.has_all.Given as goal

abbrev pub invariant-loop-lock : goal.invariant-loop-lock
invariant-loop-lock l = (l.span.first ≤ l.at) × (l.at ≤ l.span.last) × ((byte : ℕ) → l.span.first ≤ byte → byte < l.at → bytes_of l.self l.owner byte ≡ Some l.mode)

abbrev pub decreases-loop-lock : goal.decreases-loop-lock
decreases-loop-lock l = l.span.last - l.at

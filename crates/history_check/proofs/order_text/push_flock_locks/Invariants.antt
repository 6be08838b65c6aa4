use Rattle.std.proofs.Common.{◌≡◌, ◌++◌, take, flat_map}
use Rattle.history_check.specs.OrderTold.{flock_line}
use Rattle.history_check.proofs.order_text.push_flock_locks.Given as goal

abbrev pub invariant-loop-lock : goal.invariant-loop-lock
invariant-loop-lock l = l.text.items ≡ l.fn.text.items ++ flat_map (flock_line l.file) (take l.lock-index l.locks)

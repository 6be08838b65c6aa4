use Rattle.std.proofs.Common.{◌≡◌, ◌++◌, take, flat_map}
use Rattle.history_check.specs.OrderTold.{byte_lock_line}
use Rattle.history_check.proofs.order_text.push_byte_locks.Given as goal

abbrev pub invariant-loop-lock : goal.invariant-loop-lock
invariant-loop-lock l = l.text.items ≡ l.fn.text.items ++ flat_map (byte_lock_line l.file) (take l.lock-index l.locks)

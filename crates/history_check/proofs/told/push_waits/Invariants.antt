use Rattle.std.proofs.Common.{◌≡◌, ◌++◌, take, flat_map}
use Rattle.history_check.specs.Told.{wait_line}
use Rattle.history_check.proofs.told.push_waits.Given as goal

abbrev pub invariant-loop-wait : goal.invariant-loop-wait
invariant-loop-wait l = l.text.items ≡ l.fn.text.items ++ flat_map wait_line (take l.wait-index l.waits)

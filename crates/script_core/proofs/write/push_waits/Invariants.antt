use Rattle.script_core.proofs.Common.{◌≡◌, ◌++◌, flat_map, take, wait_line}
use Rattle.script_core.proofs.write.push_waits.Given as goal

abbrev pub invariant-loop-wait : goal.invariant-loop-wait
invariant-loop-wait l = l.text.items ≡ l.fn.text.items ++ flat_map wait_line (take l.wait-index l.waits)

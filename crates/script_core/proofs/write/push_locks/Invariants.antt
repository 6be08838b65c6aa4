use Rattle.script_core.proofs.Common.{◌≡◌, ◌++◌, flat_map, take, held_line}
use Rattle.script_core.proofs.write.push_locks.Given as goal

abbrev pub invariant-loop-held : goal.invariant-loop-held
invariant-loop-held l = l.text.items ≡ l.fn.text.items ++ flat_map held_line (take l.held-index l.locks)

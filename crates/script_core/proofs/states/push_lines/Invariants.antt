use Rattle.script_core.proofs.Common.{◌≡◌, ◌++◌, codes, flat_map, take, marked_line}
use Rattle.script_core.proofs.states.push_lines.Given as goal

abbrev pub invariant-loop-line : goal.invariant-loop-line
invariant-loop-line l = l.text.items ≡ l.fn.text.items ++ flat_map (marked_line (codes "# ")) (take l.line-index l.told)

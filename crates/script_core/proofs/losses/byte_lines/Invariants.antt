use Rattle.script_core.proofs.Common.{◌≡◌, map, byte_line}
use Rattle.script_core.proofs.losses.byte_lines.Given as goal

abbrev pub invariant-loop-mode : goal.invariant-loop-mode
invariant-loop-mode l =
    (goal.iterator-loop-mode).can_next l.mode-iterator ×
    (goal.iterator-loop-mode).is_finite l.mode-iterator ×
    (l.lines.items ≡ map (byte_line l.file l.owner) l.yielded)

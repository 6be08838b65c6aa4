use Rattle.script_core.proofs.Common.{◌≡◌, ◌++◌, State, StandsFor, together_lines, Extends}
use Rattle.script_core.proofs.explain.push_all_together.Given as goal

abbrev pub invariant-loop-index : goal.invariant-loop-index
invariant-loop-index l =
    ((T : State) → StandsFor l.manager T → l.text.items ≡ l.fn.text.items ++ together_lines l.entry T.visits l.section l.visit l.index)
    × Extends l.fn.text.items l.text.items

use Rattle.script_core.proofs.Common.{◌≤◌, length, take}
use Rattle.script_core.proofs.StateLemmas.{HasMissed}
use Rattle.script_core.proofs.states.push_missing.Given as goal

abbrev pub invariant-loop-line : goal.invariant-loop-line
invariant-loop-line l =
    (l.from ≤ length l.others) × HasMissed (take l.line-index l.told) l.others l.mark l.fn.text.items l.text.items

use Rattle.script_core.proofs.Common.{◌≡◌}
use Rattle.script_core.proofs.ExplainLemmas.{HasExplained}
use Rattle.script_core.proofs.explain.push_explained.Given as goal

abbrev pub invariant-loop-entry : goal.invariant-loop-entry
invariant-loop-entry l =
    (l.number ≡ l.entry-index) × HasExplained l.fn.states l.fn.rules l.processes l.journal l.entry-index l.manager
    l.before.items l.fn.text.items l.text.items

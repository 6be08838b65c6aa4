use Rattle.script_search.proofs.LoopLemmas.{NoneBelow}
use Rattle.shown_run.specs.ShownRuns.{ShownByRun}
use Rattle.shown_run.proofs.runs.outcome_in.Given as goal

abbrev pub invariant-loop-finding : goal.invariant-loop-finding
invariant-loop-finding l = NoneBelow (ShownByRun l.script l.journal) l.fail_on l.finding-index

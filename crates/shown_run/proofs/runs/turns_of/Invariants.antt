use Rattle.std.proofs.Common.{◌≡◌, take}
use Rattle.script_orders.specs.Searching.{processes_of}
use Rattle.shown_run.proofs.runs.turns_of.Given as goal

abbrev pub invariant-loop-entry : goal.invariant-loop-entry
invariant-loop-entry l = l.run.items ≡ processes_of (take l.entry-index l.journal)

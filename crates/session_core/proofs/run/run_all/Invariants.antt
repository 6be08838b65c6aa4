use Rattle.session_core.proofs.Common.{take, HasRun}
use Rattle.session_core.proofs.run.run_all.Given as goal

abbrev pub invariant-loop-p : goal.invariant-loop-p
invariant-loop-p l = HasRun l.fn.rules l.processes (take l.p-index l.arrivals) l.sequencer l.journal.items

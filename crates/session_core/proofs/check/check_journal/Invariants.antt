use Rattle.session_core.proofs.Common.{take}
use Rattle.session_core.specs.Checking.{HasAccepted}
use Rattle.session_core.proofs.check.check_journal.Given as goal

abbrev pub invariant-loop-entry : goal.invariant-loop-entry
invariant-loop-entry l = HasAccepted l.fn.rules l.processes l.checker (take l.entry-index l.entries)

use Rattle.script_core.proofs.Common.{HasRead}
use Rattle.script_core.specs.ScriptView.{unread_in}
use Rattle.script_core.proofs.script.parse.Given as goal

-- the arrivals that were read are these
abbrev pub invariant-loop-arrivals : goal.invariant-loop-arrivals
invariant-loop-arrivals l = HasRead l.bytes l.reader l.arrivals.items

abbrev pub decreases-loop-arrivals : goal.decreases-loop-arrivals
decreases-loop-arrivals l = unread_in l.reader

use Rattle.lock_server.proofs.Common.{◌+◌, ◌-◌, modes_of}
use Rattle.lock_server.proofs.HavingLemmas.{HasBelow}
use Rattle.lock_server.proofs.file.having.first_lacking.Given as goal

-- what was looked at has at least the mode
abbrev pub invariant-loop-held : goal.invariant-loop-held
invariant-loop-held l = HasBelow (modes_of l.list) l.span l.mode l.first

abbrev pub decreases-loop-held : goal.decreases-loop-held
decreases-loop-held l = (l.span.last + 1) - l.first

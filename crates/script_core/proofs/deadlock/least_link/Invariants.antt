use Rattle.script_core.proofs.Common.{ℕ, ◌<◌, get_or, false, IsFalse, LeadsInReport}
use Rattle.script_core.proofs.deadlock.least_link.Given as goal

abbrev pub invariant-loop-q : goal.invariant-loop-q
invariant-loop-q l = (k : ℕ) → k < l.q → LeadsInReport l.policy l.held l.waits l.start k → IsFalse (get_or l.layer k false)

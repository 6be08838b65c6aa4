use Rattle.script_core.proofs.Common.{◌≡◌, false, descriptor_limit, State, StandsFor, stays_open}
use Rattle.script_core.proofs.losses.stays_open.Given as goal

abbrev pub invariant-loop-index : goal.invariant-loop-index
invariant-loop-index l = (S : State) → StandsFor l.manager S → stays_open (descriptor_limit l.limits) S l.closing l.description l.index ≡ false

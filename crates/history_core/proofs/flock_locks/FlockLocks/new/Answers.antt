use Rattle.history_core.proofs.Common.{ap}
use Rattle.history_core.proofs.flock_locks.FlockLocks.new.Goals as goal

pub invariant_of-result : goal.invariant_of-result
invariant_of-result c = record { on_first = λ owner byte lt. ap (λ f. f owner byte) c.new.ensures }

pub returns : goal.returns
returns c = ap (λ bytes. λ owner. bytes owner 0) c.new.ensures

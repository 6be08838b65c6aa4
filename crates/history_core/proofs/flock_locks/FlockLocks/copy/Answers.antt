use Rattle.history_core.proofs.Common.{ap, ◌∙◌}
use Rattle.history_core.proofs.flock_locks.FlockLocks.copy.Goals as goal

pub invariant_of-result : goal.invariant_of-result
invariant_of-result c = record { on_first = λ owner byte lt. ap (λ f. f owner byte) c.in_ok-copy.ensures ∙ c.args.self.now.on_first owner byte lt }

pub returns : goal.returns
returns c = ap (λ bytes. λ owner. bytes owner 0) c.in_ok-copy.ensures

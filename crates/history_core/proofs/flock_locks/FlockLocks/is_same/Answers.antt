use Rattle.history_core.proofs.Common.{ap, bytes_of}
use Rattle.history_core.proofs.ByteLemmas.{same_by_first}
use Rattle.history_core.proofs.flock_locks.FlockLocks.is_same.Goals as goal

pub returns : goal.returns
returns c = (
  λ holds. ap (λ bytes. λ owner. bytes owner 0) (c.is_same.ensures.0 holds),
  λ same. c.is_same.ensures.1
      (same_by_first (bytes_of c.args.self.now.locks) (bytes_of c.args.other.now.locks) c.args.self.now.on_first c.args.other.now.on_first
      (λ owner. ap (λ f. f owner) same)),
)

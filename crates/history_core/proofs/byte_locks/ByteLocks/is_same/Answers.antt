use Rattle.history_core.proofs.Common.{rules, ap, bytes_in}
use Rattle.history_core.proofs.byte_locks.ByteLocks.is_same.Goals as goal

pub returns-then-has_same_runs : goal.returns-then-has_same_runs
returns-then-has_same_runs c = (λ holds. ap bytes_in (c.has_same_runs.ensures c.if-has_same_runs.true), λ same. search rules)

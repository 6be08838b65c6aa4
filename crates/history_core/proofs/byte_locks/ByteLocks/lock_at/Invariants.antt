use Rattle.history_core.proofs.Common.{◌≡◌, drop, bytes_in}
use Rattle.history_core.proofs.byte_locks.ByteLocks.lock_at.Given as goal

abbrev pub invariant-loop-lock : goal.invariant-loop-lock
invariant-loop-lock l = bytes_in (drop l.lock-index l.self.runs.items) l.owner l.byte ≡ bytes_in l.self.runs.items l.owner l.byte

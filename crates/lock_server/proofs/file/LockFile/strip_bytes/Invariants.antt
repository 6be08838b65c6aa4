use Rattle.lock_server.proofs.Common.{ℕ, ◌≡◌, ◌-◌, ◌^◌, ◌≤◌, file_state, number_behind}
use Rattle.lock_server.proofs.ClearedLemmas.{IsCleared}
use Rattle.lock_server.proofs.file.LockFile.strip_bytes.Given as goal

abbrev pub invariant-loop-owner : goal.invariant-loop-owner
invariant-loop-owner l = record {
  bytes : (byte : ℕ) → IsCleared l.fn.owners.first l.fn.owners.last (number_behind l.above) (λ owner. (file_state l.initial.self).bytes owner byte) (λ owner. (file_state l.self).bytes owner byte);
  flocks : (owner : ℕ) → (file_state l.self).flocks owner ≡ (file_state l.initial.self).flocks owner;
  waits : (file_state l.self).waits ≡ (file_state l.initial.self).waits;
  behind : l.fn.owners.first ≤ number_behind l.above;
}

-- each owner is above the one before
abbrev pub decreases-loop-owner : goal.decreases-loop-owner
decreases-loop-owner l = 2 ^ 64 - number_behind l.above

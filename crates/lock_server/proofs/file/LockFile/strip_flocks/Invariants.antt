use Rattle.lock_server.proofs.Common.{ℕ, ◌≡◌, ◌-◌, ◌^◌, ◌≤◌, file_state, number_behind}
use Rattle.lock_server.proofs.ClearedLemmas.{IsCleared}
use Rattle.lock_server.proofs.file.LockFile.strip_flocks.Given as goal

abbrev pub invariant-loop-owner : goal.invariant-loop-owner
invariant-loop-owner l = record {
  bytes : (owner byte : ℕ) → (file_state l.self).bytes owner byte ≡ (file_state l.initial.self).bytes owner byte;
  flocks : IsCleared l.fn.owners.first l.fn.owners.last (number_behind l.above) (file_state l.initial.self).flocks (file_state l.self).flocks;
  waits : (file_state l.self).waits ≡ (file_state l.initial.self).waits;
  behind : l.fn.owners.first ≤ number_behind l.above;
}

-- each owner is above the one before
abbrev pub decreases-loop-owner : goal.decreases-loop-owner
decreases-loop-owner l = 2 ^ 64 - number_behind l.above

use Rattle.lock_server.proofs.Common.{◌≡◌, ◌≤◌, ◌<◌, ◌-◌, ◌^◌, ℕ, None, file_state, number_behind}
use Rattle.lock_server.proofs.file.LockFile.next_flock.Given as goal

-- none of the owners that were passed over has a flock lock
abbrev pub invariant-loop-owner : goal.invariant-loop-owner
invariant-loop-owner l = record {
  on : number_behind l.initial.above ≤ number_behind l.above;
  none : (owner : ℕ) → number_behind l.initial.above ≤ owner → owner < number_behind l.above → (file_state l.self).flocks owner ≡ None;
}

-- each owner is above the one before
abbrev pub decreases-loop-owner : goal.decreases-loop-owner
decreases-loop-owner l = 2 ^ 64 - number_behind l.above

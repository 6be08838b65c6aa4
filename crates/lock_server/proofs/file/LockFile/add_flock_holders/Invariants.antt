use Rattle.lock_server.proofs.Common.{◌-◌, ◌^◌, AddsOwners, file_state, number_behind}
use Rattle.lock_server.proofs.BlockerLemmas.{IsFlockHolderBelow}
use Rattle.lock_server.proofs.file.LockFile.add_flock_holders.Given as goal

abbrev pub invariant-loop-lock : goal.invariant-loop-lock
invariant-loop-lock l =
    AddsOwners l.initial.owners.items l.owners.items (IsFlockHolderBelow (file_state l.self) l.owner l.mode (number_behind l.above))

-- each owner is above the one before
abbrev pub decreases-loop-lock : goal.decreases-loop-lock
decreases-loop-lock l = 2 ^ 64 - number_behind l.above

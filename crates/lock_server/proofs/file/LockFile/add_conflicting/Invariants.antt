use Rattle.lock_server.proofs.Common.{◌-◌, ◌^◌, take, AddsOwners, file_state}
use Rattle.lock_server.proofs.ConflictingLemmas.{InTheWay}
use Rattle.lock_server.proofs.GatheredOwnerLemmas.{IsGivenBefore}
use Rattle.lock_server.proofs.file.LockFile.add_conflicting.Given as goal

abbrev pub invariant-loop-place : goal.invariant-loop-place
invariant-loop-place l =
    AddsOwners l.initial.owners.items l.owners.items (IsGivenBefore (InTheWay l.wait) (take l.before (file_state l.self).waits) l.from)

abbrev pub decreases-loop-place : goal.decreases-loop-place
decreases-loop-place l = 2 ^ 64 - l.from

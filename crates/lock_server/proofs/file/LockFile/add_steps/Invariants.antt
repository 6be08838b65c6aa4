use Rattle.lock_server.proofs.Common.{◌-◌, ◌^◌, AddsOwners, file_state}
use Rattle.lock_server.proofs.BlockerLemmas.{IsStepAt}
use Rattle.lock_server.proofs.GatheredOwnerLemmas.{IsGivenBefore}
use Rattle.lock_server.proofs.file.LockFile.add_steps.Given as goal

abbrev pub invariant-loop-place : goal.invariant-loop-place
invariant-loop-place l =
    AddsOwners l.initial.owners.items l.owners.items (IsGivenBefore (IsStepAt l.policy (file_state l.self) l.owner) (file_state l.self).waits l.from)

abbrev pub decreases-loop-place : goal.decreases-loop-place
decreases-loop-place l = 2 ^ 64 - l.from

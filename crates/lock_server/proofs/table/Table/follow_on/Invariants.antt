use Rattle.lock_server.proofs.Common.{◌-◌, ◌^◌, Follows, table_state}
use Rattle.lock_server.proofs.BlockerLemmas.{IsStepAt}
use Rattle.lock_server.proofs.GatheredOwnerLemmas.{IsGivenBefore}
use Rattle.lock_server.proofs.table.Table.follow_on.Given as goal

abbrev pub invariant-loop-place : goal.invariant-loop-place
invariant-loop-place l =
    Follows l.self l.target
    (IsGivenBefore (IsStepAt l.policy ((table_state l.self).files l.file) l.owner) ((table_state l.self).files l.file).waits l.from)
    l.initial.reached l.reached

abbrev pub decreases-loop-place : goal.decreases-loop-place
decreases-loop-place l = 2 ^ 64 - l.from

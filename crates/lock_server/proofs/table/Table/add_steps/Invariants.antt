use Rattle.lock_server.proofs.Common.{AddsOwners, WaitsForOn, state_in}
use Rattle.lock_server.proofs.GatheredOwnerLemmas.{IsGivenBefore}
use Rattle.lock_server.proofs.table.Table.add_steps.Given as goal

abbrev pub invariant-loop-file : goal.invariant-loop-file
invariant-loop-file l =
    AddsOwners l.initial.owners.items l.owners.items (IsGivenBefore (λ place file other. WaitsForOn l.policy (state_in l.self.files file) l.owner other) l.file-items l.file-index)

use Rattle.lock_server.proofs.Common.{WaitsForOn, state_in, Follows}
use Rattle.lock_server.proofs.GatheredOwnerLemmas.{IsGivenBefore}
use Rattle.lock_server.proofs.table.Table.follow.Given as goal

abbrev pub invariant-loop-file : goal.invariant-loop-file
invariant-loop-file l =
    Follows l.self l.target (IsGivenBefore (λ place file other. WaitsForOn l.policy (state_in l.self.files file) l.owner other) l.file-items l.file-index)
    l.initial.reached l.reached

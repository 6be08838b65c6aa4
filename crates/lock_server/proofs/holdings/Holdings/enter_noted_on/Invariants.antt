use Rattle.lock_server.proofs.Common.{◌≡◌, ◌-◌, ◌^◌, None, number_behind, through_at}
use Rattle.lock_server.proofs.CollectedLemmas.{IsEntering}
use Rattle.lock_server.proofs.holdings.Holdings.enter_noted_on.Given as goal

abbrev pub invariant-loop-owner : goal.invariant-loop-owner
invariant-loop-owner l = IsEntering l.initial.self l.self l.file (λ owner. through_at l.openings l.file owner ≡ None) (number_behind l.above)

-- each owner is above the one before
abbrev pub decreases-loop-owner : goal.decreases-loop-owner
decreases-loop-owner l = 2 ^ 64 - number_behind l.above

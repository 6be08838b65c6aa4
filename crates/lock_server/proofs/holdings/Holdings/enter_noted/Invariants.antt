use Rattle.lock_server.proofs.Common.{◌≡◌, ◌-◌, ◌^◌, None, number_behind, through_at}
use Rattle.lock_server.proofs.CollectedLemmas.{IsEnteringFiles}
use Rattle.lock_server.proofs.holdings.Holdings.enter_noted.Given as goal

abbrev pub invariant-loop-file : goal.invariant-loop-file
invariant-loop-file l = IsEnteringFiles l.initial.self l.self (λ owner file. through_at l.openings file owner ≡ None) (number_behind l.above)

-- each file is above the one before
abbrev pub decreases-loop-file : goal.decreases-loop-file
decreases-loop-file l = 2 ^ 64 - number_behind l.above

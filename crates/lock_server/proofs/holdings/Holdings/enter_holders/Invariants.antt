use Rattle.lock_server.proofs.Common.{◌-◌, ◌^◌, HasNothing, number_behind, table_state}
use Rattle.lock_server.proofs.CollectedLemmas.{IsEnteringFiles}
use Rattle.lock_server.proofs.holdings.Holdings.enter_holders.Given as goal

abbrev pub invariant-loop-file : goal.invariant-loop-file
invariant-loop-file l = IsEnteringFiles l.initial.self l.self (λ owner file. HasNothing ((table_state l.table).files file) owner) (number_behind l.above)

-- each file is above the one before
abbrev pub decreases-loop-file : goal.decreases-loop-file
decreases-loop-file l = 2 ^ 64 - number_behind l.above

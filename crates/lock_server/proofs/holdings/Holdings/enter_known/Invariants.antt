use Rattle.lock_server.proofs.Common.{◌-◌, ◌^◌, HasNoLock, table_state, number_behind}
use Rattle.lock_server.proofs.CollectedLemmas.{IsEntering}
use Rattle.lock_server.proofs.holdings.Holdings.enter_known.Given as goal

abbrev pub invariant-loop-owner : goal.invariant-loop-owner
invariant-loop-owner l = IsEntering l.initial.self l.self l.file (HasNoLock ((table_state l.table).files l.file)) (number_behind l.above)

-- each owner is above the one before
abbrev pub decreases-loop-owner : goal.decreases-loop-owner
decreases-loop-owner l = 2 ^ 64 - number_behind l.above

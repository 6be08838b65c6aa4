use Rattle.lock_server.proofs.Common.{IsSearchedInDepth, table_state}
use Rattle.lock_server.specs.Searching.{steps_left}
use Rattle.lock_server.proofs.table.Table.owner_on_cycle.Given as goal

abbrev pub invariant-loop-search : goal.invariant-loop-search
invariant-loop-search l = IsSearchedInDepth l.policy (table_state l.self) l.search

-- each round an untried owner comes onto the path, or one leaves it
abbrev pub decreases-loop-search : goal.decreases-loop-search
decreases-loop-search l = steps_left l.search

use Rattle.lock_server.proofs.Common.{◌-◌, ◌^◌, number_behind}
use Rattle.lock_server.proofs.HolderLemmas.{IsLeastFile}
use Rattle.lock_server.proofs.holdings.Holdings.next_file_of.Given as goal

abbrev pub invariant-loop-owner : goal.invariant-loop-owner
invariant-loop-owner l = IsLeastFile l.self l.owners.first (number_behind l.before) l.above l.least

-- each owner is above the one before
abbrev pub decreases-loop-owner : goal.decreases-loop-owner
decreases-loop-owner l = 2 ^ 64 - number_behind l.before

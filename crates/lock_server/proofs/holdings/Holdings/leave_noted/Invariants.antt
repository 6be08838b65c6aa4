use Rattle.lock_server.proofs.Common.{◌-◌, ◌^◌, LeavesFile, number_behind}
use Rattle.lock_server.proofs.holdings.Holdings.leave_noted.Given as goal

abbrev pub invariant-loop-owner : goal.invariant-loop-owner
invariant-loop-owner l = LeavesFile l.initial.self l.self l.file

-- each owner is above the one before
abbrev pub decreases-loop-owner : goal.decreases-loop-owner
decreases-loop-owner l = 2 ^ 64 - number_behind l.above

use Rattle.lock_server.proofs.Common.{◌<◌, ◌-◌, ◌^◌, IsNextFrom, IsWaitUpTo, number_behind, wait_place, table_state}
use Rattle.lock_server.proofs.table.Table.next_wait.Given as goal

-- the first of the waits on the files that were looked at
abbrev pub invariant-loop-file : goal.invariant-loop-file
invariant-loop-file l =
    IsNextFrom wait_place (λ wait. (wait.file < number_behind l.above) × IsWaitUpTo (table_state l.self) l.last wait) (wait_place l.from) l.found

-- each file is above the one before
abbrev pub decreases-loop-file : goal.decreases-loop-file
decreases-loop-file l = 2 ^ 64 - number_behind l.above

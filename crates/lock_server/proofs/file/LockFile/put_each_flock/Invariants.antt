use Rattle.lock_server.proofs.Common.{◌-◌, ◌^◌, file_state, number_behind}
use Rattle.lock_server.proofs.ExportLemmas.{FlocksBelow}
use Rattle.lock_server.proofs.file.LockFile.put_each_flock.Given as goal

abbrev pub invariant-loop-lock : goal.invariant-loop-lock
invariant-loop-lock l = FlocksBelow (file_state l.self) (number_behind l.above) l.initial.out l.initial.behind l.out l.behind

-- each owner is above the one before
abbrev pub decreases-loop-lock : goal.decreases-loop-lock
decreases-loop-lock l = 2 ^ 64 - number_behind l.above

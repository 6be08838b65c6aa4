use Rattle.lock_server.proofs.Common.{◌-◌, ◌^◌, flock_locks_on, runs_on, waits_on, table_state}
use Rattle.lock_server.proofs.CountLemmas.{IsCountingFiles}
use Rattle.lock_server.proofs.ForgetLemmas.{next_of}
use Rattle.lock_server.proofs.table.Table.counts.Given as goal

abbrev pub invariant-loop-file : goal.invariant-loop-file
invariant-loop-file l = record {
  runs : IsCountingFiles (table_state l.self) (runs_on l.owners.first l.owners.last) (next_of l.above) l.counts.runs;
  flock_locks : IsCountingFiles (table_state l.self) (flock_locks_on l.owners.first l.owners.last) (next_of l.above) l.counts.flock_locks;
  waits : IsCountingFiles (table_state l.self) (waits_on l.owners.first l.owners.last) (next_of l.above) l.counts.waits;
}

-- each file is above the one before
abbrev pub decreases-loop-file : goal.decreases-loop-file
decreases-loop-file l = 2 ^ 64 - next_of l.above

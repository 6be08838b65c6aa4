use Rattle.lock_server.proofs.Common.{ℕ, ◌-◌, ◌^◌, ◌<◌, IsSettled, table_state}
use Rattle.lock_server.proofs.ForgetLemmas.{next_of}
use Rattle.lock_server.proofs.table.Table.first_ready.Given as goal

abbrev pub invariant-loop-file : goal.invariant-loop-file
invariant-loop-file l = (file : ℕ) → file < next_of l.above → IsSettled l.policy ((table_state l.self).files file)

-- each file is above the one before
abbrev pub decreases-loop-file : goal.decreases-loop-file
decreases-loop-file l = 2 ^ 64 - next_of l.above

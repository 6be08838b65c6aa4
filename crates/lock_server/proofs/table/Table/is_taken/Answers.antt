use Rattle.lock_server.proofs.Common.{arith, common_steps}
use Rattle.lock_server.proofs.TakenLemmas.{idle_none, idle_reserved, not_taken, taken_granted, taken_waiting}
use Rattle.lock_server.proofs.table.Table.is_taken.Goals as goal

pub returns-in_default : goal.returns-in_default
returns-in_default c = grind (arith, common_steps, not_taken, idle_none)

pub returns-in-Reserved : goal.returns-in-Reserved
returns-in-Reserved c = grind (arith, common_steps, not_taken, idle_reserved)

pub returns-in-Waits : goal.returns-in-Waits
returns-in-Waits c = grind (arith, common_steps, taken_waiting, taken_granted)

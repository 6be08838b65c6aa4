use Rattle.wait_core.proofs.CycleLaws.{free_when_one_joins, free_when_one_leaves, free_when_locks_change, free_when_description_locks_change}
use Rattle.wait_core.proofs.laws.stay_free_of_cycles.Goals as goal

pub returns : goal.returns
returns c = record {
  one_joins = free_when_one_joins;
  one_leaves = free_when_one_leaves;
  locks_change = free_when_locks_change;
  description_locks_change = free_when_description_locks_change;
}

use Rattle.lock_server.proofs.Common.{◌-◌, ◌^◌, is_within, AreSwept, table_state}
use Rattle.lock_server.proofs.ClientLemmas.{IsStripping}
use Rattle.lock_server.proofs.ForgetLemmas.{next_of}
use Rattle.lock_server.proofs.table.Table.strip_all.Given as goal

abbrev pub invariant-loop-file : goal.invariant-loop-file
invariant-loop-file l = record {
  stripping : IsStripping (table_state l.initial.self) (is_within l.owners.first l.owners.last) (next_of l.above) (table_state l.self);
  swept : AreSwept l.initial.self → AreSwept l.self;
}

-- each file is above the one before
abbrev pub decreases-loop-file : goal.decreases-loop-file
decreases-loop-file l = 2 ^ 64 - next_of l.above

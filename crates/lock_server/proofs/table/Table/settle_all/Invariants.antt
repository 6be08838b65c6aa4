use Rattle.lock_server.proofs.Common.{◌-◌, ◌^◌, AreSwept, table_state}
use Rattle.lock_server.proofs.ClientLemmas.{IsSettling}
use Rattle.lock_server.proofs.ForgetLemmas.{next_of}
use Rattle.lock_server.proofs.table.Table.settle_all.Given as goal

abbrev pub invariant-loop-file : goal.invariant-loop-file
invariant-loop-file l = record {
  settling : IsSettling l.policy (table_state l.initial.self) (next_of l.above) (table_state l.self);
  swept : AreSwept l.initial.self → AreSwept l.self;
}

-- each file is above the one before
abbrev pub decreases-loop-file : goal.decreases-loop-file
decreases-loop-file l = 2 ^ 64 - next_of l.above

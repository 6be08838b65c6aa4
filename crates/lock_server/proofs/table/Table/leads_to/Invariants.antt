use Rattle.lock_server.proofs.Common.{◌-◌, ◌^◌, IsGoingOn, WaitsFor, AreTold, table_state}
use Rattle.lock_server.proofs.SearchLemmas.{IsSearched}
use Rattle.lock_server.proofs.table.Table.leads_to.Given as goal

abbrev pub invariant-loop-owner : goal.invariant-loop-owner
invariant-loop-owner l = record {
  searched : IsSearched (WaitsFor l.policy (table_state l.self)) (IsGoingOn l.self.waiters l.target) l.target l.initial.reached.owners.items l.reached.owners.items l.looked_at;
  told : AreTold l.self l.target l.reached;
}

abbrev pub decreases-loop-owner : goal.decreases-loop-owner
decreases-loop-owner l = 2 ^ 64 - l.looked_at

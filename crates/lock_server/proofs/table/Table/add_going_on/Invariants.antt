use Rattle.lock_server.proofs.Common.{◌≡◌}
use Rattle.lock_server.proofs.ReachedLemmas.{IsAddedBefore}
use Rattle.lock_server.proofs.table.Table.add_going_on.Given as goal

abbrev pub invariant-loop-owner : goal.invariant-loop-owner
invariant-loop-owner l = record {
  added : IsAddedBefore l.self.waiters l.target l.owners l.initial.reached.owners.items l.reached.owners.items l.owner-index;
  looked_at : l.reached.looked_at ≡ l.initial.reached.looked_at;
}

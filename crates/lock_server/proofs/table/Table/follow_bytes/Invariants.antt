use Rattle.lock_server.proofs.Common.{◌≡◌, ◌≤◌, ◌-◌, ◌^◌, AddsGoingOn, BlocksBefore, AreTold, table_state}
use Rattle.lock_server.proofs.table.Table.follow_bytes.Given as goal

abbrev pub invariant-loop-part : goal.invariant-loop-part
invariant-loop-part l = record {
  to : l.rest.last ≡ l.wait.span.last;
  from : l.wait.span.first ≤ l.rest.first;
  any : l.rest.first ≤ l.rest.last;
  adds : AddsGoingOn l.self.waiters l.target (BlocksBefore ((table_state l.self).files l.file) l.wait.owner l.wait.span l.wait.mode l.rest.first)
      l.initial.reached.owners.items l.reached.owners.items;
  told : AreTold l.self l.target l.reached;
}

abbrev pub decreases-loop-part : goal.decreases-loop-part
decreases-loop-part l = 2 ^ 64 - l.rest.first

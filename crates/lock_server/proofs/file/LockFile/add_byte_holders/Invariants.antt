use Rattle.lock_server.proofs.Common.{◌≡◌, ◌≤◌, ◌-◌, ◌^◌, AddsOwners, BlocksBefore, file_state}
use Rattle.lock_server.proofs.file.LockFile.add_byte_holders.Given as goal

abbrev pub invariant-loop-next : goal.invariant-loop-next
invariant-loop-next l = record {
  to : l.rest.last ≡ l.fn.span.last;
  from : l.fn.span.first ≤ l.rest.first;
  any : l.rest.first ≤ l.rest.last;
  adds : AddsOwners l.initial.owners.items l.owners.items (BlocksBefore (file_state l.self) l.owner l.fn.span l.mode l.rest.first);
}

abbrev pub decreases-loop-next : goal.decreases-loop-next
decreases-loop-next l = 2 ^ 64 - l.rest.first

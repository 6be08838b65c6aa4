use Rattle.lock_server.proofs.Common.{AddsOwners, file_state}
use Rattle.lock_server.proofs.BlockerLemmas.{IsListedHolder}
use Rattle.lock_server.proofs.file.LockFile.add_listed_holders.Given as goal

abbrev pub invariant-loop-other : goal.invariant-loop-other
invariant-loop-other l =
    (goal.iterator-loop-other).can_next l.other-iterator ×
    (goal.iterator-loop-other).is_finite l.other-iterator ×
    AddsOwners l.initial.owners.items l.owners.items (IsListedHolder (file_state l.self) l.owner l.span l.mode l.yielded)

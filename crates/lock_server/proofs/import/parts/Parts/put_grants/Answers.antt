use Rattle.lock_server.proofs.Common.{ℕ, List, subst, table_state}
use Rattle.lock_server.specs.Restoring.{QueuesBefore}
use Rattle.lock_server.proofs.RejoinedLemmas.{none_granted}
use Rattle.lock_server.proofs.import.parts.Parts.put_grants.Goals as goal

pub returns-in-Some-clause-again : goal.returns-in-Some-clause-again
returns-in-Some-clause-again c = λ S are once has.
    let T = table_state c.args.table.now in
    let U = table_state c.restore_grants.new.self in
    let stops = subst (λ (l : List ℕ). QueuesBefore T l c.in-Some.place U) c.deref.ensures.value (rw c.in-Some.is at c.in_ok-place.ensures.queues) in
    absurd (none_granted S T c.args.self.now.grants.items c.in-Some.place U are once has stops)

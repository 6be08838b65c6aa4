use Rattle.lock_server.proofs.Common.{sym, subst, take, on_ok_weaker, Policy, AddsOwners, IsBlockedByOwner, file_state}
use Rattle.lock_server.proofs.GatheredOwnerLemmas.{AddsOwners-both}
use Rattle.lock_server.proofs.file.LockFile.add_blockers.Goals as goal

pub returns-in-Queue : goal.returns-in-Queue
returns-in-Queue c =
    let old = c.args.owners.now.items in
    let new = c.add_conflicting.new.owners.items in
    on_ok_weaker c.add_conflicting.result
    (λ added.
    subst (λ (policy : Policy). AddsOwners old new (IsBlockedByOwner policy (file_state c.args.self.now) (take c.args.before (file_state c.args.self.now).waits) c.args.wait.now)) (sym c.in-Queue.is)
    (AddsOwners-both old c.add_holders.new.owners.items new _ _ c.in_ok-add_holders.ensures added))
    c.add_conflicting.ensures

use Rattle.lock_server.proofs.Common.{◌≡◌, ◌∙◌, None, Some, sym, subst, take, OnOk, same_Some, Pending, AddsOwners, IsBlockedByOwner, file_state}
use Rattle.lock_server.proofs.GrantLemmas.{range_at}
use Rattle.lock_server.proofs.file.LockFile.add_blockers_at.Goals as goal

pub add_blockers-requires : goal.add_blockers-requires
unfolding file_state
add_blockers-requires c = range_at c.args.self.now.waits.items c.args.place c.in-Some.wait c.args.self.now.ranges (sym c.get.ensures ∙ c.in-Some.is)

pub returns-in-Some : goal.returns-in-Some
unfolding file_state
returns-in-Some c = λ wait at.
    let F = file_state c.args.self.now in
    let same : c.in-Some.wait ≡ wait = same_Some c.in-Some.wait wait (sym c.in-Some.is ∙ (c.get.ensures ∙ at)) in
    subst (λ (w : Pending). OnOk c.add_blockers.result (AddsOwners c.args.owners.now.items c.add_blockers.new.owners.items (IsBlockedByOwner c.args.policy F (take c.args.place F.waits) w)))
    same c.add_blockers.ensures

pub returns-in-None : goal.returns-in-None
unfolding file_state
returns-in-None c = λ wait at. absurd (let h : None ≡ Some wait = sym c.in-None.is ∙ (c.get.ensures ∙ at) in cc)

use Rattle.lock_server.proofs.Common.{◌≡◌, ◌∙◌, None, Some, sym, ap, same_Some, Pending, file_state}
use Rattle.lock_server.proofs.GatheredOwnerLemmas.{AddsOwners-push}
use Rattle.lock_server.proofs.file.LockFile.add_owner_at.Goals as goal

pub returns-in_ok-push-in-Some : goal.returns-in_ok-push-in-Some
unfolding file_state
returns-in_ok-push-in-Some c = λ wait at.
    let same : c.in-Some.wait ≡ wait = same_Some c.in-Some.wait wait (sym c.in-Some.is ∙ (c.get.ensures ∙ at)) in
    AddsOwners-push c.args.owners.now.items c.push.new.self.items c.in-Some.wait.owner (λ other. wait.owner ≡ other) c.in_ok-push-in-Some.ensures.items
    (sym (ap (λ (w : Pending). w.owner) same)) (λ other is. sym is ∙ sym (ap (λ (w : Pending). w.owner) same))

pub returns-in-None : goal.returns-in-None
unfolding file_state
returns-in-None c = λ wait at. absurd (let h : None ≡ Some wait = sym c.in-None.is ∙ (c.get.ensures ∙ at) in cc)

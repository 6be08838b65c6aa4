use Rattle.lock_server.proofs.Common.{◌≡◌, Any, sym, subst, take, OnOk, WaitsConflict, AddsOwners, FileState, as_wait}
use Rattle.lock_server.proofs.TableLemmas.{found_state}
use Rattle.lock_server.proofs.table.Table.add_conflicting.Goals as goal

pub returns-in-Some : goal.returns-in-Some
returns-in-Some c =
    subst (λ (F : FileState). OnOk c.add_conflicting.result (AddsOwners c.args.owners.now.items c.add_conflicting.new.owners.items
    (λ other. Any (λ v. (v.owner ≡ other) × WaitsConflict (as_wait v) (as_wait c.args.wait.now)) (take c.args.before F.waits))))
    (sym (found_state c.args.self.now c.args.file c.get.result c.in-Some.locks c.get.ensures.value c.in-Some.is)) c.add_conflicting.ensures

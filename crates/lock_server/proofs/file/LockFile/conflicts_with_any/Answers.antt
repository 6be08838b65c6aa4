use Rattle.lock_server.proofs.Common.{sym, subst, ◌↔◌, IsTrue, PendingsConflict, file_state}
use Rattle.std.specs.Prelude.{Bool, Any, take}
use Rattle.lock_server.proofs.ConflictingLemmas.{any_conflicts}
use Rattle.lock_server.proofs.file.LockFile.conflicts_with_any.Goals as goal

pub returns : goal.returns
returns c =
    let waits = (file_state c.args.self.now).waits in
    subst (λ (told : Bool). IsTrue told ↔ Any (λ v. PendingsConflict v c.args.wait.now) (take c.args.before waits)) (sym c.is_some.ensures)
    (any_conflicts waits c.args.wait.now c.args.before c.next_conflicting.result c.next_conflicting.ensures.some c.next_conflicting.ensures.none)

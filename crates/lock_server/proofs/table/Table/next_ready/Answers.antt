use Rattle.lock_server.proofs.Common.{subst, FileState, IsKnown}
use Rattle.lock_server.proofs.TableLemmas.{found_state}
use Rattle.lock_server.proofs.table.Table.next_ready.Goals as goal

pub next_ready-requires : goal.next_ready-requires
next_ready-requires c =
    subst (λ (F : FileState). IsKnown c.args.policy F c.args.known)
    (found_state c.args.self.now c.args.file c.get.result c.in_ok-get.field-0 c.get.ensures.value c.in_ok-get.was) c.requires

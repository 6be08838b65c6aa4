use Rattle.lock_server.proofs.Common.{sym, subst, IfNone, IsNoneDetected, FileState, file_state}
use Rattle.lock_server.proofs.ConflictingLemmas.{detected_told}
use Rattle.lock_server.proofs.TableLemmas.{found_state}
use Rattle.lock_server.proofs.table.Table.next_detected.Goals as goal

pub returns-clause-none : goal.returns-clause-none
returns-clause-none c =
    subst (λ (F : FileState). IfNone c.first_of.result (IsNoneDetected F.waits c.args.owner c.args.from))
    (sym (found_state c.args.self.now c.args.file c.get.result c.in_ok-get.field-0 c.get.ensures.value c.in_ok-get.was))
    (detected_told (file_state c.in_ok-get.field-0.now).waits c.args.owner c.args.from c.first_of.result c.first_of.ensures.first).1

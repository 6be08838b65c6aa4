use Rattle.lock_server.proofs.Common.{ap, FileState, file_state, wait_place, table_state}
use Rattle.lock_server.proofs.OwnerWaitLemmas.{waits_on}
use Rattle.lock_server.proofs.TableLemmas.{found_state}
use Rattle.lock_server.proofs.table.Table.next_wait_on.Goals as goal

pub returns : goal.returns
returns c =
    waits_on (table_state c.args.self.now) c.args.file c.args.last (wait_place c.args.from) (file_state c.in_ok-get.field-0.now).waits c.next_wait.result
    (ap (λ (F : FileState). F.waits) (found_state c.args.self.now c.args.file c.get.result c.in_ok-get.field-0 c.get.ensures.value c.in_ok-get.was)) c.next_wait.ensures

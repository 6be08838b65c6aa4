use Rattle.lock_server.proofs.Common.{arith, ◌≡◌, Some, common_steps, entry_in, entry_of}
use Rattle.lock_server.proofs.table.Table.next_file.Goals as goal
use Rattle.lock_server.proofs.table.Table.next_file.Goals.{in-None, in-Some}

pub returns-clause-entry : goal.returns-clause-entry
unfolding entry_of entry_in
returns-clause-entry c =
    let is : entry_of c.args.self.now c.in_ok-file.file.now ≡ Some c.in_ok-file.field-0-1.now.value =
    elim c.match-above.branch [ in-None w ↦ grind (arith, common_steps) | in-Some w ↦ grind (arith, common_steps) ] in
    record { entry = c.in_ok-file.field-0-1.now.value; is = is }

use Rattle.lock_server.specs.Restoring.{IsOnCycle}
use Rattle.lock_server.proofs.Common.{table_state}
use Rattle.lock_server.proofs.import.parts.Parts.check_cycles.Goals as goal

pub returns-in-Some-clause-again : goal.returns-in-Some-clause-again
returns-in-Some-clause-again c free =
    let cycle : IsOnCycle c.args.self.now.rules.policy (table_state c.args.table.now) c.in-Some.owner = rw c.in-Some.is at c.in_ok-owner.ensures in
    absurd (free c.in-Some.owner cycle)

use Rattle.wait_core.proofs.Common.{arith, refl}
use Rattle.std.proofs.Common.{◌-◌}
use Rattle.wait_core.proofs.ProcessLemmas.{member_inserted, grown}
use Rattle.wait_core.proofs.processes.ProcessSet.with.Goals as goal

pub returns-clause-members : goal.returns-clause-members
returns-clause-members c = member_inserted c.args.self _ c.args.p (c.args.p - 1) (omega arith) (omega arith) refl

pub returns-clause-fewer : goal.returns-clause-fewer
returns-clause-fewer c = grown c.args.self _ c.args.p (c.args.p - 1) (omega arith) (omega arith) refl (omega arith)

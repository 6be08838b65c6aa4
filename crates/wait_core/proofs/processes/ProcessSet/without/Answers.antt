use Rattle.wait_core.proofs.Common.{arith, refl}
use Rattle.std.proofs.Common.{◌-◌}
use Rattle.wait_core.proofs.ProcessLemmas.{member_removed}
use Rattle.wait_core.proofs.processes.ProcessSet.without.Goals as goal

pub returns : goal.returns
returns c = member_removed c.args.self _ c.args.p (c.args.p - 1) (omega arith) (omega arith) refl

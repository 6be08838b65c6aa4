use Rattle.wait_core.proofs.Common.{refl}
use Rattle.wait_core.proofs.ProcessLemmas.{member_union}
use Rattle.wait_core.proofs.processes.ProcessSet.union.Goals as goal

pub returns : goal.returns
returns c = member_union c.args.self c.args.other _ refl

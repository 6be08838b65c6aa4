use Rattle.wait_core.proofs.WaitingLemmas.{waiting_none}
use Rattle.wait_core.proofs.waits.Waits.new.Goals as goal

pub invariant_of-result-clause-known : goal.invariant_of-result-clause-known
invariant_of-result-clause-known c = waiting_none c.empty.result c.in_ok-waits.waits.items c.empty.ensures c.in_ok-waits.ensures.items

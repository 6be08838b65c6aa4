use Rattle.wait_core.proofs.Common.{common_steps, arith, waits_of}
use Rattle.wait_core.proofs.ListLemmas.{blocked_so_far, first_ready, found_itself}
use Rattle.wait_core.proofs.waits.Waits.next_ready_among.Goals as goal

pub returns-then-not-is_blocked_among-clause-ready : goal.returns-then-not-is_blocked_among-clause-ready
unfolding waits_of
returns-then-not-is_blocked_among-clause-ready c = grind (arith, common_steps, first_ready)

pub loop-i-preserved : goal.loop-i-preserved
unfolding waits_of
loop-i-preserved c = grind (arith, common_steps, blocked_so_far)

pub returns-then-not-is_blocked_among-clause-found : goal.returns-then-not-is_blocked_among-clause-found
unfolding waits_of
returns-then-not-is_blocked_among-clause-found c = grind (arith, common_steps, found_itself)

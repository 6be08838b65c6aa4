use Rattle.lock_server.proofs.Common.{arith}
use Rattle.lock_server.proofs.ForgetLemmas.{next_from_above}
use Rattle.lock_server.proofs.waiters.Waiters.uncrossed.Goals as goal

pub loop-owner-smaller : goal.loop-owner-smaller
loop-owner-smaller c = let from = next_from_above c.loop-owner.above c.in-Some.owner c.in-Some.ensures.above in omega arith

use Rattle.lock_server.proofs.Common.{arith}
use Rattle.lock_server.proofs.CollectedLemmas.{leaves_more, leaves_none}
use Rattle.lock_server.proofs.ForgetLemmas.{next_from_above}
use Rattle.lock_server.proofs.holdings.Holdings.leave_noted.Goals as goal

pub loop-owner-init : goal.loop-owner-init
loop-owner-init c = leaves_none c.args.self.now c.args.file

pub loop-owner-preserved : goal.loop-owner-preserved
loop-owner-preserved c = leaves_more c.args.self.now c.loop-owner.self c.args.file c.in-Some.owner c.leave.new.self c.loop-owner.invariant c.leave.ensures.keeps

pub loop-owner-smaller : goal.loop-owner-smaller
loop-owner-smaller c = let from = next_from_above c.loop-owner.above c.in-Some.owner c.in-Some.ensures.above in omega arith

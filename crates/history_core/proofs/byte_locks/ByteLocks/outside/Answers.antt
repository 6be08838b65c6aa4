use Rattle.history_core.proofs.Common.{rules}
use Rattle.history_core.proofs.ByteLemmas.{outside_more}
use Rattle.history_core.proofs.byte_locks.ByteLocks.outside.Goals as goal

pub loop-lock-preserved : goal.loop-lock-preserved
loop-lock-preserved c = record {
  ranges = c.in_ok-push_outside.ensures.ranges c.loop-lock.invariant.ranges;
  gives = outside_more c.args.self.now.runs.items c.loop-lock.rest.items c.push_outside.new.rest.items c.loop-lock.lock-index c.args.owner c.args.span _
      (search rules) (search rules) c.loop-lock.invariant.gives c.in_ok-push_outside.ensures.gives;
}

use Rattle.lock_server.proofs.Common.{arith, HasNoLock, number_behind, table_state}
use Rattle.lock_server.proofs.CollectedLemmas.{all_entered, entering_more, entering_none}
use Rattle.lock_server.proofs.holdings.Holdings.enter_known.Goals as goal

pub loop-owner-init : goal.loop-owner-init
loop-owner-init c = entering_none c.args.self.now c.args.file (HasNoLock ((table_state c.args.table.now).files c.args.file))

pub loop-owner-preserved : goal.loop-owner-preserved
loop-owner-preserved c =
    entering_more c.args.self.now c.args.file (HasNoLock ((table_state c.args.table.now).files c.args.file)) (number_behind c.loop-owner.above) c.loop-owner.self c.in-Some.owner
    c.enter.new.self c.loop-owner.invariant (λ other from before. c.in-Some.ensures.least other from before) c.in_ok-enter.ensures.ok

pub loop-owner-smaller : goal.loop-owner-smaller
loop-owner-smaller c = let from = c.in-Some.ensures.above in omega arith

pub returns : goal.returns
returns c =
    all_entered c.args.self.now c.args.file (HasNoLock ((table_state c.args.table.now).files c.args.file)) (number_behind c.loop-owner.above) c.loop-owner.self
    c.loop-owner.invariant (λ owner from. c.in_default.ensures.none owner from)

use Rattle.lock_server.proofs.Common.{arith, ◌≡◌, None, number_behind, through_at}
use Rattle.lock_server.proofs.CollectedLemmas.{all_entered, entering_more, entering_none}
use Rattle.lock_server.proofs.ForgetLemmas.{above_from_next, next_from_above}
use Rattle.lock_server.proofs.holdings.Holdings.enter_noted_on.Goals as goal

pub loop-owner-init : goal.loop-owner-init
loop-owner-init c = entering_none c.args.self.now c.args.file (λ owner. through_at c.args.openings.now c.args.file owner ≡ None)

pub loop-owner-preserved : goal.loop-owner-preserved
loop-owner-preserved c =
    entering_more c.args.self.now c.args.file (λ owner. through_at c.args.openings.now c.args.file owner ≡ None) (number_behind c.loop-owner.above) c.loop-owner.self c.in-Some.owner
    c.enter.new.self c.loop-owner.invariant (λ other from before. c.in-Some.ensures.least other (above_from_next c.loop-owner.above other from) before) c.in_ok-enter.ensures.ok

pub loop-owner-smaller : goal.loop-owner-smaller
loop-owner-smaller c = let from = next_from_above c.loop-owner.above c.in-Some.owner c.in-Some.ensures.above in omega arith

pub returns : goal.returns
returns c =
    all_entered c.args.self.now c.args.file (λ owner. through_at c.args.openings.now c.args.file owner ≡ None) (number_behind c.loop-owner.above) c.loop-owner.self
    c.loop-owner.invariant (λ owner from. c.in_default.ensures.none owner (above_from_next c.loop-owner.above owner from))

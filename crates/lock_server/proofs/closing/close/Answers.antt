use Rattle.lock_server.proofs.Common.{common_steps, ◌∙◌, arith, refl}
use Rattle.lock_server.proofs.ClosingLemmas.{all_closed, all_forgotten_through, closing_more, closing_none}
use Rattle.lock_server.proofs.ForgetLemmas.{above_from_next, next_from_above, next_of}
use Rattle.lock_server.proofs.GrantedMoves.{crosses_itself}
use Rattle.lock_server.proofs.closing.close.Goals as goal

pub loop-owner-init : goal.loop-owner-init
loop-owner-init c = record {
  closing = grind (arith, common_steps, closing_none, crosses_itself);
  others = λ other differs. refl;
  kept = λ kept. kept;
}

pub loop-owner-preserved : goal.loop-owner-preserved
loop-owner-preserved c = record {
  closing = grind (arith, common_steps, closing_more, next_of, next_from_above, above_from_next);
  others = λ other differs. c.close_owner.ensures.others other differs ∙ c.loop-owner.invariant.others other differs;
  kept = λ kept. c.close_owner.ensures.kept (c.loop-owner.invariant.kept kept);
}

pub loop-owner-smaller : goal.loop-owner-smaller
loop-owner-smaller c = let from = next_from_above c.loop-owner.above c.in-Some.owner c.in-Some.ensures.above in omega arith

pub returns-clause-closes : goal.returns-clause-closes
returns-clause-closes c = grind (arith, common_steps, all_closed, next_of, above_from_next)

pub returns-clause-forgets : goal.returns-clause-forgets
returns-clause-forgets c = grind (arith, common_steps, all_forgotten_through, next_of, above_from_next)

use Rattle.lock_server.proofs.Common.{◌≡◌, Some, get, deref_pair, nat_cmp, iter_end, number_words}
use Rattle.lock_server.proofs.ExportLemmas.{IsCrossedPiece, all_crossed, crossed_piece, uncrossed_piece}
use Rattle.lock_server.proofs.WalkLemmas.{next_entry, walked_more, walked_none, walked_past}
use Rattle.lock_server.proofs.waiters.Waiters.put_each.Goals as goal

pub loop-owner-init : goal.loop-owner-init
loop-owner-init c = (tt, tt, walked_none (IsCrossedPiece c.args.self.now) number_words c.args.out.now c.args.at c.ranges.at.fits)

pub loop-owner-preserved-then-not-waiter : goal.loop-owner-preserved-then-not-waiter
loop-owner-preserved-then-not-waiter c =
    let gives = c.into_iter-owner-iterator.ensures.into_iter_gives in
    let there = next_entry (λ e. get nat_cmp c.args.self.now.owners e.0 ≡ Some e.1) c.args.self.now.owners.entries c.loop-owner.yielded _ _ _ _ (c.in-Some.owner, c.in-Some.waiter)
    gives.0 c.loop-owner.yielded_by c.in-Some.is c.next.ensures.steps gives.6 in (
      tt,
      tt,
      walked_past (IsCrossedPiece c.args.self.now) number_words c.loop-owner.yielded (c.in-Some.owner, c.in-Some.waiter) _ _ _ _ c.loop-owner.invariant.2
          (uncrossed_piece c.args.self.now c.in-Some.owner.now c.in-Some.waiter.now there c.if-not-waiter.true),
    )

pub loop-owner-preserved : goal.loop-owner-preserved
loop-owner-preserved c =
    let gives = c.into_iter-owner-iterator.ensures.into_iter_gives in
    let there = next_entry (λ e. get nat_cmp c.args.self.now.owners e.0 ≡ Some e.1) c.args.self.now.owners.entries c.loop-owner.yielded _ _ _ _ (c.in-Some.owner, c.in-Some.waiter)
    gives.0 c.loop-owner.yielded_by c.in-Some.is c.next.ensures.steps gives.6 in (
      tt,
      tt,
      walked_more (IsCrossedPiece c.args.self.now) number_words c.loop-owner.yielded (c.in-Some.owner, c.in-Some.waiter) _ _ _ _ _ _ c.loop-owner.invariant.2 _
          (crossed_piece c.args.self.now c.in-Some.owner.now c.in-Some.waiter.now there c.if-not-waiter.false) c.put-behind.ensures,
    )

pub returns : goal.returns
returns c =
    let gives = c.into_iter-owner-iterator.ensures.into_iter_gives in
    let whole = (iter_end deref_pair c.args.self.now.owners.entries c.loop-owner.yielded _ _ _ _ gives.0 c.loop-owner.yielded_by c.in-None.is c.next.ensures.steps).0 in
    all_crossed c.args.self.now c.loop-owner.yielded number_words _ _ _ _ gives.5 whole c.loop-owner.invariant.2

use Rattle.lock_book.proofs.Common.{◌∙◌, ◌≡◌, not, sym, true, false, refl, deref_pair, not-true, All-push, iter_end, byte_modes_of}
use Rattle.std.proofs.lemmas.Bool.{not-false}
use Rattle.lock_book.proofs.OwnerLemmas.{owner_eq, same_from_eq, different_from_eq}
use Rattle.lock_book.proofs.BlockLemmas.{NeverBlocks, conflict_from_hit, least_none, modes_in_loop, never_itself, never_without_hit, never_without_modes}
use Rattle.lock_book.proofs.book.Book.blocked_by_lists.Goals as goal
use Rattle.lock_book.proofs.book.Book.blocked_by_lists.Goals.{else-ne-via-then-ne+else-is_some, else-ne-via-else-ne}

pub returns-then-is_some : goal.returns-then-is_some
returns-then-is_some c =
    let gives = c.into_iter-other-iterator.ensures.into_iter_gives ∙ c.iter-other-items.ensures.lists in
    let modes = modes_in_loop c.args.self.now c.loop-other.yielded _ _ _ _ (c.in-Some.other, c.in-Some.list)
    gives c.loop-other.yielded_by c.in-Some.is c.next.ensures.steps c.iter-other-items.ensures.found in
    let test : true ≡ not (owner_eq c.in-Some.other.now c.args.owner) = c.if-ne.ensures in (
      λ _. conflict_from_hit _ _ _ _ c.in-Some.other.now c.first_hit.result (different_from_eq _ _ (not-true _ (sym test)))
          (sym c.if-is_some.ensures) (rw modes c.first_hit.ensures.hit),
      λ _. refl,
    )

pub loop-other-preserved-then-is_empty : goal.loop-other-preserved-then-is_empty
loop-other-preserved-then-is_empty c =
    let gives = c.into_iter-other-iterator.ensures.into_iter_gives ∙ c.iter-other-items.ensures.lists in
    let modes = modes_in_loop c.args.self.now c.loop-other.yielded _ _ _ _ (c.in-Some.other, c.in-Some.list)
    gives c.loop-other.yielded_by c.in-Some.is c.next.ensures.steps c.iter-other-items.ensures.found in (
      tt,
      tt,
      All-push (λ x. NeverBlocks (byte_modes_of c.args.self.now) c.args.owner c.args.span c.args.mode x.0.now) c.loop-other.yielded
          (c.in-Some.other, c.in-Some.list) c.loop-other.invariant.2
          (never_without_modes _ _ _ _ _ (rw modes (c.is_empty.ensures.free.0 c.if-is_empty.true))),
    )

pub loop-other-preserved : goal.loop-other-preserved
loop-other-preserved c =
    let gives = c.into_iter-other-iterator.ensures.into_iter_gives ∙ c.iter-other-items.ensures.lists in
    let modes = modes_in_loop c.args.self.now c.loop-other.yielded _ _ _ _ (c.in-Some.other, c.in-Some.list)
    gives c.loop-other.yielded_by c.in-Some.is c.next.ensures.steps c.iter-other-items.ensures.found in
    let never : NeverBlocks (byte_modes_of c.args.self.now) c.args.owner c.args.span c.args.mode c.in-Some.other.now =
    elim c.else-ne.branch [
      | else-ne-via-then-ne+else-is_some w ↦
          never_without_hit _ _ _ _ _ w.first_hit.result (sym w.if-is_some.ensures) (rw modes w.first_hit.ensures.none)
      | else-ne-via-else-ne w ↦
          (let test : false ≡ not (owner_eq c.in-Some.other.now c.args.owner) = w.if-ne.ensures in
          never_itself _ _ _ _ _ (same_from_eq _ _ (not-false _ (sym test))))
    ] in (
      tt,
      tt,
      All-push (λ x. NeverBlocks (byte_modes_of c.args.self.now) c.args.owner c.args.span c.args.mode x.0.now) c.loop-other.yielded
          (c.in-Some.other, c.in-Some.list) c.loop-other.invariant.2 never,
    )

pub returns : goal.returns
returns c =
    let gives = c.into_iter-other-iterator.ensures.into_iter_gives ∙ c.iter-other-items.ensures.lists in
    let whole = (iter_end deref_pair c.args.self.now.owners c.loop-other.yielded _ _ _ _ gives c.loop-other.yielded_by c.in-None.is c.next.ensures.steps).0 in (
      λ h. absurd (let e : false ≡ true = h in cc),
      λ conflict. absurd (least_none c.args.self.now c.loop-other.yielded _ _ _ whole c.loop-other.invariant.2 conflict),
    )

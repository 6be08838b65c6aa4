use Rattle.lock_book.proofs.Common.{ℕ, ◌∙◌, ap, Option, deref_pair, iter_end, BTreeMap, Mode}
use Rattle.lock_book.proofs.FlockLemmas.{flock_mode_in_loop, earlier_flocks}
use Rattle.lock_book.proofs.HeldLemmas.{flocks_of_more, flocks_of_empty, all_flock_locks}
use Rattle.lock_book.proofs.book.Book.held_flocks.Goals as goal

pub loop-description-preserved : goal.loop-description-preserved
loop-description-preserved c =
    let gives = c.into_iter-description-iterator.ensures.into_iter_gives in
    let mode = flock_mode_in_loop c.args.self.now c.places-description-items.result.now c.loop-description.yielded _ _ _ _ (c.in-Some.description, c.in-Some.place)
    c.places-description-items.ensures gives.0 c.loop-description.yielded_by c.in-Some.is c.next.ensures.steps gives.6 in
    let earlier = earlier_flocks c.places-description-items.result.now c.loop-description.yielded _ _ _ _ (c.in-Some.description, c.in-Some.place)
    gives.0 c.loop-description.yielded_by c.in-Some.is c.next.ensures.steps gives.5 in (
      tt,
      tt,
      rw c.in_ok-push.ensures.items
          (flocks_of_more _ _ c.loop-description.yielded (c.in-Some.description, c.in-Some.place) c.in-Some-place.mode _ c.flock_line.result
          c.loop-description.invariant.2 mode c.in-Some-place.is earlier c.flock_line.ensures),
    )

pub loop-description-preserved-in_default : goal.loop-description-preserved-in_default
loop-description-preserved-in_default c =
    (tt, tt, flocks_of_empty _ _ c.loop-description.yielded (c.in-Some.description, c.in-Some.place) _ c.loop-description.invariant.2 c.in_default.is)

pub returns : goal.returns
returns c =
    let gives = c.into_iter-description-iterator.ensures.into_iter_gives in
    let whole = (iter_end deref_pair c.places-description-items.result.now.entries c.loop-description.yielded _ _ _ _ gives.0 c.loop-description.yielded_by c.in-None.is c.next.ensures.steps).0 in
    all_flock_locks c.args.self.now _ c.loop-description.yielded _ (whole ∙ ap (λ (m : BTreeMap ℕ (Option Mode)). m.entries) c.places-description-items.ensures) c.loop-description.invariant.2

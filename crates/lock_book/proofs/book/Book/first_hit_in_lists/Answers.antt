use Rattle.lock_book.proofs.Common.{◌∙◌, ◌≡◌, sym, true, false, deref_pair, iter_end, byte_modes_of}
use Rattle.lock_book.proofs.OwnerLemmas.{owner_eq, same_from_eq, different_from_eq}
use Rattle.lock_book.proofs.BlockLemmas.{NeverBlocks, least_skip, least_replaces, least_stays, none_from_least, first_from_least, modes_in_loop, before_in_loop, never_itself, never_from_none, never_without_modes, first_at_start}
use Rattle.lock_book.proofs.book.Book.first_hit_in_lists.Goals as goal
use Rattle.lock_book.proofs.book.Book.first_hit_in_lists.Goals.{then-is_empty-via-then-is_empty, then-is_empty-via-else-is_empty+then-eq}

pub loop-other-preserved-then-is_empty : goal.loop-other-preserved-then-is_empty
loop-other-preserved-then-is_empty c =
    let gives = c.into_iter-other-iterator.ensures.into_iter_gives ∙ c.iter-other-items.ensures.lists in
    let modes = modes_in_loop c.args.self.now c.loop-other.yielded _ _ _ _ (c.in-Some.other, c.in-Some.list)
    gives c.loop-other.yielded_by c.in-Some.is c.next.ensures.steps c.iter-other-items.ensures.found in
    let never : NeverBlocks (byte_modes_of c.args.self.now) c.args.owner c.args.span c.args.mode c.in-Some.other.now =
    elim c.then-is_empty.branch [
      | then-is_empty-via-then-is_empty w ↦
          never_without_modes _ _ _ _ _ (rw modes (c.is_empty.ensures.free.0 w.if-is_empty.true))
      | then-is_empty-via-else-is_empty+then-eq w ↦
          (let test : true ≡ owner_eq c.in-Some.other.now c.args.owner = w.if-eq.ensures in
          never_itself _ _ _ _ _ (same_from_eq _ _ (sym test)))
    ] in (
      tt,
      tt,
      least_skip _ _ _ _ c.loop-other.yielded c.loop-other.first (c.in-Some.other, c.in-Some.list) c.loop-other.invariant.2 never,
    )

pub loop-other-preserved-then-is_lower : goal.loop-other-preserved-then-is_lower
loop-other-preserved-then-is_lower c =
    let gives = c.into_iter-other-iterator.ensures.into_iter_gives ∙ c.iter-other-items.ensures.lists in
    let test : false ≡ owner_eq c.in-Some.other.now c.args.owner = c.if-eq.ensures in
    let modes = modes_in_loop c.args.self.now c.loop-other.yielded _ _ _ _ (c.in-Some.other, c.in-Some.list)
    gives c.loop-other.yielded_by c.in-Some.is c.next.ensures.steps c.iter-other-items.ensures.found in (
      tt,
      tt,
      least_replaces _ _ _ _ c.loop-other.yielded c.loop-other.first (c.in-Some.other, c.in-Some.list) c.in-Some-first_hit.byte
          c.loop-other.invariant.2 (different_from_eq _ _ (sym test)) (rw modes c.in-Some-first_hit.ensures.hit) c.if-is_lower.ensures,
    )

pub loop-other-preserved-else-is_lower : goal.loop-other-preserved-else-is_lower
loop-other-preserved-else-is_lower c =
    let gives = c.into_iter-other-iterator.ensures.into_iter_gives ∙ c.iter-other-items.ensures.lists in
    let modes = modes_in_loop c.args.self.now c.loop-other.yielded _ _ _ _ (c.in-Some.other, c.in-Some.list)
    gives c.loop-other.yielded_by c.in-Some.is c.next.ensures.steps c.iter-other-items.ensures.found in
    let before = before_in_loop c.args.self.now c.loop-other.yielded _ _ _ _ (c.in-Some.other, c.in-Some.list)
    gives c.loop-other.yielded_by c.in-Some.is c.next.ensures.steps c.iter-other-items.ensures.rising in (
      tt,
      tt,
      least_stays _ _ _ _ c.loop-other.yielded c.loop-other.first (c.in-Some.other, c.in-Some.list) c.in-Some-first_hit.byte
          c.loop-other.invariant.2 (rw modes c.in-Some-first_hit.ensures.hit) before c.if-is_lower.ensures,
    )

pub loop-other-preserved : goal.loop-other-preserved
loop-other-preserved c =
    let gives = c.into_iter-other-iterator.ensures.into_iter_gives ∙ c.iter-other-items.ensures.lists in
    let modes = modes_in_loop c.args.self.now c.loop-other.yielded _ _ _ _ (c.in-Some.other, c.in-Some.list)
    gives c.loop-other.yielded_by c.in-Some.is c.next.ensures.steps c.iter-other-items.ensures.found in (
      tt,
      tt,
      least_skip _ _ _ _ c.loop-other.yielded c.loop-other.first (c.in-Some.other, c.in-Some.list) c.loop-other.invariant.2
          (never_from_none _ _ _ _ _ (rw modes c.in_default.ensures.none)),
    )

pub returns-clause-hit : goal.returns-clause-hit
returns-clause-hit c =
    let gives = c.into_iter-other-iterator.ensures.into_iter_gives ∙ c.iter-other-items.ensures.lists in
    let whole = (iter_end deref_pair c.args.self.now.owners c.loop-other.yielded _ _ _ _ gives c.loop-other.yielded_by c.in-None.is c.next.ensures.steps).0 in
    first_from_least _ _ _ _ _ _ whole c.loop-other.invariant.2

pub returns-clause-none : goal.returns-clause-none
returns-clause-none c =
    let gives = c.into_iter-other-iterator.ensures.into_iter_gives ∙ c.iter-other-items.ensures.lists in
    let whole = (iter_end deref_pair c.args.self.now.owners c.loop-other.yielded _ _ _ _ gives c.loop-other.yielded_by c.in-None.is c.next.ensures.steps).0 in
    none_from_least _ _ _ _ _ _ whole c.loop-other.invariant.2

pub returns-then-byte-span-clause-hit : goal.returns-then-byte-span-clause-hit
returns-then-byte-span-clause-hit c =
    let gives = c.into_iter-other-iterator.ensures.into_iter_gives ∙ c.iter-other-items.ensures.lists in
    let test : false ≡ owner_eq c.in-Some.other.now c.args.owner = c.if-eq.ensures in
    let modes = modes_in_loop c.args.self.now c.loop-other.yielded _ _ _ _ (c.in-Some.other, c.in-Some.list)
    gives c.loop-other.yielded_by c.in-Some.is c.next.ensures.steps c.iter-other-items.ensures.found in
    first_at_start c.args.self.now c.loop-other.yielded _ _ _ _ (c.in-Some.other, c.in-Some.list) gives c.loop-other.yielded_by c.in-Some.is c.next.ensures.steps c.iter-other-items.ensures.rising
    c.args.owner c.args.span c.args.mode c.in-Some-first_hit.byte c.if-byte-span.true
    (least_replaces _ _ _ _ c.loop-other.yielded c.loop-other.first (c.in-Some.other, c.in-Some.list) c.in-Some-first_hit.byte
    c.loop-other.invariant.2 (different_from_eq _ _ (sym test)) (rw modes c.in-Some-first_hit.ensures.hit) c.if-is_lower.ensures)

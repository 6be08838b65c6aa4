use Rattle.lock_book.proofs.Common.{ℕ, ◌≡◌, sym, ◌∙◌, ap, true, false, refl, Option, None, deref_pair, All-push, iter_end, Mode, byte_modes_of}
use Rattle.lock_book.proofs.BlockLemmas.{modes_in_loop, no_modes}
use Rattle.lock_book.proofs.book.Book.lists_are_empty.Goals as goal

pub returns-then-not-is_empty : goal.returns-then-not-is_empty
returns-then-not-is_empty c =
    let gives = c.into_iter-list-iterator.ensures.into_iter_gives ∙ c.iter-list-items.ensures.lists in
    let modes = modes_in_loop c.args.self.now c.loop-list.yielded _ _ _ _ (c.in-Some.field-0-0, c.in-Some.list)
    gives c.loop-list.yielded_by c.in-Some.is c.next.ensures.steps c.iter-list-items.ensures.found in
    let free = c.is_empty.ensures.free in (
      λ h. absurd (let e : false ≡ true = h in cc),
      λ none. absurd (let yes = free.1 (λ byte. sym (ap (λ (m : ℕ → Option Mode). m byte) modes) ∙ none c.in-Some.field-0-0.now byte) in
          let no = c.if-not-is_empty.true in cc),
    )

pub loop-list-preserved : goal.loop-list-preserved
loop-list-preserved c =
    let gives = c.into_iter-list-iterator.ensures.into_iter_gives ∙ c.iter-list-items.ensures.lists in
    let modes = modes_in_loop c.args.self.now c.loop-list.yielded _ _ _ _ (c.in-Some.field-0-0, c.in-Some.list)
    gives c.loop-list.yielded_by c.in-Some.is c.next.ensures.steps c.iter-list-items.ensures.found in
    let free = c.is_empty.ensures.free in (
      tt,
      tt,
      All-push (λ x. (byte : ℕ) → byte_modes_of c.args.self.now x.0.now byte ≡ None) c.loop-list.yielded (c.in-Some.field-0-0, c.in-Some.list)
          c.loop-list.invariant.2 (λ byte. ap (λ (m : ℕ → Option Mode). m byte) modes ∙ free.0 c.if-not-is_empty.false byte),
    )

pub returns : goal.returns
returns c =
    let gives = c.into_iter-list-iterator.ensures.into_iter_gives ∙ c.iter-list-items.ensures.lists in
    let whole = (iter_end deref_pair c.args.self.now.owners c.loop-list.yielded _ _ _ _ gives c.loop-list.yielded_by c.in-None.is c.next.ensures.steps).0 in
    (λ yes. no_modes c.args.self.now c.loop-list.yielded whole c.loop-list.invariant.2, λ none. refl)

use Rattle.lock_book.proofs.Common.{◌≡◌, arith, inl, inr, not, refl, true, cases_Bool, cases_lt, Write}
use Rattle.lock_book.specs.Holders.{conflicting}
use Rattle.lock_book.proofs.HolderLemmas.{none_counted}
use Rattle.lock_book.proofs.book.holders.FlockHolders.is_empty.Goals as goal

pub returns : goal.returns
returns c =
    let holders = c.args.self.now in
    let none = none_counted holders.locks holders.places.entries holders.ordered holders.shared holders.exclusive in
    elim (cases_Bool c.conflicts_with.result) [
      | inl some ↦ (
        λ empty. absurd (let h : not true ≡ true = rw some at empty in cc),
        λ all. absurd (let zero = none.1 all in let more = c.conflicts_with.ensures.0 some in omega (arith, zero, more)),
      )
      | inr free ↦ (
        λ empty. none.0 (elim (cases_lt 0 (conflicting holders.locks Write)) [
          | inl more ↦ absurd (let some = c.conflicts_with.ensures.1 more in cc)
          | inr zero ↦ omega arith
        ]),
        λ all. (rw free refl),
      )
    ]

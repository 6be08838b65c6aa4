use Rattle.lock_book.proofs.Common.{◌∙◌, Some, refl, Read, Write}
use Rattle.lock_book.proofs.HolderLemmas.{PutsAmong-writes, counted_fits, counted_written}
use Rattle.lock_book.proofs.book.holders.FlockHolders.replace.Goals as goal

pub with-self-requires-clause-shared_fits : goal.with-self-requires-clause-shared_fits
with-self-requires-clause-shared_fits c =
    let after = c.get_mut.follows.lender c.args.mode in
    counted_fits Read _ after.entries c.len.result
    (counted_written Read c.args.description c.in_ok-place.place.now c.args.mode c.args.self.now.places after _ _
    c.in_ok-place.ensures.value (c.get_mut.follows.holds c.args.mode) c.args.self.now.shared c.without.ensures.shared)
    c.len.ensures.len c.len.ensures.small

pub with-self-requires-clause-exclusive_fits : goal.with-self-requires-clause-exclusive_fits
with-self-requires-clause-exclusive_fits c =
    let after = c.get_mut.follows.lender c.args.mode in
    counted_fits Write _ after.entries c.len.result
    (counted_written Write c.args.description c.in_ok-place.place.now c.args.mode c.args.self.now.places after _ _
    c.in_ok-place.ensures.value (c.get_mut.follows.holds c.args.mode) c.args.self.now.exclusive c.without.ensures.exclusive)
    c.len.ensures.len c.len.ensures.small

pub invariant_of-self-2-clause-shared : goal.invariant_of-self-2-clause-shared
invariant_of-self-2-clause-shared c =
    let after = c.get_mut.follows.lender c.args.mode in
    c.with-self.ensures.shared ∙ counted_written Read c.args.description c.in_ok-place.place.now c.args.mode c.args.self.now.places after _ _
    c.in_ok-place.ensures.value (c.get_mut.follows.holds c.args.mode) c.args.self.now.shared c.without.ensures.shared

pub invariant_of-self-2-clause-exclusive : goal.invariant_of-self-2-clause-exclusive
invariant_of-self-2-clause-exclusive c =
    let after = c.get_mut.follows.lender c.args.mode in
    c.with-self.ensures.exclusive ∙ counted_written Write c.args.description c.in_ok-place.place.now c.args.mode c.args.self.now.places after _ _
    c.in_ok-place.ensures.value (c.get_mut.follows.holds c.args.mode) c.args.self.now.exclusive c.without.ensures.exclusive

pub invariant_of-self-2-clause-stands : goal.invariant_of-self-2-clause-stands
invariant_of-self-2-clause-stands c =
    let after = c.get_mut.follows.lender c.args.mode in
    c.latest_after-self.ensures c.args.self.now.places.entries after.entries (Some c.args.mode) c.args.self.now.stands
    (PutsAmong-writes c.args.self.now.places after c.args.description c.in_ok-place.place.now c.args.mode c.in_ok-place.ensures.value
    (c.get_mut.follows.holds c.args.mode))
    refl

pub returns-clause-puts : goal.returns-clause-puts
returns-clause-puts c = λ some.
    let after = c.get_mut.follows.lender c.args.mode in
    PutsAmong-writes c.args.self.now.places after c.args.description c.in_ok-place.place.now c.args.mode c.in_ok-place.ensures.value
    (c.get_mut.follows.holds c.args.mode)

use Rattle.lock_book.proofs.Common.{◌∙◌, ap, Read, Write, mode_in_place}
use Rattle.lock_book.proofs.HolderLemmas.{conflict_counted, counted_others, own_counted}
use Rattle.lock_book.proofs.book.holders.FlockHolders.blocked_by_others.Goals as goal

pub without-requires-clause-shared_counted : goal.without-requires-clause-shared_counted
without-requires-clause-shared_counted c =
    own_counted Read c.args.description c.flatten-own.result c.args.self.now.places.entries _
    (c.flatten-own.ensures ∙ ap mode_in_place c.place.ensures) c.args.self.now.shared

pub without-requires-clause-exclusive_counted : goal.without-requires-clause-exclusive_counted
without-requires-clause-exclusive_counted c =
    own_counted Write c.args.description c.flatten-own.result c.args.self.now.places.entries _
    (c.flatten-own.ensures ∙ ap mode_in_place c.place.ensures) c.args.self.now.exclusive

pub returns : goal.returns
returns c =
    let own = c.flatten-own.ensures ∙ ap mode_in_place c.place.ensures in
    let shared = counted_others Read c.args.description c.flatten-own.result c.args.self.now.places.entries _ _
    (own) c.args.self.now.shared c.without.ensures.shared in
    let exclusive = counted_others Write c.args.description c.flatten-own.result c.args.self.now.places.entries _ _
    (own) c.args.self.now.exclusive c.without.ensures.exclusive in
    let counted = conflict_counted c.without.result c.args.description c.args.wanted c.args.self.now.places.entries c.args.self.now.ordered shared exclusive in
    (λ test. counted.0 (c.conflicts_with.ensures.0 test), λ conflict. c.conflicts_with.ensures.1 (counted.1 conflict))

use Rattle.lock_book.proofs.Common.{◌∙◌, None, ap, refl, sym, Read, Write}
use Rattle.lock_book.specs.Holders.{locks_among}
use Rattle.lock_book.proofs.HolderLemmas.{counted_others, own_counted, own_lock, PutsAmong-updates}
use Rattle.lock_book.proofs.book.holders.FlockHolders.remove.Goals as goal

pub without-self-requires-clause-shared_counted : goal.without-self-requires-clause-shared_counted
without-self-requires-clause-shared_counted c =
    own_counted Read c.args.description c.flatten.result c.args.self.now.places.entries _
    (own_lock c.args.description c.args.self.now.places.entries c.remove-old.result c.flatten.result c.remove-old.ensures.value c.flatten.ensures) c.args.self.now.shared

pub without-self-requires-clause-exclusive_counted : goal.without-self-requires-clause-exclusive_counted
without-self-requires-clause-exclusive_counted c =
    own_counted Write c.args.description c.flatten.result c.args.self.now.places.entries _
    (own_lock c.args.description c.args.self.now.places.entries c.remove-old.result c.flatten.result c.remove-old.ensures.value c.flatten.ensures) c.args.self.now.exclusive

pub invariant_of-self : goal.invariant_of-self
invariant_of-self c = record {
  ordered = c.remove-old.ensures.ordered;
  shared = counted_others Read c.args.description c.flatten.result c.args.self.now.places.entries _ _
      (own_lock c.args.description c.args.self.now.places.entries c.remove-old.result c.flatten.result c.remove-old.ensures.value c.flatten.ensures) c.args.self.now.shared c.without-self.ensures.shared ∙ ap (locks_among Read) (sym c.remove-old.ensures.entries);
  exclusive = counted_others Write c.args.description c.flatten.result c.args.self.now.places.entries _ _
      (own_lock c.args.description c.args.self.now.places.entries c.remove-old.result c.flatten.result c.remove-old.ensures.value c.flatten.ensures) c.args.self.now.exclusive c.without-self.ensures.exclusive ∙ ap (locks_among Write) (sym c.remove-old.ensures.entries);
  stands = c.latest_after-self.ensures c.args.self.now.places.entries c.remove-old.new.self.entries None c.args.self.now.stands
      (PutsAmong-updates c.args.self.now.places c.remove-old.new.self _ _ c.remove-old.ensures.updates) refl;
}

pub returns : goal.returns
returns c = PutsAmong-updates c.args.self.now.places c.remove-old.new.self _ _ c.remove-old.ensures.updates

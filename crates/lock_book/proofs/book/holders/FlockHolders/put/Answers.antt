use Rattle.lock_book.proofs.Common.{common_steps, ◌∙◌, Some, refl, arith, Read, Write}
use Rattle.lock_book.proofs.HolderLemmas.{PutsAmong-updates, counted_put, counted_fits, own_counted, own_lock}
use Rattle.lock_book.proofs.OwnerLemmas.{lookup-nat_cmp}
use Rattle.lock_book.proofs.book.holders.FlockHolders.put.Goals as goal

pub returns-in_err-insert-clause-there : goal.returns-in_err-insert-clause-there
returns-in_err-insert-clause-there c = grind (arith, common_steps, lookup-nat_cmp)

pub without-requires-clause-shared_counted : goal.without-requires-clause-shared_counted
without-requires-clause-shared_counted c =
    own_counted Read c.args.description c.flatten-before.result c.args.self.now.places.entries _
    (own_lock c.args.description c.args.self.now.places.entries _ c.flatten-before.result c.in_ok-insert.ensures.old c.flatten-before.ensures)
    c.args.self.now.shared

pub without-requires-clause-exclusive_counted : goal.without-requires-clause-exclusive_counted
without-requires-clause-exclusive_counted c =
    own_counted Write c.args.description c.flatten-before.result c.args.self.now.places.entries _
    (own_lock c.args.description c.args.self.now.places.entries _ c.flatten-before.result c.in_ok-insert.ensures.old c.flatten-before.ensures)
    c.args.self.now.exclusive

pub with-self-requires-clause-shared_fits : goal.with-self-requires-clause-shared_fits
with-self-requires-clause-shared_fits c =
    counted_fits Read _ c.insert.new.self.entries c.len.result
    (counted_put Read c.args.description c.flatten-before.result c.args.mode c.args.self.now.places.entries c.insert.new.self.entries _ _
    c.args.self.now.ordered c.in_ok-insert.ensures.entries
    (own_lock c.args.description c.args.self.now.places.entries _ c.flatten-before.result c.in_ok-insert.ensures.old c.flatten-before.ensures)
    c.args.self.now.shared c.without.ensures.shared)
    c.len.ensures.len c.len.ensures.small

pub with-self-requires-clause-exclusive_fits : goal.with-self-requires-clause-exclusive_fits
with-self-requires-clause-exclusive_fits c =
    counted_fits Write _ c.insert.new.self.entries c.len.result
    (counted_put Write c.args.description c.flatten-before.result c.args.mode c.args.self.now.places.entries c.insert.new.self.entries _ _
    c.args.self.now.ordered c.in_ok-insert.ensures.entries
    (own_lock c.args.description c.args.self.now.places.entries _ c.flatten-before.result c.in_ok-insert.ensures.old c.flatten-before.ensures)
    c.args.self.now.exclusive c.without.ensures.exclusive)
    c.len.ensures.len c.len.ensures.small

pub invariant_of-self-2 : goal.invariant_of-self-2
invariant_of-self-2 c = record {
  ordered = c.insert.ensures.ordered;
  shared = c.with-self.ensures.shared ∙ counted_put Read c.args.description c.flatten-before.result c.args.mode c.args.self.now.places.entries c.insert.new.self.entries _ _
      c.args.self.now.ordered c.in_ok-insert.ensures.entries
      (own_lock c.args.description c.args.self.now.places.entries _ c.flatten-before.result c.in_ok-insert.ensures.old c.flatten-before.ensures)
      c.args.self.now.shared c.without.ensures.shared;
  exclusive = c.with-self.ensures.exclusive ∙ counted_put Write c.args.description c.flatten-before.result c.args.mode c.args.self.now.places.entries c.insert.new.self.entries _ _
      c.args.self.now.ordered c.in_ok-insert.ensures.entries
      (own_lock c.args.description c.args.self.now.places.entries _ c.flatten-before.result c.in_ok-insert.ensures.old c.flatten-before.ensures)
      c.args.self.now.exclusive c.without.ensures.exclusive;
  stands = c.latest_after-self.ensures c.args.self.now.places.entries c.insert.new.self.entries (Some c.args.mode) c.args.self.now.stands
      (PutsAmong-updates c.args.self.now.places c.insert.new.self _ _ c.in_ok-insert.ensures.updates) refl;
}

pub returns-clause-ok : goal.returns-clause-ok
returns-clause-ok c = PutsAmong-updates c.args.self.now.places c.insert.new.self _ _ c.in_ok-insert.ensures.updates

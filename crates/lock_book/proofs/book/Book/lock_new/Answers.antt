use Rattle.lock_book.proofs.Common.{None, Some, refl}
use Rattle.lock_book.proofs.BookLemmas.{PutsAt-adds, in_use_by_mode, none_listed}
use Rattle.lock_book.proofs.KeptLemmas.{AreKept-list, indexed_added, none_kept}
use Rattle.lock_book.proofs.book.Book.lock_new.Goals as goal

pub put_only-requires-clause-new : goal.put_only-requires-clause-new
put_only-requires-clause-new c =
    let book = c.args.self.now in
    none_kept book c.args.owner book.index (none_listed book c.args.owner c.in_ok-add_new.field-0 c.in_ok-add_new.ensures.told c.if-not-branch.false) book.indexed

pub invariant_of-self-2 : goal.invariant_of-self-2
invariant_of-self-2 c =
    let book = c.args.self.now in
    let added = c.of-added.result in
    let none = none_listed book c.args.owner c.in_ok-add_new.field-0 c.in_ok-add_new.ensures.told c.if-not-branch.false in
    let puts = PutsAt-adds book book.owners c.add_new.new.self c.args.owner (Some added) refl (c.in_ok-add_new.ensures.ok c.if-not-branch.false) in
    let kept = AreKept-list c.put_only.new.self book c.add_new.new.self c.args.owner added puts
    (in_use_by_mode (λ byte. None) added c.args.span (Some c.args.mode) c.requires refl c.of-added.ensures.modes)
    (indexed_added book c.add_new.new.self c.args.owner added book.index c.put_only.new.self c.args.span c.args.mode puts book.indexed none c.of-added.ensures.modes c.put_only.ensures) in
    record { in_use = kept.in_use; indexed = kept.indexed }

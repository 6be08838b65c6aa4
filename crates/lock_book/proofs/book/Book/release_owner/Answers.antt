use Rattle.lock_book.proofs.Common.{refl, sym, ◌∙◌, None}
use Rattle.lock_book.proofs.BookLemmas.{PutsAt-puts, list_of-lookup}
use Rattle.lock_book.proofs.KeptLemmas.{AreKept-removed, indexed_cleared, kept_same}
use Rattle.lock_book.proofs.book.Book.release_owner.Goals as goal

pub invariant_of-self : goal.invariant_of-self
invariant_of-self c =
    let book = c.args.self.now in
    let puts = PutsAt-puts book c.remove.new.self c.args.owner _ c.remove.ensures.puts in
    let kept = AreKept-removed book.index book c.remove.new.self c.args.owner puts
    (kept_same book c.remove.new.self c.args.owner None puts book.index None (list_of-lookup book c.args.owner ∙ sym c.remove.ensures.value ∙ c.in_default.is) (λ byte. refl) book.indexed) in
    record { in_use = kept.in_use; indexed = kept.indexed }

pub invariant_of-self-2 : goal.invariant_of-self-2
invariant_of-self-2 c =
    let book = c.args.self.now in
    let puts = PutsAt-puts book c.remove.new.self c.args.owner _ c.remove.ensures.puts in
    let kept = AreKept-removed c.take_all.new.self book c.remove.new.self c.args.owner puts
    (indexed_cleared book c.remove.new.self c.args.owner None puts book.index c.take_all.new.self book.indexed c.in-Some.list
    (list_of-lookup book c.args.owner ∙ sym c.remove.ensures.value ∙ c.in-Some.is) (λ byte. refl) c.take_all.ensures) in
    record { in_use = kept.in_use; indexed = kept.indexed }

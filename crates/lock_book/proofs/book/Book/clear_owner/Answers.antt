use Rattle.lock_book.proofs.Common.{arith, ◌≡◌, ◌∙◌, sym, true, refl, Some, None, common_steps}
use Rattle.lock_book.proofs.BookLemmas.{list_of-not_lent, list_written, PutsAt-removes, PutsList-puts, ClearsOwner-puts, ClearsOwner-nothing}
use Rattle.lock_book.proofs.KeptLemmas.{AreKept-list, AreKept-removed, AreKept-left, indexed_cleared}
use Rattle.lock_book.proofs.book.Book.clear_owner.Goals as goal

pub invariant_of-self : goal.invariant_of-self
invariant_of-self c =
    let book = c.args.self.now in
    let list = c.clear.new.self in
    let owners = c.get_mut.follows.lender list in
    let written = list_written book owners c.args.owner _ _ list c.get_mut.ensures.value c.in-Some.is (c.get_mut.follows.holds list) in
    let puts = PutsAt-removes book owners c.remove.new.self c.args.owner (Some list) written.1 c.remove.ensures.puts in
    let kept = AreKept-removed c.take_all.new.self book c.remove.new.self c.args.owner puts
    (indexed_cleared book c.remove.new.self c.args.owner None puts book.index c.take_all.new.self book.indexed c.in-Some.list.now
    written.0 (λ byte. refl) c.take_all.ensures) in
    record { in_use = kept.in_use; indexed = kept.indexed }

pub invariant_of-self-else-is_idle : goal.invariant_of-self-else-is_idle
invariant_of-self-else-is_idle c =
    let book = c.args.self.now in
    let list = c.clear.new.self in
    let owners = c.get_mut.follows.lender list in
    let written = list_written book owners c.args.owner _ _ list c.get_mut.ensures.value c.in-Some.is (c.get_mut.follows.holds list) in
    let kept = AreKept-list c.take_all.new.self book owners c.args.owner list written.1
    (λ idle. let yes : c.is_idle.result ≡ true = c.is_idle.ensures.1 idle in let no = c.if-is_idle.false in cc)
    (indexed_cleared book owners c.args.owner (Some list) written.1 book.index c.take_all.new.self book.indexed c.in-Some.list.now
    written.0 c.clear.ensures.modes c.take_all.ensures) in
    record { in_use = kept.in_use; indexed = kept.indexed }

pub returns-then-is_idle : goal.returns-then-is_idle
returns-then-is_idle c =
    let book = c.args.self.now in
    let list = c.clear.new.self in
    let owners = c.get_mut.follows.lender list in
    let written = list_written book owners c.args.owner _ _ list c.get_mut.ensures.value c.in-Some.is (c.get_mut.follows.holds list) in
    let idle = c.is_idle.ensures.0 c.if-is_idle.true in
    ClearsOwner-puts book _ c.args.owner (Some c.in-Some.list.now) None
    (PutsList-puts book _ _ _ refl (PutsAt-removes book owners c.remove.new.self c.args.owner (Some list) written.1 c.remove.ensures.puts)) written.0
    (λ byte. refl) (sym idle.no_room ∙ c.clear.ensures.room)

pub returns-else-is_idle : goal.returns-else-is_idle
returns-else-is_idle c =
    let book = c.args.self.now in
    let list = c.clear.new.self in
    let owners = c.get_mut.follows.lender list in
    let written = list_written book owners c.args.owner _ _ list c.get_mut.ensures.value c.in-Some.is (c.get_mut.follows.holds list) in
    ClearsOwner-puts book _ c.args.owner (Some c.in-Some.list.now) (Some list) (PutsList-puts book _ _ _ refl written.1) written.0
    c.clear.ensures.modes c.clear.ensures.room

pub returns-in-None : goal.returns-in-None
returns-in-None c = grind (arith, common_steps, ClearsOwner-nothing, list_of-not_lent)

pub invariant_of-self-in-None : goal.invariant_of-self-in-None
invariant_of-self-in-None c =
    let kept = AreKept-left c.args.self.now.index c.args.self.now _ c.args.self.now.indexed c.get_mut.follows.holds-at-none in
    record { in_use = kept.in_use; indexed = kept.indexed }

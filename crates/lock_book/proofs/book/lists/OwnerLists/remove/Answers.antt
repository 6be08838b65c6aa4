use Rattle.lock_book.proofs.Common.{rules, None, PutsFor}
use Rattle.lock_book.proofs.PutLemmas.{PutsFor-updates}
use Rattle.lock_book.proofs.book.lists.OwnerLists.remove.Goals as goal

pub returns-then-not-is_empty-clause-puts : goal.returns-then-not-is_empty-clause-puts
returns-then-not-is_empty-clause-puts c =
    let puts : PutsFor c.args.self.now c.remove-list.new.self c.args.owner None =
    rw (← c.self.view_is, ← c.replace.ensures.value, c.in-Many.is) (PutsFor-updates c.in-Many.lists c.remove-list.new.self c.args.owner None c.remove-list.ensures.updates) in
    search (rules, puts)

pub returns-else-not-is_empty-clause-puts : goal.returns-else-not-is_empty-clause-puts
returns-else-not-is_empty-clause-puts c =
    let puts : PutsFor c.args.self.now c.remove-list.new.self c.args.owner None =
    rw (← c.self.view_is, ← c.replace.ensures.value, c.in-Many.is) (PutsFor-updates c.in-Many.lists c.remove-list.new.self c.args.owner None c.remove-list.ensures.updates) in
    rw c.replace.ensures.after (rw (c.is_empty.ensures.0 c.if-not-is_empty.false) at puts)

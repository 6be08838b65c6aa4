use Rattle.lock_book.proofs.Common.{sym, subst, Option, Some, lookup, OwnerRuns, is_same_owner}
use Rattle.std.specs.Prelude.{IsSome}
use Rattle.std.proofs.lemmas.Bool.{false≢true}
use Rattle.lock_book.proofs.OwnerLemmas.{lookup-owner_cmp}
use Rattle.lock_book.proofs.PutLemmas.{PutsFor-updates}
use Rattle.lock_book.proofs.book.lists.OwnerLists.add_new.Goals as goal

pub returns-in_err-insert_new-in-Many-clause-there : goal.returns-in_err-insert_new-in-Many-clause-there
returns-in_err-insert_new-in-Many-clause-there c there =
    let found : IsSome (lookup (is_same_owner c.args.owner) c.in-Many.lists) = rw (← c.self.view_is, c.in-Many.is) at there in
    absurd (false≢true (c.in_err-insert_new-in-Many.ensures.there (subst (λ (l : Option OwnerRuns). IsSome l) (sym (lookup-owner_cmp c.args.owner c.in-Many.lists)) found)))

pub returns-in-Many-clause-ok : goal.returns-in-Many-clause-ok
returns-in-Many-clause-ok c is_new =
    rw (← c.self.view_is, c.in-Many.is) (PutsFor-updates c.in-Many.lists c.insert_new.new.self c.args.owner (Some c.args.list) (c.in_ok-insert_new-in-Many.ensures.updates is_new))

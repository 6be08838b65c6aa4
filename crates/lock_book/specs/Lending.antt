-- What is lent of the lists of owners.
use Rattle.std.specs.Prelude.{◌≡◌, List, Option, OnSome}
use Rattle.std.specs.Borrow.{LendsSo, MutBor, Fml}
use Rattle.std.specs.Map.{set_value}
use Rattle.owner_runs.specs.declared.owner_runs.OwnerRuns.{OwnerRuns}
use Rattle.owner_runs.specs.contracts.owner_runs.OwnerRuns as list
use Rattle.lock_book.specs.declared.Owner.{Owner}
use Rattle.lock_book.specs.contracts.book.lists.OwnerLists as owners
use Rattle.lock_book.specs.Owners.{is_same_owner}

-- once the borrow ends, the owner has the list that was left behind it
abbrev pub LendsList : MutBor (List (Owner × OwnerRuns)) → Owner → Option (MutBor OwnerRuns) → Fml
LendsList old owner lent = LendsSo owners.the_row list.the_row old lent
    (λ new left. OnSome lent (new ≡ set_value (is_same_owner owner) old.now left)) (λ new. new ≡ old.now)

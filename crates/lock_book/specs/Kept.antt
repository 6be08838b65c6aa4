-- How the lists of owners are kept.
use Rattle.std.specs.Prelude.{◌≡◌, List, [], ◌∷◌, Option, Some, None, OnSome}
use Rattle.std.specs.Borrow.{LendsSo, MutBor, Fml}
use Rattle.std.specs.Map.{set_value}
use Rattle.owner_runs.specs.declared.owner_runs.OwnerRuns.{OwnerRuns}
use Rattle.owner_runs.specs.contracts.owner_runs.OwnerRuns as list
use Rattle.lock_book.specs.declared.Owner.{Owner}
use Rattle.lock_book.specs.declared.book.lists.OwnedList.{OwnedList}
use Rattle.lock_book.specs.declared.book.lists.Kept.{Kept}
use Rattle.lock_book.specs.declared.book.lists.Kept.TheVariants as kept
use Rattle.lock_book.specs.declared.book.lists.Left.{Left}
use Rattle.lock_book.specs.declared.book.lists.Left.TheVariants as left
use Rattle.lock_book.specs.contracts.book.lists.Kept as contracts
use Rattle.lock_book.specs.Owners.{is_same_owner}

-- an owner with its list
abbrev pub pair_of : OwnedList → Owner × OwnerRuns
pair_of one = (one.owner, one.list)

-- the owners with their lists
abbrev pub lists_in : Kept → List (Owner × OwnerRuns)
lists_in kept.Nothing = []
lists_in (kept.One one) = pair_of one ∷ []
lists_in (kept.Many lists) = lists

-- those that are still to come
abbrev pub lists_left : Left → List (Owner × OwnerRuns)
lists_left (left.One None) = []
lists_left (left.One (Some one)) = pair_of one.now ∷ []
lists_left (left.Many lists) = lists

-- once the borrow ends, the owner has the list that was left behind it
abbrev pub LendsKept : MutBor Kept → Owner → Option (MutBor OwnerRuns) → Fml
LendsKept old owner lent = LendsSo contracts.the_row list.the_row old lent
    (λ new left. OnSome lent (lists_in new ≡ set_value (is_same_owner owner) (lists_in old.now) left)) (λ new. lists_in new ≡ lists_in old.now)

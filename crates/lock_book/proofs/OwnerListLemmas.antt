-- The lists of owners, in a map: for `OwnerLists`.
use Rattle.lock_book.proofs.Common.{suc, ◌≡◌, ap, refl, subst, arith, cond, Bool, true, false, Some, None, List, [], ◌∷◌, common_steps, Bor, lookup, set_value, is_at, cases_Bool, nat_tests, All-cons, All-nil, keys_of, IsStrictlySortedBy, get_or, OwnerRuns, Owner, IsBefore, is_same_owner, AreFound, AreRising, pair_of}
use Rattle.std.specs.BTreeMap.Range.{entries_between, range_contains}
use Rattle.std.specs.declared.ops.Bound.{Bound}
use Rattle.std.specs.declared.ops.Bound.TheVariants.{Unbounded}
use Rattle.std.specs.List.{filter}
use Rattle.std.proofs.lemmas.Map.Keys.{Less-from_sorted}
use Rattle.std.proofs.lemmas.Map.Entries.{length-keys_of, lookup-filter-keys}
use Rattle.std.proofs.lemmas.List.{get_or-map}
use Rattle.lock_book.specs.Owners.{is_from}
use Rattle.std.specs.Bool.{then_some}
use Rattle.lock_book.specs.declared.book.lists.OwnedList.{OwnedList}
use Rattle.lock_book.specs.declared.book.lists.Left.TheVariants as left
use Rattle.lock_book.specs.Kept.{lists_left}
use Rattle.lock_book.proofs.OwnerLemmas.{IsBefore-from_less, is_same_owner-self, owner_cmp, is_eq-nat_cmp, is_eq-owner_cmp, same_owner}

-- two tests that agree set the same entry
set_value-agree : {K X : Type 0} (p q : K → Bool) → ((k : K) → p k ≡ q k) → (es : List (K × X)) (w : X) → set_value p es w ≡ set_value q es w
set_value-agree p q agree [] w = refl
set_value-agree p q agree (e ∷ es) w = rw (agree e.0, set_value-agree p q agree es w)

-- a list that is set by the map's order is set
pub set_in_map : (owner : Owner) (lists : List (Owner × OwnerRuns)) (list : OwnerRuns) → set_value (is_at (owner_cmp owner)) lists list ≡ set_value (is_same_owner owner) lists list
set_in_map owner lists list = set_value-agree (is_at (owner_cmp owner)) (is_same_owner owner) (is_eq-owner_cmp owner) lists list

-- the map's order of owners is the definition's
is_from_start-owner : (from : Bound Owner) (owner : Owner) → range_contains owner_cmp from Unbounded owner ≡ is_from from owner
is_from_start-owner from owner = grind (arith, common_steps, cases_Bool, is_eq-nat_cmp)

-- the lists of a map from a bound on
pub map_from : (from : Bound Owner) (lists : List (Owner × OwnerRuns)) → entries_between owner_cmp from Unbounded lists ≡ filter (λ one. is_from from one.0) lists
map_from from [] = refl
map_from from (one ∷ lists) = grind (arith, common_steps, cases_Bool, is_from_start-owner, map_from from lists)

-- in a map the owners rise
pub rising_in_map : (lists : List (Owner × OwnerRuns)) → IsStrictlySortedBy owner_cmp (keys_of lists) → AreRising lists
rising_in_map lists sorted i j d before within =
    let count = length-keys_of lists in
    let less = Less-from_sorted owner_cmp (keys_of lists) i j d.0 sorted before (omega arith) in
    IsBefore-from_less _ _
    (rw (get_or-map (λ (e : Owner × OwnerRuns). e.0) lists i d d.0 (omega arith), get_or-map (λ (e : Owner × OwnerRuns). e.0) lists j d d.0 within) at less)

-- the one list, where its owner is from the bound on
pub one_from : (test : Bool) (one : Bor OwnedList) → lists_left (left.One (then_some test one)) ≡ cond test (pair_of one.now ∷ []) []
one_from true one = refl
one_from false one = refl

-- from no bound on
pub all_from : (lists : List (Owner × OwnerRuns)) → filter (λ one. is_from Unbounded one.0) lists ≡ lists
all_from [] = refl
all_from (one ∷ lists) = ap (λ (rest : List (Owner × OwnerRuns)). one ∷ rest) (all_from lists)

-- an owner that comes before another is not it
before_is_other : (one other : Owner) → IsBefore one other → is_same_owner other one ≡ false
before_is_other one other before = grind (arith, common_steps, cases_Bool, nat_tests)

-- where the owners rise, a look-up finds each list
pub found_from_rising : (lists : List (Owner × OwnerRuns)) → AreRising lists → AreFound lists
found_from_rising [] rising = All-nil (λ one. None ≡ Some one.1)
found_from_rising (first ∷ lists) rising =
    All-cons (λ one. lookup (is_same_owner one.0) (first ∷ lists) ≡ Some one.1) first lists
    (rw (is_same_owner-self first.0) refl)
    (λ k d within.
    let before : IsBefore first.0 (get_or lists k d).0 = rising 0 (suc k) d (omega arith) (omega arith) in
    let found = found_from_rising lists (λ i j e less inside. rising (suc i) (suc j) e (omega arith) (omega arith)) k d within in
    rw (before_is_other first.0 (get_or lists k d).0 before) found)

-- from a bound on a look-up finds the same
pub found_from : (from : Bound Owner) (lists : List (Owner × OwnerRuns)) (owner : Owner) → is_from from owner ≡ true
    → lookup (is_same_owner owner) (filter (λ one. is_from from one.0) lists) ≡ lookup (is_same_owner owner) lists
found_from from lists owner within =
    lookup-filter-keys (is_same_owner owner) (is_from from) true
    (λ other same. subst (λ (o : Owner). is_from from o ≡ true) (same_owner owner other same) within) lists

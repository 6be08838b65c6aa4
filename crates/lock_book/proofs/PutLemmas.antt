-- What a look-up finds once an owner's list is put, set or gone: for `OwnerLists`, and for the calls that change one owner's list.
use Rattle.lock_book.proofs.Common.{◌≡◌, ◌∙◌, sym, ap, refl, subst, arith, cond, true, false, Option, Some, List, [], ◌∷◌, inl, inr, common_steps, lookup, set_value, is_at, cases_Bool, nat_tests, OwnerRuns, Owner, is_same_owner, PutsFor}
use Rattle.std.specs.Prelude.{IsSome}
use Rattle.std.specs.Cmp.{IsEquivalence}
use Rattle.block_map.specs.Updates.{Updates}
use Rattle.std.proofs.lemmas.Map.{lookup-set_value}
use Rattle.lock_book.proofs.OwnerLemmas.{is_eq-owner_cmp, is_same_owner-self, lookup-owner_cmp, owner_cmp, same_owner}

same_owner-back : (one other : Owner) → is_same_owner one other ≡ is_same_owner other one
same_owner-back one other = grind (arith, common_steps, cases_Bool, nat_tests)

same_owner-along : (one other third : Owner) → is_same_owner one other ≡ true → is_same_owner one third ≡ is_same_owner other third
same_owner-along one other third same = ap (λ (owner : Owner). is_same_owner owner third) (same_owner one other same)

same_owner-laws : IsEquivalence is_same_owner
same_owner-laws = record { refl = is_same_owner-self; symm = same_owner-back; congr = same_owner-along }

-- a list that is set is put
pub PutsFor-set : (lists : List (Owner × OwnerRuns)) (owner : Owner) (list : OwnerRuns) → IsSome (lookup (is_same_owner owner) lists)
    → PutsFor lists (set_value (is_same_owner owner) lists list) owner (Some list)
PutsFor-set lists owner list there other =
    lookup-set_value same_owner-laws (is_same_owner owner) (same_owner-along owner) other list lists there

-- an update of a map puts the list, or takes it away
pub PutsFor-updates : (old new : List (Owner × OwnerRuns)) (owner : Owner) (list : Option OwnerRuns) → Updates owner_cmp old new owner list → PutsFor old new owner list
PutsFor-updates old new owner list updates other =
    sym (lookup-owner_cmp other new) ∙ (updates other
    ∙ (ap (λ test. cond test list (lookup (is_at (owner_cmp other)) old)) (is_eq-owner_cmp owner other) ∙ ap (λ found. cond (is_same_owner owner other) list found) (lookup-owner_cmp other old)))

-- a list was put for one owner and another list for another; the first is still there
pub still_there : (one other : Owner) (list added : OwnerRuns) (none first both : List (Owner × OwnerRuns)) → PutsFor none first one (Some list)
    → PutsFor first both other (Some added) → is_same_owner other one ≡ false → IsSome (lookup (is_same_owner one) both)
still_there one other list added none first both puts adds apart =
    let found : lookup (is_same_owner one) both ≡ Some list =
    adds one ∙ ap (λ test. cond test (Some added) (lookup (is_same_owner one) first)) apart ∙ puts one
    ∙ ap (λ test. cond test (Some list) (lookup (is_same_owner one) none)) (is_same_owner-self one) in
    rw found refl

-- so once it is set, the other's was added
pub PutsFor-second : (one other : Owner) (list empty added : OwnerRuns) (first both all : List (Owner × OwnerRuns)) → PutsFor [] first one (Some empty)
    → PutsFor first both other (Some added) → PutsFor both all one (Some list) → is_same_owner other one ≡ false
    → PutsFor ((one, list) ∷ []) all other (Some added)
PutsFor-second one other list empty added first both all puts adds sets apart owner = elim (cases_Bool (is_same_owner one owner)) [
  | inl same ↦
      (let away : is_same_owner other owner ≡ false = subst (λ (o : Owner). is_same_owner other o ≡ false) (same_owner one owner same) apart in
      rw (sets owner, same_owner-back owner one, same, away) refl)
  | inr differs ↦ rw (sets owner, adds owner, puts owner, same_owner-back owner one, differs) refl
]

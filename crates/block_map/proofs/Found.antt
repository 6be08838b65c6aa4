-- What a search finds among rising keys, and what is done there.
use Rattle.std.proofs.Common.{◌≡◌, ℕ, ◌<◌, ◌≤◌, zero, suc, true, false, cond, List, [], ◌∷◌, Some, None, length, slice_index_or, slice_set, take, MatchResult, refl, sym, subst, ap, ◌∙◌}
use native.Mathlib.Omega.{arith}
use Rattle.std.specs.Prelude.{Option, is_ok, is_some, IsSome}
use Rattle.std.specs.List.{AllByRecursion, HoldsAt, insert, remove}
use Rattle.std.specs.Map.{lookup, remove_entry, set_value}
use Rattle.std.specs.BTreeMap.{insert_entry, is_at}
use Rattle.std.specs.Cmp.{IsTotalOrder}
use Rattle.std.specs.Ordering.{is_eq, is_lt, is_some_and, match_ordering, ordering_reverse}
use Rattle.std.specs.declared.result.Result.{Result}
use Rattle.std.specs.declared.result.Result.TheVariants.{Ok, Err}
use Rattle.std.specs.declared.cmp.Ordering.{Ordering}
use Rattle.std.specs.declared.cmp.Ordering.TheVariants.{Less, Equal, Greater}
use Rattle.block_map.specs.Blocks.{AreBefore, AreRising, IsFoundAt, IsMissingAt}
use Rattle.block_map.proofs.Parts.{all_like, less_back}

-- what holds of all holds at a place
pub all_at : {T : Type 0} (P : T → Type 0) (xs : List T) (place : ℕ) (d : T) → AllByRecursion P xs → place < length xs → P (slice_index_or xs place d)
all_at P [] place d all below = absurd (omega (arith, below))
all_at P (x ∷ xs) zero d all below = all.0
all_at P (x ∷ xs) (suc place) d all below = all_at P xs place d all.1 (omega (arith, below))

less_is : (r : Ordering) → is_lt r ≡ true → r ≡ Less
less_is Less is = refl
less_is Equal is = absurd (let no : false ≡ true = is in cc)
less_is Greater is = absurd (let no : false ≡ true = is in cc)

-- what `<` says of two keys, `cmp` does
pub less_by : (partial : Option Ordering) (r : Ordering) → true ≡ is_some_and is_lt partial → partial ≡ Some r → r ≡ Less
less_by partial r test is = less_is r (sym (test ∙ ap (is_some_and is_lt) is))

module _ {K : Type 0} {cmp : K → K → Ordering} (o : IsTotalOrder cmp) where
  equal_back : (a b : K) → cmp a b ≡ Equal → cmp b a ≡ Equal
  equal_back a b same = o.antisymm b a ∙ ap ordering_reverse same

  greater_back : (a b : K) → cmp a b ≡ Greater → cmp b a ≡ Less
  greater_back a b greater = o.antisymm b a ∙ ap ordering_reverse greater

module _ {K X : Type 0} {cmp : K → K → Ordering} (o : IsTotalOrder cmp) where
  -- where an entry comes before the key, so do those before it
  pub all_before : (key at : K) (es : List (K × X)) (place upto : ℕ) → upto ≤ suc place → place < length es → HoldsAt (λ e. e.0 ≡ at) es place → cmp at key ≡ Less → AreRising cmp es
      → AreBefore cmp key (take upto es)
  all_before key at [] place upto within below is less rising = absurd (omega (arith, below))
  all_before key at (e ∷ es) place zero within below is less rising = tt
  all_before key at (e ∷ es) zero (suc zero) within below is less rising = (subst (λ k. cmp k key ≡ Less) (sym (is e)) less, tt)
  all_before key at (e ∷ es) zero (suc (suc upto)) within below is less rising = absurd (omega (arith, within))
  all_before key at (e ∷ es) (suc place) (suc upto) within below is less rising = (
    o.trans e.0 at key (subst (λ k. cmp e.0 k ≡ Less) (is e) (all_at (λ f. cmp e.0 f.0 ≡ Less) es place e rising.0 (omega (arith, below)))) less,
    all_before key at es place upto (omega (arith, within)) (omega (arith, below)) (λ d. is d) less rising.1,
  )

  -- an entry of the key, behind those that come before it, is where it is found
  pub found_behind : (key at : K) (es : List (K × X)) (place : ℕ) → place < length es → HoldsAt (λ e. e.0 ≡ at) es place → cmp at key ≡ Equal → AreBefore cmp key (take place es)
      → IsFoundAt cmp key es place
  found_behind key at [] place below is same before = absurd (omega (arith, below))
  found_behind key at (e ∷ es) zero below is same before = subst (λ k. cmp k key ≡ Equal) (sym (is e)) same
  found_behind key at (e ∷ es) (suc place) below is same before = (before.0, found_behind key at es place (omega (arith, below)) (λ d. is d) same before.1)

  -- what comes behind a greater key is greater
  all_behind : (key at : K) (es : List (K × X)) → cmp at key ≡ Greater → AllByRecursion (λ e. cmp at e.0 ≡ Less) es → AllByRecursion (λ e. cmp e.0 key ≡ Greater) es
  all_behind key at es greater behind = all_like (λ e. cmp at e.0 ≡ Less) (λ e. cmp e.0 key ≡ Greater) es (λ e less. less_back o key e.0 (o.trans key at e.0 (greater_back o at key greater) less)) behind

  -- before an entry of a greater key, and behind those that come before the key, it is missing
  pub missing_between : (key at : K) (es : List (K × X)) (place : ℕ) → place < length es → HoldsAt (λ e. e.0 ≡ at) es place → cmp at key ≡ Greater → AreRising cmp es → AreBefore cmp key (take place es)
      → IsMissingAt cmp key es place
  missing_between key at [] place below is greater rising before = absurd (omega (arith, below))
  missing_between key at (e ∷ es) zero below is greater rising before =
      let here = subst (λ k. cmp k key ≡ Greater) (sym (is e)) greater in (here, all_behind key e.0 es here rising.0)
  missing_between key at (e ∷ es) (suc place) below is greater rising before = (before.0, missing_between key at es place (omega (arith, below)) (λ d. is d) greater rising.1 before.1)

  -- and it is missing behind all, where all come before it
  pub missing_behind : (key : K) (es : List (K × X)) (place : ℕ) → length es ≡ place → AreBefore cmp key (take place es) → IsMissingAt cmp key es place
  missing_behind key [] zero same before = tt
  missing_behind key [] (suc place) same before = absurd (omega (arith, same))
  missing_behind key (e ∷ es) zero same before = absurd (omega (arith, same))
  missing_behind key (e ∷ es) (suc place) same before = (before.0, missing_behind key es place (omega (arith, same)) before.1)

  -- a key's place is one of the entries'
  pub found_below : (key : K) (es : List (K × X)) (place : ℕ) → IsFoundAt cmp key es place → place < length es
  found_below key [] place found = absurd found
  found_below key (e ∷ es) zero found = omega arith
  found_below key (e ∷ es) (suc place) found = omega (arith, found_below key es place found.1)

  pub missing_upto : (key : K) (es : List (K × X)) (place : ℕ) → IsMissingAt cmp key es place → place ≤ length es
  missing_upto key es zero missing = omega arith
  missing_upto key [] (suc place) missing = absurd missing
  missing_upto key (e ∷ es) (suc place) missing = omega (arith, missing_upto key es place missing.1)

  is_here : (key : K) (e : K × X) → cmp e.0 key ≡ Equal → is_at (cmp key) e.0 ≡ true
  is_here key e same = ap is_eq (equal_back o e.0 key same)

  comes_before : (key : K) (e : K × X) → cmp e.0 key ≡ Less → is_at (cmp key) e.0 ≡ false
  comes_before key e less = ap is_eq (less_back o e.0 key less)

  comes_behind : (key : K) (e : K × X) → cmp e.0 key ≡ Greater → is_at (cmp key) e.0 ≡ false
  comes_behind key e greater = ap is_eq (greater_back o e.0 key greater)

  -- a look-up gives the value there
  pub found_value : (key : K) (es : List (K × X)) (place : ℕ) (d : K × X) → IsFoundAt cmp key es place → lookup (is_at (cmp key)) es ≡ Some (slice_index_or es place d).1
  found_value key [] place d found = absurd found
  found_value key (e ∷ es) zero d found = ap (λ b. cond b (Some e.1) (lookup (is_at (cmp key)) es)) (is_here key e found)
  found_value key (e ∷ es) (suc place) d found = ap (λ b. cond b (Some e.1) (lookup (is_at (cmp key)) es)) (comes_before key e found.0) ∙ found_value key es place d found.1

  -- so a key that the search finds has one
  pub found_there : (key : K) (es : List (K × X)) (result : Result ℕ ℕ) → MatchResult result (IsFoundAt cmp key es) (IsMissingAt cmp key es) → is_ok result ≡ true
      → IsSome (lookup (is_at (cmp key)) es)
  found_there key [] (Ok place) found is = absurd found
  found_there key (e ∷ es) (Ok place) found is = ap is_some (found_value key (e ∷ es) place e found)
  found_there key es (Err place) missing is = absurd (let no : false ≡ true = is in cc)

  -- another value is set there
  pub found_set : (key : K) (value : X) (es : List (K × X)) (place : ℕ) (d : K × X) → IsFoundAt cmp key es place
      → set_value (is_at (cmp key)) es value ≡ slice_set es place ((slice_index_or es place d).0, value)
  found_set key value [] place d found = absurd found
  found_set key value (e ∷ es) zero d found = ap (λ b. cond b ((e.0, value) ∷ es) (e ∷ set_value (is_at (cmp key)) es value)) (is_here key e found)
  found_set key value (e ∷ es) (suc place) d found =
      ap (λ b. cond b ((e.0, value) ∷ es) (e ∷ set_value (is_at (cmp key)) es value)) (comes_before key e found.0) ∙ ap (λ fs. e ∷ fs) (found_set key value es place d found.1)

  -- a removal takes it out there
  pub found_remove : (key : K) (es : List (K × X)) (place : ℕ) → IsFoundAt cmp key es place → remove_entry (is_at (cmp key)) es ≡ remove es place
  found_remove key [] place found = absurd found
  found_remove key (e ∷ es) zero found = ap (λ b. cond b es (e ∷ remove_entry (is_at (cmp key)) es)) (is_here key e found)
  found_remove key (e ∷ es) (suc place) found =
      ap (λ b. cond b es (e ∷ remove_entry (is_at (cmp key)) es)) (comes_before key e found.0) ∙ ap (λ fs. e ∷ fs) (found_remove key es place found.1)

  -- where no entry is, a look-up gives none
  pub missing_value : (key : K) (es : List (K × X)) (place : ℕ) → IsMissingAt cmp key es place → lookup (is_at (cmp key)) es ≡ None
  missing_value key [] zero missing = refl
  missing_value key (e ∷ es) zero missing =
      ap (λ b. cond b (Some e.1) (lookup (is_at (cmp key)) es)) (comes_behind key e missing.0) ∙ missing_value key es zero missing.1
  missing_value key [] (suc place) missing = absurd missing
  missing_value key (e ∷ es) (suc place) missing =
      ap (λ b. cond b (Some e.1) (lookup (is_at (cmp key)) es)) (comes_before key e missing.0) ∙ missing_value key es place missing.1

  -- so a key that the search doesn't find has none
  pub not_there : (key : K) (es : List (K × X)) (result : Result ℕ ℕ) → MatchResult result (IsFoundAt cmp key es) (IsMissingAt cmp key es) → is_ok result ≡ false
      → lookup (is_at (cmp key)) es ≡ None
  not_there key es (Ok place) found is = absurd (let no : true ≡ false = is in cc)
  not_there key es (Err place) missing is = missing_value key es place missing

  -- an insertion puts one there
  pub missing_insert : (key : K) (value : X) (es : List (K × X)) (place : ℕ) → IsMissingAt cmp key es place → insert_entry cmp es key value ≡ insert es place (key, value)
  missing_insert key value [] zero missing = refl
  missing_insert key value (e ∷ es) zero missing =
      ap (λ r. match_ordering r ((key, value) ∷ e ∷ es) ((e.0, value) ∷ es) (e ∷ insert_entry cmp es key value)) (greater_back o e.0 key missing.0)
  missing_insert key value [] (suc place) missing = absurd missing
  missing_insert key value (e ∷ es) (suc place) missing =
      ap (λ r. match_ordering r ((key, value) ∷ e ∷ es) ((e.0, value) ∷ es) (e ∷ insert_entry cmp es key value)) (less_back o e.0 key missing.0)
      ∙ ap (λ fs. e ∷ fs) (missing_insert key value es place missing.1)

  -- and a removal takes none out
  pub missing_remove : (key : K) (es : List (K × X)) (place : ℕ) → IsMissingAt cmp key es place → remove_entry (is_at (cmp key)) es ≡ es
  missing_remove key [] zero missing = refl
  missing_remove key (e ∷ es) zero missing =
      ap (λ b. cond b es (e ∷ remove_entry (is_at (cmp key)) es)) (comes_behind key e missing.0) ∙ ap (λ fs. e ∷ fs) (missing_remove key es zero missing.1)
  missing_remove key [] (suc place) missing = absurd missing
  missing_remove key (e ∷ es) (suc place) missing =
      ap (λ b. cond b es (e ∷ remove_entry (is_at (cmp key)) es)) (comes_before key e missing.0) ∙ ap (λ fs. e ∷ fs) (missing_remove key es place missing.1)

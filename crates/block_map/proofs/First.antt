-- The first entry from a bound on.
use Rattle.std.proofs.Common.{◌≡◌, ◌+◌, Bool, true, false, cond, List, [], ◌∷◌, Some, None, length, refl, sym, ap, ◌∙◌, subst}
use native.Mathlib.Omega.{arith}
use Rattle.std.specs.Prelude.{is_some, if◌then◌else◌, IsSome, not, ◌&&◌}
use Rattle.std.specs.List.{AllByRecursion, filter}
use Rattle.std.specs.Map.{lookup, remove_entry}
use Rattle.std.specs.BTreeMap.{is_at}
use Rattle.std.specs.BTreeMap.Range.{entries_between, IsFromStart, IsLeBy, range_contains}
use Rattle.std.specs.Cmp.{IsTotalOrder, alike_right, tied_itself}
use Rattle.std.specs.Ordering.{is_eq, is_gt, is_le, is_lt, ordering_reverse}
use Rattle.std.specs.declared.cmp.Ordering.{Ordering}
use Rattle.std.specs.declared.cmp.Ordering.TheVariants.{Less, Equal, Greater}
use Rattle.std.specs.declared.ops.Bound.{Bound}
use Rattle.std.specs.declared.ops.Bound.TheVariants.{Excluded, Included, Unbounded}
use Rattle.block_map.specs.Blocks.{AreRising}
use Rattle.block_map.proofs.Updates.{equal_at}

le_true : (r : Ordering) → is_gt r ≡ false → (is_le r && not false) ≡ true
le_true Less is = refl
le_true Equal is = refl
le_true Greater is = sym is

le_back : (r : Ordering) → (is_le r && not false) ≡ true → is_gt r ≡ false
le_back Less is = refl
le_back Equal is = refl
le_back Greater is = sym is

lt_true : (r : Ordering) → r ≡ Less → (is_lt r && not false) ≡ true
lt_true r is = ap (λ q. is_lt q && not false) is

lt_back : (r : Ordering) → (is_lt r && not false) ≡ true → r ≡ Less
lt_back Less is = refl
lt_back Equal is = absurd (let no : false ≡ true = is in cc)
lt_back Greater is = absurd (let no : false ≡ true = is in cc)

module _ {K : Type 0} {cmp : K → K → Ordering} (o : IsTotalOrder cmp) where
  -- a key that is inside a start bound passes its test
  passes : (from : Bound K) (key : K) → IsFromStart cmp from key → range_contains cmp from Unbounded key ≡ true
  passes (Included a) key is = le_true (cmp a key) is
  passes (Excluded a) key is = lt_true (cmp a key) is
  passes Unbounded key is = refl

  -- and one that passes is inside
  pub inside : (from : Bound K) (key : K) → range_contains cmp from Unbounded key ≡ true → IsFromStart cmp from key
  inside (Included a) key is = le_back (cmp a key) is
  inside (Excluded a) key is = lt_back (cmp a key) is
  inside Unbounded key is = tt

  -- so is one that is alike
  inside_alike : (from : Bound K) (key other : K) → cmp key other ≡ Equal → IsFromStart cmp from key → IsFromStart cmp from other
  inside_alike (Included a) key other same is = subst (λ r. is_gt r ≡ false) (alike_right o key other a same) is
  inside_alike (Excluded a) key other same is = sym (alike_right o key other a same) ∙ is
  inside_alike Unbounded key other same is = tt

module _ {K X : Type 0} {cmp : K → K → Ordering} (o : IsTotalOrder cmp) where
  -- the first that passes passes
  pub first_passes : (test : K → Bool) (x : K × X) (es rest : List (K × X)) → filter (λ e. test e.0) es ≡ x ∷ rest → test x.0 ≡ true
  first_passes test x [] rest is = absurd (let no : [] ≡ x ∷ rest = is in cc)
  first_passes test x (e ∷ es) rest is = by (test e.0) refl is (first_passes test x es rest)
    where
      by : (b : Bool) → test e.0 ≡ b → cond b (e ∷ filter (λ f. test f.0) es) (filter (λ f. test f.0) es) ≡ x ∷ rest → (filter (λ f. test f.0) es ≡ x ∷ rest → test x.0 ≡ true) → test x.0 ≡ true
      by true at is more = subst (λ k. test k ≡ true) (let eq : e.0 ≡ x.0 = (let q : e ∷ filter (λ f. test f.0) es ≡ x ∷ rest = is in cc) in eq) at
      by false at is more = more is

  -- and is one of all
  pub first_found : (test : K → Bool) (x : K × X) (es rest : List (K × X)) → filter (λ e. test e.0) es ≡ x ∷ rest → IsSome (lookup (is_at (cmp x.0)) es)
  first_found test x [] rest is = absurd (let no : [] ≡ x ∷ rest = is in cc)
  first_found test x (e ∷ es) rest is = by (test e.0) is (first_found test x es rest)
    where
      or_behind : (b : Bool) → IsSome (lookup (is_at (cmp x.0)) es) → IsSome (cond b (Some e.1) (lookup (is_at (cmp x.0)) es))
      or_behind true more = refl
      or_behind false more = more

      by : (b : Bool) → cond b (e ∷ filter (λ f. test f.0) es) (filter (λ f. test f.0) es) ≡ x ∷ rest → (filter (λ f. test f.0) es ≡ x ∷ rest → IsSome (lookup (is_at (cmp x.0)) es))
          → IsSome (lookup (is_at (cmp x.0)) (e ∷ es))
      by true is more =
          let eq : e.0 ≡ x.0 = (let q : e ∷ filter (λ f. test f.0) es ≡ x ∷ rest = is in cc) in
          subst (λ k. IsSome (cond (is_at (cmp k) e.0) (Some e.1) (lookup (is_at (cmp k)) es))) eq (ap (λ r. is_some (cond (is_eq r) (Some e.1) (lookup (is_at (cmp e.0)) es))) (tied_itself o e.0))
      by false is more = or_behind (is_at (cmp x.0) e.0) (more is)

  -- an entry that is found behind others comes behind them
  found_behind : (before other : K) (es : List (K × X)) → AllByRecursion (λ f. cmp before f.0 ≡ Less) es → IsSome (lookup (is_at (cmp other)) es) → cmp before other ≡ Less
  found_behind before other [] all found = absurd (let no : false ≡ true = found in cc)
  found_behind before other (e ∷ es) all found = by (is_at (cmp other) e.0) refl found (found_behind before other es all.1)
    where
      by : (b : Bool) → is_at (cmp other) e.0 ≡ b → IsSome (cond b (Some e.1) (lookup (is_at (cmp other)) es)) → (IsSome (lookup (is_at (cmp other)) es) → cmp before other ≡ Less) → cmp before other ≡ Less
      by true at found more = alike_right o other e.0 before (equal_at o other e.0 at) ∙ all.0
      by false at found more = more found

  -- no other that is inside comes before the first
  pub first_least : (from : Bound K) (x : K × X) (es rest : List (K × X)) → AreRising cmp es → entries_between cmp from Unbounded es ≡ x ∷ rest
      → (other : K) → IsFromStart cmp from other → IsSome (lookup (is_at (cmp other)) es) → IsLeBy cmp x.0 other
  first_least from x [] rest rising is other within found = absurd (let no : [] ≡ x ∷ rest = is in cc)
  first_least from x (e ∷ es) rest rising is other within found =
      by (range_contains cmp from Unbounded e.0) refl is (is_at (cmp other) e.0) refl found (λ its there. first_least from x es rest rising.1 its other within there)
    where
      test : K → Bool
      test k = range_contains cmp from Unbounded k

      by : (b : Bool) → test e.0 ≡ b → cond b (e ∷ filter (λ f. test f.0) es) (filter (λ f. test f.0) es) ≡ x ∷ rest → (c : Bool) → is_at (cmp other) e.0 ≡ c
          → IsSome (cond c (Some e.1) (lookup (is_at (cmp other)) es)) → (filter (λ f. test f.0) es ≡ x ∷ rest → IsSome (lookup (is_at (cmp other)) es) → IsLeBy cmp x.0 other) → IsLeBy cmp x.0 other
      by true at is true here found more =
          let eq : e.0 ≡ x.0 = (let q : e ∷ filter (λ f. test f.0) es ≡ x ∷ rest = is in cc) in
          subst (λ k. IsLeBy cmp k other) eq (ap is_gt (o.antisymm e.0 other ∙ ap ordering_reverse (equal_at o other e.0 here)))
      by true at is false here found more =
          let eq : e.0 ≡ x.0 = (let q : e ∷ filter (λ f. test f.0) es ≡ x ∷ rest = is in cc) in
          subst (λ k. IsLeBy cmp k other) eq (ap is_gt (found_behind e.0 other es rising.0 found))
      by false at is true here found more =
          absurd (let no : true ≡ false = sym (passes o from e.0 (inside_alike o from other e.0 (equal_at o other e.0 here) within)) ∙ at in cc)
      by false at is false here found more = more is found

  -- where none passes, none that is inside is found
  pub none_found : (from : Bound K) (es : List (K × X)) → entries_between cmp from Unbounded es ≡ [] → (other : K) → IsFromStart cmp from other → lookup (is_at (cmp other)) es ≡ None
  none_found from [] is other within = refl
  none_found from (e ∷ es) is other within =
      by (range_contains cmp from Unbounded e.0) refl is (is_at (cmp other) e.0) refl (λ its. none_found from es its other within)
    where
      test : K → Bool
      test k = range_contains cmp from Unbounded k

      by : (b : Bool) → test e.0 ≡ b → cond b (e ∷ filter (λ f. test f.0) es) (filter (λ f. test f.0) es) ≡ [] → (c : Bool) → is_at (cmp other) e.0 ≡ c
          → (filter (λ f. test f.0) es ≡ [] → lookup (is_at (cmp other)) es ≡ None) → cond c (Some e.1) (lookup (is_at (cmp other)) es) ≡ None
      by true at is c here more = absurd (let no : e ∷ filter (λ f. test f.0) es ≡ [] = is in cc)
      by false at is true here more =
          absurd (let no : true ≡ false = sym (passes o from e.0 (inside_alike o from other e.0 (equal_at o other e.0 here) within)) ∙ at in cc)
      by false at is false here more = more is

-- an entry that is found and goes makes them one fewer
pub one_fewer : {K X : Type 0} (test : K → Bool) (es : List (K × X)) → length (remove_entry test es) + (if is_some (lookup test es) then 1 else 0) ≡ length es
one_fewer test [] = refl
one_fewer {K} {X} test (e ∷ es) = by (test e.0) (one_fewer test es)
  where
    by : (b : Bool) → length (remove_entry test es) + (if is_some (lookup test es) then 1 else 0) ≡ length es
        → length (cond b es (e ∷ remove_entry test es)) + (if is_some (cond b (Some e.1) (lookup test es)) then 1 else 0) ≡ length (e ∷ es)
    by true rest = omega arith
    by false rest = omega (arith, rest)

-- What is done to keys and to values is done to the entries.
use Rattle.std.proofs.Common.{◌≡◌, ℕ, ◌-◌, ◌<◌, zero, suc, cond, List, [], ◌∷◌, is_some, Some, length, slice_index_or, slice_set, take, drop, take_all, length-drop, length-set, length-take, refl, sym, ap, subst, ◌∙◌}
use native.Mathlib.Omega.{arith}
use Rattle.std.specs.List.{AllByRecursion, insert, remove, zip}
use Rattle.std.specs.Map.{lookup, remove_entry, set_value}
use Rattle.std.specs.BTreeMap.{insert_entry, is_at}
use Rattle.std.specs.Cmp.{IsTotalOrder}
use Rattle.std.specs.declared.cmp.Ordering.{Ordering}
use Rattle.std.specs.declared.cmp.Ordering.TheVariants.{Less}
use Rattle.block_map.specs.Blocks.{AreKept, AreRising, IsFoundAt, IsMissingAt, with_new}
use Rattle.block_map.proofs.Found.{found_below, found_remove, found_set, found_value, missing_insert, missing_value}
use Rattle.block_map.proofs.Rising.{drop_rises, insert_rises, remove_rises, set_rises, take_rises}

-- a part up to the end is what stands from its start on
pub rest_is : {T : Type 0} (place : ℕ) (xs ys : List T) → xs ≡ ys → take (length xs - place) (drop place xs) ≡ drop place ys
rest_is place xs ys same = take_all (length xs - place) (drop place xs) (omega (arith, length-drop place xs)) ∙ ap (drop place) same

module _ {K X : Type 0} where
  -- there are as many entries as keys
  pub as_many : (ks : List K) (vs : List X) → length vs ≡ length ks → length (zip ks vs) ≡ length ks
  as_many [] vs same = refl
  as_many (k ∷ ks) [] same = absurd (omega (arith, same))
  as_many (k ∷ ks) (v ∷ vs) same = ap suc (as_many ks vs (omega (arith, same)))

  -- without a key there is none
  pub no_entry : (ks : List K) (vs : List X) → length ks ≡ 0 → zip ks vs ≡ []
  no_entry [] vs none = refl
  no_entry (k ∷ ks) vs none = absurd (omega (arith, none))

  -- the key of the entry at a place
  pub key_there : (ks : List K) (vs : List X) (place : ℕ) (d : K × X) (key : K) → length vs ≡ length ks → place < length ks → key ≡ slice_index_or ks place key
      → (slice_index_or (zip ks vs) place d).0 ≡ key
  key_there [] vs place d key same below read = absurd (omega (arith, below))
  key_there (k ∷ ks) [] place d key same below read = absurd (omega (arith, same))
  key_there (k ∷ ks) (v ∷ vs) zero d key same below read = sym read
  key_there (k ∷ ks) (v ∷ vs) (suc place) d key same below read = key_there ks vs place d key (omega (arith, same)) (omega (arith, below)) read

  -- and its value
  entry_there : (ks : List K) (vs : List X) (place : ℕ) (d : K × X) → length vs ≡ length ks → place < length ks
      → (slice_index_or (zip ks vs) place d).1 ≡ slice_index_or vs place d.1
  entry_there [] vs place d same below = absurd (omega (arith, below))
  entry_there (k ∷ ks) [] place d same below = absurd (omega (arith, same))
  entry_there (k ∷ ks) (v ∷ vs) zero d same below = refl
  entry_there (k ∷ ks) (v ∷ vs) (suc place) d same below = entry_there ks vs place d (omega (arith, same)) (omega (arith, below))

  -- a value that is set
  set_there : (ks : List K) (vs : List X) (place : ℕ) (d : K × X) (value : X)
      → slice_set (zip ks vs) place ((slice_index_or (zip ks vs) place d).0, value) ≡ zip ks (slice_set vs place value)
  set_there [] vs place d value = refl
  set_there (k ∷ ks) [] place d value = refl
  set_there (k ∷ ks) (v ∷ vs) zero d value = refl
  set_there (k ∷ ks) (v ∷ vs) (suc place) d value = ap (λ es. (k, v) ∷ es) (set_there ks vs place d value)

  -- keys rise alike beside other values
  all_alike : (P : K → Type 0) (ks : List K) (vs ws : List X) → length ws ≡ length vs → AllByRecursion (λ e. P e.0) (zip ks vs) → AllByRecursion (λ e. P e.0) (zip ks ws)
  all_alike P [] vs ws same all = tt
  all_alike P (k ∷ ks) [] [] same all = tt
  all_alike P (k ∷ ks) [] (w ∷ ws) same all = absurd (omega (arith, same))
  all_alike P (k ∷ ks) (v ∷ vs) [] same all = absurd (omega (arith, same))
  all_alike P (k ∷ ks) (v ∷ vs) (w ∷ ws) same all = (all.0, all_alike P ks vs ws (omega (arith, same)) all.1)

  rises_alike : (cmp : K → K → Ordering) (ks : List K) (vs ws : List X) → length ws ≡ length vs → AreRising cmp (zip ks vs) → AreRising cmp (zip ks ws)
  rises_alike cmp [] vs ws same rising = tt
  rises_alike cmp (k ∷ ks) [] [] same rising = tt
  rises_alike cmp (k ∷ ks) [] (w ∷ ws) same rising = absurd (omega (arith, same))
  rises_alike cmp (k ∷ ks) (v ∷ vs) [] same rising = absurd (omega (arith, same))
  rises_alike cmp (k ∷ ks) (v ∷ vs) (w ∷ ws) same rising =
      (all_alike (λ other. cmp k other ≡ Less) ks vs ws (omega (arith, same)) rising.0, rises_alike cmp ks vs ws (omega (arith, same)) rising.1)

  -- so any value may be set
  pub set_kept : (cmp : K → K → Ordering) (ks : List K) (vs : List X) (place : ℕ) (value : X) → AreKept cmp ks vs → AreKept cmp ks (slice_set vs place value)
  set_kept cmp ks vs place value kept =
      (length-set vs place value ∙ kept.0, rises_alike cmp ks vs (slice_set vs place value) (length-set vs place value) kept.1)

  -- a key and a value that come
  insert_there : (ks : List K) (vs : List X) (place : ℕ) (key : K) (value : X) → length vs ≡ length ks
      → (length (insert vs place value) ≡ length (insert ks place key)) × (insert (zip ks vs) place (key, value) ≡ zip (insert ks place key) (insert vs place value))
  insert_there ks vs zero key value same = (ap suc same, refl)
  insert_there [] [] (suc place) key value same = (refl, refl)
  insert_there [] (v ∷ vs) (suc place) key value same = absurd (omega (arith, same))
  insert_there (k ∷ ks) [] (suc place) key value same = absurd (omega (arith, same))
  insert_there (k ∷ ks) (v ∷ vs) (suc place) key value same =
      let rest = insert_there ks vs place key value (omega (arith, same)) in (ap suc rest.0, ap (λ es. (k, v) ∷ es) rest.1)

  -- and that go
  remove_there : (ks : List K) (vs : List X) (place : ℕ) → length vs ≡ length ks
      → (length (remove vs place) ≡ length (remove ks place)) × (remove (zip ks vs) place ≡ zip (remove ks place) (remove vs place))
  remove_there [] [] zero same = (refl, refl)
  remove_there [] [] (suc place) same = (refl, refl)
  remove_there [] (v ∷ vs) place same = absurd (omega (arith, same))
  remove_there (k ∷ ks) [] place same = absurd (omega (arith, same))
  remove_there (k ∷ ks) (v ∷ vs) zero same = (omega (arith, same), refl)
  remove_there (k ∷ ks) (v ∷ vs) (suc place) same =
      let rest = remove_there ks vs place (omega (arith, same)) in (ap suc rest.0, ap (λ es. (k, v) ∷ es) rest.1)

  none_beside : (ks : List K) (vs : List X) → length vs ≡ 0 → zip ks vs ≡ []
  none_beside [] vs none = refl
  none_beside (k ∷ ks) [] none = refl
  none_beside (k ∷ ks) (v ∷ vs) none = absurd (omega (arith, none))

  -- the first keys and values are the first entries
  pub take_is : (place : ℕ) (ks : List K) (vs : List X) → zip (take place ks) (take place vs) ≡ take place (zip ks vs)
  take_is zero ks vs = refl
  take_is (suc place) [] vs = refl
  take_is (suc place) (k ∷ ks) [] = refl
  take_is (suc place) (k ∷ ks) (v ∷ vs) = ap (λ es. (k, v) ∷ es) (take_is place ks vs)

  -- and the others are the others
  pub drop_is : (place : ℕ) (ks : List K) (vs : List X) → zip (drop place ks) (drop place vs) ≡ drop place (zip ks vs)
  drop_is zero ks vs = refl
  drop_is (suc place) [] vs = refl
  drop_is (suc place) (k ∷ ks) [] = none_beside (drop place ks) [] refl
  drop_is (suc place) (k ∷ ks) (v ∷ vs) = drop_is place ks vs

module _ {K X : Type 0} (cmp : K → K → Ordering) (place : ℕ) (ks : List K) (vs : List X) (kept : AreKept cmp ks vs) where
  -- both are kept
  pub taken : AreKept cmp (take place ks) (take place vs)
  taken = (omega (arith, length-take place vs, length-take place ks, kept.0), subst (AreRising cmp) (sym (take_is place ks vs)) (take_rises cmp place (zip ks vs) kept.1))

  pub dropped : AreKept cmp (drop place ks) (drop place vs)
  dropped = (omega (arith, length-drop place vs, length-drop place ks, kept.0), subst (AreRising cmp) (sym (drop_is place ks vs)) (drop_rises cmp place (zip ks vs) kept.1))

module _ {K X : Type 0} {cmp : K → K → Ordering} (o : IsTotalOrder cmp) (key : K) (ks : List K) (vs : List X) (place : ℕ) (kept : AreKept cmp ks vs) where
  -- a look-up gives the value at the key's place
  pub value_is : (value : X) → IsFoundAt cmp key (zip ks vs) place → value ≡ slice_index_or vs place value
      → Some value ≡ lookup (is_at (cmp key)) (zip ks vs)
  value_is value found read =
      let below : place < length ks = omega (arith, found_below o key (zip ks vs) place found, as_many ks vs kept.0) in
      ap Some (read ∙ sym (entry_there ks vs place (key, value) kept.0 below)) ∙ sym (found_value o key (zip ks vs) place (key, value) found)

  -- a value that is set there is the key's
  pub set_is : (value : X) → IsFoundAt cmp key (zip ks vs) place
      → AreKept cmp ks (slice_set vs place value) × (zip ks (slice_set vs place value) ≡ set_value (is_at (cmp key)) (zip ks vs) value)
  set_is value found =
      let is = found_set o key value (zip ks vs) place (key, value) found ∙ set_there ks vs place (key, value) value in
      ((length-set vs place value ∙ kept.0, subst (AreRising cmp) is (set_rises cmp (is_at (cmp key)) (zip ks vs) value kept.1)), sym is)

  -- where the key has no entry, one comes
  pub inserted : (value : X) → IsMissingAt cmp key (zip ks vs) place
      → AreKept cmp (insert ks place key) (insert vs place value) × (zip (insert ks place key) (insert vs place value) ≡ with_new cmp (zip ks vs) key value)
  inserted value missing =
      let there = insert_there ks vs place key value kept.0 in
      let is = missing_insert o key value (zip ks vs) place missing ∙ there.1 in
      let none = ap (λ found. cond (is_some found) (zip ks vs) (insert_entry cmp (zip ks vs) key value)) (missing_value o key (zip ks vs) place missing) in
      ((there.0, subst (AreRising cmp) is (insert_rises o (zip ks vs) key value kept.1)), sym (none ∙ is))

  -- the key's entry goes
  pub removed : IsFoundAt cmp key (zip ks vs) place
      → AreKept cmp (remove ks place) (remove vs place) × (zip (remove ks place) (remove vs place) ≡ remove_entry (is_at (cmp key)) (zip ks vs))
  removed found =
      let there = remove_there ks vs place kept.0 in
      let is = found_remove o key (zip ks vs) place found ∙ there.1 in
      ((there.0, subst (AreRising cmp) is (remove_rises cmp (is_at (cmp key)) (zip ks vs) kept.1)), sym is)

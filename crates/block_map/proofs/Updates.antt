-- What a look-up finds where an entry came or went.
use Rattle.std.proofs.Common.{◌≡◌, Bool, true, false, cond, List, [], ◌∷◌, Some, None, refl, sym, ap, subst, ◌∙◌}
use Rattle.std.specs.List.{AllByRecursion}
use Rattle.std.specs.List.Sorted.{IsStrictlySortedBy}
use Rattle.std.specs.Map.{keys_of, lookup, remove_entry}
use Rattle.std.specs.BTreeMap.{insert_entry, is_at}
use Rattle.std.specs.Cmp.{IsTotalOrder, alike_right}
use Rattle.std.specs.Prelude.{IfOk, is_some, not, OnOk}
use Rattle.std.specs.declared.result.Result.{Result}
use Rattle.std.specs.declared.result.Result.TheVariants.{Ok, Err}
use Rattle.std.specs.Ordering.{is_eq, ordering_reverse}
use Rattle.std.specs.declared.cmp.Ordering.{Ordering}
use Rattle.std.specs.declared.cmp.Ordering.TheVariants.{Less, Equal, Greater}
use Rattle.block_map.specs.Blocks.{AreRising, with_new}
use Rattle.block_map.specs.Updates.{Updates}
use Rattle.block_map.proofs.Splits.{lookup_apart, lookup_inserted}

module _ {K : Type 0} {cmp : K → K → Ordering} (o : IsTotalOrder cmp) where
  -- two keys are alike from both sides
  alike : (a b : K) → is_at (cmp a) b ≡ is_at (cmp b) a
  alike a b = by (cmp a b) refl
    where
      by : (r : Ordering) → cmp a b ≡ r → is_eq r ≡ is_at (cmp b) a
      by Less is = sym (ap is_eq (o.antisymm b a ∙ ap ordering_reverse is))
      by Equal is = sym (ap is_eq (o.antisymm b a ∙ ap ordering_reverse is))
      by Greater is = sym (ap is_eq (o.antisymm b a ∙ ap ordering_reverse is))

  pub equal_at : (a b : K) → is_at (cmp a) b ≡ true → cmp a b ≡ Equal
  equal_at a b is = by (cmp a b) refl is
    where
      by : (r : Ordering) → cmp a b ≡ r → is_eq r ≡ true → cmp a b ≡ Equal
      by Less at is = absurd (let no : false ≡ true = is in cc)
      by Equal at is = at
      by Greater at is = absurd (let no : false ≡ true = is in cc)

  -- whoever is alike is looked for alike
  lookup_alike : {Y : Type 0} (a b : K) (es : List (K × Y)) → cmp a b ≡ Equal → lookup (is_at (cmp b)) es ≡ lookup (is_at (cmp a)) es
  lookup_alike a b [] same = refl
  lookup_alike a b (e ∷ es) same =
      ap (λ r. cond (is_eq r) (Some e.1) (lookup (is_at (cmp b)) es)) (sym (o.congr a b e.0 same)) ∙ ap (λ found. cond (is_at (cmp a) e.0) (Some e.1) found) (lookup_alike a b es same)

module _ {K X : Type 0} {cmp : K → K → Ordering} (o : IsTotalOrder cmp) where
  -- an entry that comes
  pub insert_updates : (key : K) (value : X) (es : List (K × X)) → Updates cmp es (insert_entry cmp es key value) key (Some value)
  insert_updates key value es other = by (is_at (cmp key) other) refl
    where
      by : (b : Bool) → is_at (cmp key) other ≡ b → lookup (is_at (cmp other)) (insert_entry cmp es key value) ≡ cond b (Some value) (lookup (is_at (cmp other)) es)
      by true is = lookup_alike o key other (insert_entry cmp es key value) (equal_at o key other is) ∙ lookup_inserted o key value es
      by false is = lookup_apart o key other value es (sym (alike o key other) ∙ is)

  -- and one that is told to be new
  pub new_updates : {E : Type 0} (key : K) (value : X) (old new : List (K × X)) (result : Result Bool E)
      → IfOk result (λ is_new. is_new ≡ not (is_some (lookup (is_at (cmp key)) old))) → OnOk result (new ≡ with_new cmp old key value)
      → IfOk result (λ is_new. is_new ≡ true → Updates cmp old new key (Some value))
  new_updates key value old new (Ok is_new) told is = λ so. by (is_some (lookup (is_at (cmp key)) old)) refl (sym told ∙ so)
    where
      by : (b : Bool) → is_some (lookup (is_at (cmp key)) old) ≡ b → not (is_some (lookup (is_at (cmp key)) old)) ≡ true → Updates cmp old new key (Some value)
      by true has none = absurd (let no : false ≡ true = sym (ap not has) ∙ none in cc)
      by false has none = subst (λ es. Updates cmp old es key (Some value)) (sym (is ∙ ap (λ b. cond b old (insert_entry cmp old key value)) has)) (insert_updates key value old)
  new_updates key value old new (Err e) told is = tt

  -- behind a key none is it
  none_behind_it : (key : K) (e : K × X) (es : List (K × X)) → cmp key e.0 ≡ Equal → AllByRecursion (λ f. cmp e.0 f.0 ≡ Less) es → lookup (is_at (cmp key)) es ≡ None
  none_behind_it key e [] same all = refl
  none_behind_it key e (f ∷ es) same all =
      ap (λ b. cond b (Some f.1) (lookup (is_at (cmp key)) es)) (ap is_eq (o.congr key e.0 f.0 same ∙ all.0)) ∙ none_behind_it key e es same all.1

  removed : (key : K) (es : List (K × X)) → AreRising cmp es → lookup (is_at (cmp key)) (remove_entry (is_at (cmp key)) es) ≡ None
  removed key [] rising = refl
  removed key (e ∷ es) rising = by (is_at (cmp key) e.0) refl (removed key es rising.1)
    where
      by : (b : Bool) → is_at (cmp key) e.0 ≡ b → lookup (is_at (cmp key)) (remove_entry (is_at (cmp key)) es) ≡ None
          → lookup (is_at (cmp key)) (cond b es (e ∷ remove_entry (is_at (cmp key)) es)) ≡ None
      by true is rest = none_behind_it key e es (equal_at o key e.0 is) rising.0
      by false is rest = ap (λ b. cond b (Some e.1) (lookup (is_at (cmp key)) (remove_entry (is_at (cmp key)) es))) is ∙ rest

  kept : (key other : K) (es : List (K × X)) → is_at (cmp key) other ≡ false → lookup (is_at (cmp other)) (remove_entry (is_at (cmp key)) es) ≡ lookup (is_at (cmp other)) es
  kept key other [] apart = refl
  kept key other (e ∷ es) apart = by (is_at (cmp key) e.0) refl (kept key other es apart)
    where
      by : (b : Bool) → is_at (cmp key) e.0 ≡ b → lookup (is_at (cmp other)) (remove_entry (is_at (cmp key)) es) ≡ lookup (is_at (cmp other)) es
          → lookup (is_at (cmp other)) (cond b es (e ∷ remove_entry (is_at (cmp key)) es)) ≡ lookup (is_at (cmp other)) (e ∷ es)
      by true is rest =
          let away : is_at (cmp other) e.0 ≡ false = ap is_eq (sym (alike_right o key e.0 other (equal_at o key e.0 is))) ∙ (sym (alike o key other) ∙ apart) in
          sym (ap (λ b. cond b (Some e.1) (lookup (is_at (cmp other)) es)) away)
      by false is rest = ap (λ found. cond (is_at (cmp other) e.0) (Some e.1) found) rest

  -- and one that goes
  pub remove_updates : (key : K) (es : List (K × X)) → AreRising cmp es → Updates cmp es (remove_entry (is_at (cmp key)) es) key None
  remove_updates key es rising other = by (is_at (cmp key) other) refl
    where
      by : (b : Bool) → is_at (cmp key) other ≡ b → lookup (is_at (cmp other)) (remove_entry (is_at (cmp key)) es) ≡ cond b None (lookup (is_at (cmp other)) es)
      by true is = lookup_alike o key other (remove_entry (is_at (cmp key)) es) (equal_at o key other is) ∙ removed key es rising
      by false is = kept key other es is

-- rising keys are sorted
pub sorted : {K X : Type 0} (cmp : K → K → Ordering) (es : List (K × X)) → AreRising cmp es → IsStrictlySortedBy cmp (keys_of es)
unfolding IsStrictlySortedBy
sorted {K} {X} cmp [] rising = tt
sorted {K} {X} cmp (e ∷ es) rising = (all_keys es rising.0, sorted cmp es rising.1)
  where
    all_keys : (fs : List (K × X)) → AllByRecursion (λ f. cmp e.0 f.0 ≡ Less) fs → AllByRecursion (λ k. cmp e.0 k ≡ Less) (keys_of fs)
    all_keys [] all = tt
    all_keys (f ∷ fs) all = (all.0, all_keys fs all.1)

-- The block where a key belongs stands behind the last bound that is the key or comes before it.
use Rattle.std.proofs.Common.{append-nil, ◌≡◌, Bool, true, false, cond, List, [], ◌∷◌, ◌++◌, Option, Some, None, refl, sym, ap, ◌∙◌, subst}
use Rattle.std.specs.Prelude.{not, unwrap_or}
use Rattle.std.specs.List.{AllByRecursion}
use Rattle.std.specs.Map.{lookup, set_value}
use Rattle.std.specs.BTreeMap.{is_at}
use Rattle.std.specs.Cmp.{IsTotalOrder, tied_itself}
use Rattle.std.specs.Ordering.{is_eq, is_gt, is_lt, ordering_reverse}
use Rattle.std.specs.BTreeMap.Range.{entries_between, range_contains}
use Rattle.std.specs.declared.ops.Bound.TheVariants.{Included, Unbounded}
use Rattle.std.specs.declared.cmp.Ordering.{Ordering}
use Rattle.std.specs.declared.cmp.Ordering.TheVariants.{Less, Equal, Greater}
use Rattle.block_map.specs.Blocks.{entries_of, AreBounded, AreParted, block_for, bound_for, with_block}
use Rattle.block_map.specs.Places.{last_bound}
use Rattle.block_map.proofs.Parts.{greater_back, not_at_before}
use Rattle.block_map.proofs.Rising.{keys_set}

-- what holds of the key, and of each key of the one list, holds of each of the other
abbrev pub IsLike : {K X : Type 0} → K → List (K × X) → List (K × X) → Type 1
IsLike {K = K} key old new = (P : K → Type 0) → P key → AllByRecursion (λ e. P e.0) old → AllByRecursion (λ e. P e.0) new

turned_at : (r : Ordering) → is_lt (ordering_reverse r) ≡ is_gt r
turned_at Less = refl
turned_at Equal = refl
turned_at Greater = refl

module _ {K : Type 0} {cmp : K → K → Ordering} (o : IsTotalOrder cmp) where
  -- a bound is in the range up to the key unless it comes behind it
  within : (key bound : K) → range_contains cmp Unbounded (Included key) bound ≡ not (is_gt (cmp bound key))
  within key bound = ap not (ap is_lt (o.antisymm key bound) ∙ turned_at (cmp bound key))

module _ {K X : Type 0} {cmp : K → K → Ordering} (o : IsTotalOrder cmp) where
  later_at : (bound last : K) (block : K × List (K × X)) (b : Bool) (rest : Option K) → cmp bound block.0 ≡ Less → ((other : K) → rest ≡ Some other → cmp bound other ≡ Less)
      → cond b None (Some (unwrap_or rest block.0)) ≡ Some last → cmp bound last ≡ Less
  later_at bound last block true rest less more found = absurd (let no : None ≡ Some last = found in cc)
  later_at bound last block false None less more found = subst (λ k. cmp bound k ≡ Less) (let e : Some block.0 ≡ Some last = found in cc) less
  later_at bound last block false (Some other) less more found = subst (λ k. cmp bound k ≡ Less) (let e : Some other ≡ Some last = found in cc) (more other refl)

  -- a bound among blocks that lie behind another comes behind it
  pub later : (key bound last : K) (blocks : List (K × List (K × X))) → AreBounded cmp bound blocks → bound_for cmp key blocks ≡ Some last → cmp bound last ≡ Less
  later key bound last [] bounded found = absurd (let no : None ≡ Some last = found in cc)
  later key bound last (block ∷ blocks) bounded found =
      later_at bound last block (is_gt (cmp block.0 key)) (bound_for cmp key blocks) bounded.0 (λ other is. later key bound other blocks bounded.1 is) found

  -- before all bounds a key belongs among the first entries
  pub record IsFirst (key : K) (new first : List (K × X)) (blocks : List (K × List (K × X))) : Type 1 where
    pub block : block_for cmp key first blocks ≡ first
    pub changed : with_block cmp key new first blocks ≡ new ++ entries_of blocks
    pub parted : IsLike key first new → AreParted cmp new blocks

  first_at : (key : K) (new first : List (K × X)) (block : K × List (K × X)) (blocks : List (K × List (K × X))) → AreParted cmp first (block ∷ blocks) → (b : Bool) → is_gt (cmp block.0 key) ≡ b
      → cond b None (Some (unwrap_or (bound_for cmp key blocks) block.0)) ≡ None
      → (cond b first (block_for cmp key block.1 blocks) ≡ first) × (cond b (new ++ entries_of (block ∷ blocks)) (first ++ with_block cmp key new block.1 blocks) ≡ new ++ entries_of (block ∷ blocks))
      × (IsLike key first new → AreParted cmp new (block ∷ blocks))
  first_at key new first block blocks parted true e none =
      (refl, refl, λ like. (like (λ k. cmp k block.0 ≡ Less) (greater_back o block.0 key e) parted.0, parted.1, parted.2, parted.3))
  first_at key new first block blocks parted false e none = absurd (let no : Some (unwrap_or (bound_for cmp key blocks) block.0) ≡ None = none in cc)

  pub is_first : (key : K) (new first : List (K × X)) (blocks : List (K × List (K × X))) → AreParted cmp first blocks → bound_for cmp key blocks ≡ None → IsFirst key new first blocks
  is_first key new first [] parted none = record { block = refl; changed = sym (append-nil new); parted = λ like. tt }
  is_first key new first (block ∷ blocks) parted none =
      let at = first_at key new first block blocks parted (is_gt (cmp block.0 key)) refl none in
      record { block = at.0; changed = at.1; parted = at.2 }

  -- behind a bound a key belongs in that bound's block
  pub record IsBehind (key bound : K) (new first : List (K × X)) (blocks : List (K × List (K × X))) : Type 1 where
    pub block : lookup (is_at (cmp bound)) blocks ≡ Some (block_for cmp key first blocks)
    pub changed : with_block cmp key new first blocks ≡ first ++ entries_of (set_value (is_at (cmp bound)) blocks new)
    pub parted : IsLike key (block_for cmp key first blocks) new → AreParted cmp first (set_value (is_at (cmp bound)) blocks new)

  -- the first of blocks has the bound
  here : (key bound : K) (new first : List (K × X)) (block : K × List (K × X)) (blocks : List (K × List (K × X))) → AreParted cmp first (block ∷ blocks) → is_gt (cmp block.0 key) ≡ false
      → block.0 ≡ bound → IsFirst key new block.1 blocks → IsBehind key bound new first (block ∷ blocks)
  here key bound new first block blocks parted upto is rest =
      let at : is_at (cmp bound) block.0 ≡ true = subst (λ k. is_at (cmp k) block.0 ≡ true) is (ap is_eq (tied_itself o block.0)) in
      let for : block_for cmp key first (block ∷ blocks) ≡ block.1 = ap (λ b. cond b first (block_for cmp key block.1 blocks)) upto ∙ rest.block in
      let sets : set_value (is_at (cmp bound)) (block ∷ blocks) new ≡ (block.0, new) ∷ blocks = ap (λ b. cond b ((block.0, new) ∷ blocks) (block ∷ set_value (is_at (cmp bound)) blocks new)) at in
      record {
        block = ap (λ b. cond b (Some block.1) (lookup (is_at (cmp bound)) blocks)) at ∙ ap Some (sym for);
        changed = ap (λ b. cond b (new ++ entries_of (block ∷ blocks)) (first ++ with_block cmp key new block.1 blocks)) upto
            ∙ (ap (λ es. first ++ es) rest.changed ∙ ap (λ bs. first ++ entries_of bs) (sym sets));
        parted = λ like.
            let its = like' like for in
            subst (λ bs. AreParted cmp first bs) (sym sets) (parted.0, its (λ k. is_gt (cmp block.0 k) ≡ false) upto parted.1, parted.2, rest.parted its);
      }
    where
      like' : IsLike key (block_for cmp key first (block ∷ blocks)) new → block_for cmp key first (block ∷ blocks) ≡ block.1 → IsLike key block.1 new
      like' like for P its old = like P its (subst (λ es. AllByRecursion (λ e. P e.0) es) (sym for) old)

  -- or one behind it
  there : (key bound : K) (new first : List (K × X)) (block : K × List (K × X)) (blocks : List (K × List (K × X))) → AreParted cmp first (block ∷ blocks) → is_gt (cmp block.0 key) ≡ false
      → cmp block.0 bound ≡ Less → IsBehind key bound new block.1 blocks → IsBehind key bound new first (block ∷ blocks)
  there key bound new first block blocks parted upto less rest =
      let at : is_at (cmp bound) block.0 ≡ false = not_at_before o bound block.0 less in
      let for : block_for cmp key first (block ∷ blocks) ≡ block_for cmp key block.1 blocks = ap (λ b. cond b first (block_for cmp key block.1 blocks)) upto in
      let sets : set_value (is_at (cmp bound)) (block ∷ blocks) new ≡ block ∷ set_value (is_at (cmp bound)) blocks new = ap (λ b. cond b ((block.0, new) ∷ blocks) (block ∷ set_value (is_at (cmp bound)) blocks new)) at in
      record {
        block = ap (λ b. cond b (Some block.1) (lookup (is_at (cmp bound)) blocks)) at ∙ (rest.block ∙ ap Some (sym for));
        changed = ap (λ b. cond b (new ++ entries_of (block ∷ blocks)) (first ++ with_block cmp key new block.1 blocks)) upto
            ∙ (ap (λ es. first ++ es) rest.changed ∙ ap (λ bs. first ++ entries_of bs) (sym sets));
        parted = λ like.
            subst (λ bs. AreParted cmp first bs) (sym sets) (
              parted.0,
              parted.1,
              keys_set (λ k. cmp block.0 k ≡ Less) (is_at (cmp bound)) blocks new parted.2,
              rest.parted (λ P its old. like P its (subst (λ es. AllByRecursion (λ e. P e.0) es) (sym for) old)),
            );
      }

  behind_at : (key bound : K) (new first : List (K × X)) (block : K × List (K × X)) (blocks : List (K × List (K × X))) → AreParted cmp first (block ∷ blocks) → (b : Bool) → is_gt (cmp block.0 key) ≡ b
      → (rest : Option K) → bound_for cmp key blocks ≡ rest → cond b None (Some (unwrap_or rest block.0)) ≡ Some bound
      → ((other : K) → bound_for cmp key blocks ≡ Some other → IsBehind key other new block.1 blocks) → IsBehind key bound new first (block ∷ blocks)
  behind_at key bound new first block blocks parted true e rest is found more = absurd (let no : None ≡ Some bound = found in cc)
  behind_at key bound new first block blocks parted false e None is found more =
      here key bound new first block blocks parted e (let eq : Some block.0 ≡ Some bound = found in cc) (is_first key new block.1 blocks parted.3 is)
  behind_at key bound new first block blocks parted false e (Some other) is found more =
      let eq : other ≡ bound = (let q : Some other ≡ Some bound = found in cc) in
      let its : bound_for cmp key blocks ≡ Some bound = is ∙ ap Some eq in
      there key bound new first block blocks parted e (later key block.0 bound blocks parted.2 its) (more bound its)

  pub is_behind : (key bound : K) (new first : List (K × X)) (blocks : List (K × List (K × X))) → AreParted cmp first blocks → bound_for cmp key blocks ≡ Some bound → IsBehind key bound new first blocks
  is_behind key bound new first [] parted found = absurd (let no : None ≡ Some bound = found in cc)
  is_behind key bound new first (block ∷ blocks) parted found =
      behind_at key bound new first block blocks parted (is_gt (cmp block.0 key)) refl (bound_for cmp key blocks) refl found
      (λ other is. is_behind key other new block.1 blocks parted.3 is)

  -- no bound behind one that comes behind the key is in the range
  none_within : (key bound : K) (blocks : List (K × List (K × X))) → cmp key bound ≡ Less → AreBounded cmp bound blocks → entries_between cmp Unbounded (Included key) blocks ≡ []
  none_within key bound [] less bounded = refl
  none_within key bound (block ∷ blocks) less bounded =
      let behind = o.trans key bound block.0 less bounded.0 in
      ap (λ b. cond b (block ∷ entries_between cmp Unbounded (Included key) blocks) (entries_between cmp Unbounded (Included key) blocks))
      (ap (λ b. not b) (ap is_lt behind))
      ∙ none_within key bound blocks less bounded.1

  last_bound_at : (key : K) (block : K × List (K × X)) (blocks : List (K × List (K × X))) → AreBounded cmp block.0 blocks → (b : Bool) → is_gt (cmp block.0 key) ≡ b
      → last_bound (entries_between cmp Unbounded (Included key) blocks) ≡ bound_for cmp key blocks
      → last_bound (cond (not b) (block ∷ entries_between cmp Unbounded (Included key) blocks) (entries_between cmp Unbounded (Included key) blocks)) ≡ cond b None (Some (unwrap_or (bound_for cmp key blocks) block.0))
  last_bound_at key block blocks bounded true e rest = ap last_bound (none_within key block.0 blocks (greater_back o block.0 key e) bounded)
  last_bound_at key block blocks bounded false e rest = ap (λ last. Some (unwrap_or last block.0)) rest

  -- the last bound in the range up to the key is the key's
  pub last_within : (key : K) (first : List (K × X)) (blocks : List (K × List (K × X))) → AreParted cmp first blocks
      → last_bound (entries_between cmp Unbounded (Included key) blocks) ≡ bound_for cmp key blocks
  last_within key first [] parted = refl
  last_within key first (block ∷ blocks) parted =
      ap (λ b. last_bound (cond b (block ∷ entries_between cmp Unbounded (Included key) blocks) (entries_between cmp Unbounded (Included key) blocks))) (within o key block.0)
      ∙ last_bound_at key block blocks parted.2 (is_gt (cmp block.0 key)) refl (last_within key block.1 blocks parted.3)

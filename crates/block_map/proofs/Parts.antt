-- What is looked for, or edited, at a key, is so in the block where the key belongs.
use Rattle.std.proofs.Common.{append-nil, ◌≡◌, Bool, true, false, cond, List, [], ◌∷◌, ◌++◌, Some, None, refl, sym, ap, ◌∙◌}
use Rattle.std.specs.List.{AllByRecursion}
use Rattle.std.specs.Map.{lookup}
use Rattle.std.specs.BTreeMap.{is_at}
use Rattle.std.specs.Cmp.{IsTotalOrder, alike_right}
use Rattle.std.specs.Ordering.{is_eq, is_gt, ordering_reverse}
use Rattle.std.specs.declared.cmp.Ordering.{Ordering}
use Rattle.std.specs.declared.cmp.Ordering.TheVariants.{Less, Equal, Greater}
use Rattle.std.proofs.lemmas.Bool.{false≢true}
use Rattle.block_map.specs.Blocks.{entries_of, AreBefore, AreParted, block_for, with_block}

pub all_like : {T : Type 0} (P Q : T → Type 0) (xs : List T) → ((x : T) → P x → Q x) → AllByRecursion P xs → AllByRecursion Q xs
all_like P Q [] f h = tt
all_like P Q (x ∷ xs) f h = (f x h.0, all_like P Q xs f h.1)

pub all_append : {T : Type 0} (P : T → Type 0) (xs ys : List T) → AllByRecursion P xs → AllByRecursion P ys → AllByRecursion P (xs ++ ys)
all_append P [] ys h k = k
all_append P (x ∷ xs) ys h k = (h.0, all_append P xs ys h.1 k)

module _ {K : Type 0} {cmp : K → K → Ordering} (o : IsTotalOrder cmp) where
  less_upto_at : (a b c : K) (r : Ordering) → cmp b c ≡ r → cmp a b ≡ Less → is_gt r ≡ false → cmp a c ≡ Less
  less_upto_at a b c Less e less upto = o.trans a b c less e
  less_upto_at a b c Equal e less upto = sym (alike_right o b c a e) ∙ less
  less_upto_at a b c Greater e less upto = absurd (false≢true (sym upto))

  -- a key that comes before another comes before all that isn't before that
  pub less_upto : (a b c : K) → cmp a b ≡ Less → is_gt (cmp b c) ≡ false → cmp a c ≡ Less
  less_upto a b c less upto = less_upto_at a b c (cmp b c) refl less upto

  greater_back_at : (a b : K) (r : Ordering) → cmp a b ≡ r → is_gt r ≡ true → cmp b a ≡ Less
  greater_back_at a b Less e greater = absurd (false≢true greater)
  greater_back_at a b Equal e greater = absurd (false≢true greater)
  greater_back_at a b Greater e greater = o.antisymm b a ∙ ap ordering_reverse e

  -- the one comes before the other where that comes behind it
  pub greater_back : (a b : K) → is_gt (cmp a b) ≡ true → cmp b a ≡ Less
  greater_back a b greater = greater_back_at a b (cmp a b) refl greater

  -- and the other way round
  pub less_back : (a b : K) → cmp a b ≡ Less → cmp b a ≡ Greater
  less_back a b less = o.antisymm b a ∙ ap ordering_reverse less

  pub not_at_before : (key other : K) → cmp other key ≡ Less → is_at (cmp key) other ≡ false
  not_at_before key other less = ap is_eq (less_back other key less)

  pub not_at_behind : (key other : K) → cmp key other ≡ Less → is_at (cmp key) other ≡ false
  not_at_behind key other less = ap is_eq less

module _ {K X : Type 0} {cmp : K → K → Ordering} (o : IsTotalOrder cmp) where
  -- each key comes behind this one
  abbrev pub AreBehind : K → List (K × X) → Type 0
  AreBehind key es = AllByRecursion (λ e. cmp key e.0 ≡ Less) es

  -- behind a key that comes before a bound lie all entries from there on
  pub behind_bound : (key : K) (block : K × List (K × X)) (blocks : List (K × List (K × X))) (first : List (K × X)) → cmp key block.0 ≡ Less → AreParted cmp first (block ∷ blocks)
      → AreBehind key (entries_of (block ∷ blocks))
  behind_bound key block [] first less parted =
      all_append (λ e. cmp key e.0 ≡ Less) block.1 [] (all_like (λ e. is_gt (cmp block.0 e.0) ≡ false) (λ e. cmp key e.0 ≡ Less) block.1 (λ e from. less_upto o key block.0 e.0 less from) parted.1) tt
  behind_bound key block (next ∷ blocks) first less parted =
      all_append (λ e. cmp key e.0 ≡ Less) block.1 (entries_of (next ∷ blocks))
      (all_like (λ e. is_gt (cmp block.0 e.0) ≡ false) (λ e. cmp key e.0 ≡ Less) block.1 (λ e from. less_upto o key block.0 e.0 less from) parted.1)
      (behind_bound key next blocks block.1 (o.trans key block.0 next.0 less parted.2.0) parted.3)

  -- before a key that a bound is or comes before lie all entries before the bound
  pub before_bound : (key bound : K) (first : List (K × X)) → is_gt (cmp bound key) ≡ false → AreBefore cmp bound first → AreBefore cmp key first
  before_bound key bound first upto before = all_like (λ e. cmp e.0 bound ≡ Less) (λ e. cmp e.0 key ≡ Less) first (λ e less. less_upto o e.0 bound key less upto) before

  -- an edit at a key passes by what comes before it, and by what comes behind it
  pub record IsEditAt (key : K) (edit : List (K × X) → List (K × X)) : Type 0 where
    pub skips : (xs ys : List (K × X)) → AreBefore cmp key xs → edit (xs ++ ys) ≡ xs ++ edit ys
    pub stays : (xs ys : List (K × X)) → AreBehind key ys → edit (xs ++ ys) ≡ edit xs ++ ys

  edited_at : (key : K) (edit : List (K × X) → List (K × X)) → IsEditAt key edit → (first : List (K × X)) (block : K × List (K × X)) (blocks : List (K × List (K × X)))
      → AreParted cmp first (block ∷ blocks) → (b : Bool) → is_gt (cmp block.0 key) ≡ b
      → edit (block.1 ++ entries_of blocks) ≡ with_block cmp key (edit (block_for cmp key block.1 blocks)) block.1 blocks
      → edit (first ++ entries_of (block ∷ blocks)) ≡ cond b (edit (cond b first (block_for cmp key block.1 blocks)) ++ entries_of (block ∷ blocks))
      (first ++ with_block cmp key (edit (cond b first (block_for cmp key block.1 blocks))) block.1 blocks)
  edited_at key edit is first block blocks parted true e rest =
      is.stays first (entries_of (block ∷ blocks)) (behind_bound key block blocks first (greater_back o block.0 key e) parted)
  edited_at key edit is first block blocks parted false e rest =
      is.skips first (entries_of (block ∷ blocks)) (before_bound key block.0 first e parted.0) ∙ ap (λ es. first ++ es) rest

  -- so what is edited is the block where the key belongs
  pub edited : (key : K) (edit : List (K × X) → List (K × X)) → IsEditAt key edit → (first : List (K × X)) (blocks : List (K × List (K × X))) → AreParted cmp first blocks
      → edit (first ++ entries_of blocks) ≡ with_block cmp key (edit (block_for cmp key first blocks)) first blocks
  edited key edit is first [] parted = ap edit (append-nil first)
  edited key edit is first (block ∷ blocks) parted =
      edited_at key edit is first block blocks parted (is_gt (cmp block.0 key)) refl (edited key edit is block.1 blocks parted.3)

  -- a look-up passes by what comes before the key
  pub lookup_skips : (key : K) (xs ys : List (K × X)) → AreBefore cmp key xs → lookup (is_at (cmp key)) (xs ++ ys) ≡ lookup (is_at (cmp key)) ys
  lookup_skips key [] ys before = refl
  lookup_skips key (x ∷ xs) ys before =
      ap (λ b. cond b (Some x.1) (lookup (is_at (cmp key)) (xs ++ ys))) (not_at_before o key x.0 before.0) ∙ lookup_skips key xs ys before.1

  -- behind a key is none of it
  pub none_behind : (key : K) (ys : List (K × X)) → AreBehind key ys → lookup (is_at (cmp key)) ys ≡ None
  none_behind key [] behind = refl
  none_behind key (y ∷ ys) behind =
      ap (λ b. cond b (Some y.1) (lookup (is_at (cmp key)) ys)) (not_at_behind o key y.0 behind.0) ∙ none_behind key ys behind.1

  -- and by what comes behind it
  pub lookup_stays : (key : K) (xs ys : List (K × X)) → AreBehind key ys → lookup (is_at (cmp key)) (xs ++ ys) ≡ lookup (is_at (cmp key)) xs
  lookup_stays key [] ys behind = none_behind key ys behind
  lookup_stays key (x ∷ xs) ys behind = ap (λ found. cond (is_at (cmp key) x.0) (Some x.1) found) (lookup_stays key xs ys behind)

  looked_at : (key : K) (first : List (K × X)) (block : K × List (K × X)) (blocks : List (K × List (K × X))) → AreParted cmp first (block ∷ blocks) → (b : Bool) → is_gt (cmp block.0 key) ≡ b
      → lookup (is_at (cmp key)) (block.1 ++ entries_of blocks) ≡ lookup (is_at (cmp key)) (block_for cmp key block.1 blocks)
      → lookup (is_at (cmp key)) (first ++ entries_of (block ∷ blocks)) ≡ lookup (is_at (cmp key)) (cond b first (block_for cmp key block.1 blocks))
  looked_at key first block blocks parted true e rest =
      lookup_stays key first (entries_of (block ∷ blocks)) (behind_bound key block blocks first (greater_back o block.0 key e) parted)
  looked_at key first block blocks parted false e rest =
      lookup_skips key first (entries_of (block ∷ blocks)) (before_bound key block.0 first e parted.0) ∙ rest

  -- so a look-up finds what it finds in the block where the key belongs
  pub looked_up : (key : K) (first : List (K × X)) (blocks : List (K × List (K × X))) → AreParted cmp first blocks
      → lookup (is_at (cmp key)) (first ++ entries_of blocks) ≡ lookup (is_at (cmp key)) (block_for cmp key first blocks)
  looked_up key first [] parted = ap (lookup (is_at (cmp key))) (append-nil first)
  looked_up key first (block ∷ blocks) parted =
      looked_at key first block blocks parted (is_gt (cmp block.0 key)) refl (looked_up key block.1 blocks parted.3)

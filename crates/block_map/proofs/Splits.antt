-- A block that is split has its entries in two blocks.
use Rattle.std.proofs.Common.{append_assoc, ◌≡◌, ℕ, ◌<◌, ◌≤◌, zero, suc, Bool, true, false, cond, List, [], ◌∷◌, ◌++◌, Option, Some, None, length, take, drop, refl, sym, ap, ◌∙◌, subst}
use native.Mathlib.Omega.{arith}
use Rattle.std.specs.List.{AllByRecursion, HoldsAt}
use Rattle.std.specs.Map.{lookup, remove_entry, set_value}
use Rattle.std.specs.BTreeMap.{insert_entry, is_at}
use Rattle.std.specs.Cmp.{IsTotalOrder, alike_right, tied_itself}
use Rattle.std.proofs.lemmas.Bool.{false≢true}
use Rattle.std.specs.Ordering.{is_eq, is_gt, match_ordering}
use Rattle.std.specs.declared.cmp.Ordering.{Ordering}
use Rattle.std.specs.declared.cmp.Ordering.TheVariants.{Less, Equal, Greater}
use Rattle.block_map.specs.Blocks.{AreBefore, AreBounded, AreFrom, AreParted, AreRising, entries_of}
use Rattle.block_map.specs.Kept.{AreInOrder, block_at, entries_in, HasPlace, KeepsEntries, SameBlocks, SetsBlock}
use Rattle.block_map.specs.declared.blocks.Blocks.{Blocks}
use Rattle.block_map.proofs.Edits.{insert_front}
use Rattle.block_map.proofs.Found.{all_at}
use Rattle.block_map.proofs.Kept.{same_blocks}
use Rattle.block_map.proofs.Parts.{less_back, less_upto, none_behind, not_at_before}

take_drop : {T : Type 0} (place : ℕ) (xs : List T) → take place xs ++ drop place xs ≡ xs
take_drop zero xs = refl
take_drop (suc place) [] = refl
take_drop (suc place) (x ∷ xs) = ap (λ ys. x ∷ ys) (take_drop place xs)

all_taken : {T : Type 0} (P : T → Type 0) (place : ℕ) (xs : List T) → AllByRecursion P xs → AllByRecursion P (take place xs)
all_taken P zero xs all = tt
all_taken P (suc place) [] all = tt
all_taken P (suc place) (x ∷ xs) all = (all.0, all_taken P place xs all.1)

all_dropped : {T : Type 0} (P : T → Type 0) (place : ℕ) (xs : List T) → AllByRecursion P xs → AllByRecursion P (drop place xs)
all_dropped P zero xs all = all
all_dropped P (suc place) [] all = tt
all_dropped P (suc place) (x ∷ xs) all = all_dropped P place xs all.1

-- an entry that comes where there is none, and goes
remove_inserted : {K Y : Type 0} {cmp : K → K → Ordering} (o : IsTotalOrder cmp) (key : K) (value : Y) (es : List (K × Y)) → lookup (is_at (cmp key)) es ≡ None
    → remove_entry (is_at (cmp key)) (insert_entry cmp es key value) ≡ es
remove_inserted {cmp = cmp} o key value [] absent = ap (λ b. cond b [] ((key, value) ∷ [])) (ap is_eq (tied_itself o key))
remove_inserted {K} {Y} {cmp = cmp} o key value (e ∷ es) absent = at (cmp key e.0) refl absent (remove_inserted o key value es)
  where
    at : (r : Ordering) → cmp key e.0 ≡ r → cond (is_eq r) (Some e.1) (lookup (is_at (cmp key)) es) ≡ None
        → (lookup (is_at (cmp key)) es ≡ None → remove_entry (is_at (cmp key)) (insert_entry cmp es key value) ≡ es)
        → remove_entry (is_at (cmp key)) (match_ordering r ((key, value) ∷ e ∷ es) ((e.0, value) ∷ es) (e ∷ insert_entry cmp es key value)) ≡ e ∷ es
    at Less is none rest = ap (λ b. cond b (e ∷ es) ((key, value) ∷ remove_entry (is_at (cmp key)) (e ∷ es))) (ap is_eq (tied_itself o key))
    at Equal is none rest = absurd (let no : Some e.1 ≡ None = none in cc)
    at Greater is none rest = ap (λ b. cond b (insert_entry cmp es key value) (e ∷ remove_entry (is_at (cmp key)) (insert_entry cmp es key value))) (ap is_eq is) ∙ ap (λ fs. e ∷ fs) (rest none)

module _ {K : Type 0} {cmp : K → K → Ordering} (o : IsTotalOrder cmp) where
  -- an entry that comes is found
  pub lookup_inserted : {Y : Type 0} (key : K) (value : Y) (es : List (K × Y)) → lookup (is_at (cmp key)) (insert_entry cmp es key value) ≡ Some value
  lookup_inserted key value [] = ap (λ b. cond b (Some value) None) (ap is_eq (tied_itself o key))
  lookup_inserted key value (e ∷ es) = by (cmp key e.0) refl (lookup_inserted key value es)
    where
      by : (r : Ordering) → cmp key e.0 ≡ r → lookup (is_at (cmp key)) (insert_entry cmp es key value) ≡ Some value
          → lookup (is_at (cmp key)) (match_ordering r ((key, value) ∷ e ∷ es) ((e.0, value) ∷ es) (e ∷ insert_entry cmp es key value)) ≡ Some value
      by Less is rest = ap (λ b. cond b (Some value) (lookup (is_at (cmp key)) (e ∷ es))) (ap is_eq (tied_itself o key))
      by Equal is rest = ap (λ b. cond b (Some value) (lookup (is_at (cmp key)) es)) (ap is_eq is)
      by Greater is rest = ap (λ b. cond b (Some e.1) (lookup (is_at (cmp key)) (insert_entry cmp es key value))) (ap is_eq is) ∙ rest

  -- and another one is found as before
  pub lookup_apart : {Y : Type 0} (key other : K) (value : Y) (es : List (K × Y)) → is_at (cmp other) key ≡ false
      → lookup (is_at (cmp other)) (insert_entry cmp es key value) ≡ lookup (is_at (cmp other)) es
  lookup_apart key other value [] apart = ap (λ b. cond b (Some value) None) apart
  lookup_apart key other value (e ∷ es) apart = by (cmp key e.0) refl (lookup_apart key other value es apart)
    where
      by : (r : Ordering) → cmp key e.0 ≡ r → lookup (is_at (cmp other)) (insert_entry cmp es key value) ≡ lookup (is_at (cmp other)) es
          → lookup (is_at (cmp other)) (match_ordering r ((key, value) ∷ e ∷ es) ((e.0, value) ∷ es) (e ∷ insert_entry cmp es key value)) ≡ lookup (is_at (cmp other)) (e ∷ es)
      by Less is rest = ap (λ b. cond b (Some value) (lookup (is_at (cmp other)) (e ∷ es))) apart
      by Equal is rest =
          let away : is_at (cmp other) e.0 ≡ false = ap is_eq (sym (alike_right o key e.0 other is)) ∙ apart in
          ap (λ b. cond b (Some value) (lookup (is_at (cmp other)) es)) away ∙ sym (ap (λ b. cond b (Some e.1) (lookup (is_at (cmp other)) es)) away)
      by Greater is rest = ap (λ found. cond (is_at (cmp other) e.0) (Some e.1) found) rest

  -- so is one beside a value that is set
  lookup_beside : {Y : Type 0} (key other : K) (value : Y) (es : List (K × Y)) → is_at (cmp other) key ≡ false
      → lookup (is_at (cmp other)) (set_value (is_at (cmp key)) es value) ≡ lookup (is_at (cmp other)) es
  lookup_beside key other value [] apart = refl
  lookup_beside key other value (e ∷ es) apart = by (cmp key e.0) refl (lookup_beside key other value es apart)
    where
      by : (r : Ordering) → cmp key e.0 ≡ r → lookup (is_at (cmp other)) (set_value (is_at (cmp key)) es value) ≡ lookup (is_at (cmp other)) es
          → lookup (is_at (cmp other)) (cond (is_eq r) ((e.0, value) ∷ es) (e ∷ set_value (is_at (cmp key)) es value)) ≡ lookup (is_at (cmp other)) (e ∷ es)
      by Less is rest = ap (λ found. cond (is_at (cmp other) e.0) (Some e.1) found) rest
      by Equal is rest =
          let away : is_at (cmp other) e.0 ≡ false = ap is_eq (sym (alike_right o key e.0 other is)) ∙ apart in
          ap (λ b. cond b (Some value) (lookup (is_at (cmp other)) es)) away ∙ sym (ap (λ b. cond b (Some e.1) (lookup (is_at (cmp other)) es)) away)
      by Greater is rest = ap (λ found. cond (is_at (cmp other) e.0) (Some e.1) found) rest

module _ {K X : Type 0} {cmp : K → K → Ordering} (o : IsTotalOrder cmp) where
  -- the key at a place, between entries on both sides
  record IsCut (at : K) (place : ℕ) (es : List (K × X)) : Type 0 where
    inside : 0 < place
    within : place < length es
    key : HoldsAt (λ e. e.0 ≡ at) es place
    rising : AreRising cmp es

  first_of : (at : K) (e : K × X) (es : List (K × X)) (place : ℕ) → place < length (e ∷ es) → HoldsAt (λ f. f.0 ≡ at) (e ∷ es) place → AreRising cmp (e ∷ es) → AreFrom cmp at (drop place (e ∷ es))
  first_of at e es zero within key rising =
      let is : e.0 ≡ at = key e in
      (ap is_gt (subst (λ k. cmp k e.0 ≡ Equal) is (tied_itself o e.0)), from es rising.0)
    where
      from : (fs : List (K × X)) → AllByRecursion (λ f. cmp e.0 f.0 ≡ Less) fs → AreFrom cmp at fs
      from [] all = tt
      from (f ∷ fs) all = (ap is_gt (subst (λ k. cmp k f.0 ≡ Less) (key e) all.0), from fs all.1)
  first_of at e [] (suc place) within key rising = absurd (omega (arith, within))
  first_of at e (f ∷ es) (suc place) within key rising = first_of at f es place (omega (arith, within)) (λ d. key d) rising.1

  -- the entries from there on
  from_cut : (at : K) (place : ℕ) (es : List (K × X)) → IsCut at place es → AreFrom cmp at (drop place es)
  from_cut at place [] cut = absurd (omega (arith, cut.within))
  from_cut at place (e ∷ es) cut = first_of at e es place cut.within cut.key cut.rising

  -- those before it
  before_cut_at : (at : K) (place : ℕ) (es : List (K × X)) → place < length es → HoldsAt (λ e. e.0 ≡ at) es place → AreRising cmp es → AreBefore cmp at (take place es)
  before_cut_at at zero es within key rising = tt
  before_cut_at at (suc place) [] within key rising = tt
  before_cut_at at (suc place) (e ∷ es) within key rising = (
    subst (λ k. cmp e.0 k ≡ Less) (key e) (all_at (λ f. cmp e.0 f.0 ≡ Less) es place e rising.0 (omega (arith, within))),
    before_cut_at at place es (omega (arith, within)) (λ d. key d) rising.1,
  )

  -- what all keys come behind, the key there does
  behind_cut : (bound at : K) (place : ℕ) (es : List (K × X)) → IsCut at place es → AreFrom cmp bound es → cmp bound at ≡ Less
  behind_cut bound at zero es cut from = absurd (omega (arith, cut.inside))
  behind_cut bound at (suc place) [] cut from = absurd (omega (arith, cut.within))
  behind_cut bound at (suc place) (e ∷ es) cut from =
      let less : cmp e.0 at ≡ Less = subst (λ k. cmp e.0 k ≡ Less) (cut.key e) (all_at (λ f. cmp e.0 f.0 ≡ Less) es place e cut.rising.0 (omega (arith, cut.within))) in
      upto_less bound e.0 at (cmp bound e.0) refl from.0 less
    where
      upto_less : (a b c : K) (r : Ordering) → cmp a b ≡ r → is_gt r ≡ false → cmp b c ≡ Less → cmp a c ≡ Less
      upto_less a b c Less is upto less = o.trans a b c is less
      upto_less a b c Equal is upto less = o.congr a b c is ∙ less
      upto_less a b c Greater is upto less = absurd (false≢true (sym upto))

  -- and what they come before
  cut_before : (P : K → Type 0) (at : K) (place : ℕ) (es : List (K × X)) → IsCut at place es → AllByRecursion (λ e. P e.0) es → P at
  cut_before P at place [] cut all = absurd (omega (arith, cut.within))
  cut_before P at place (e ∷ es) cut all = subst P (cut.key e) (all_at (λ f. P f.0) (e ∷ es) place e all cut.within)

  -- the blocks' bounds behind the entries come behind the key there
  bounded_cut : (at : K) (place : ℕ) (es : List (K × X)) (blocks : List (K × List (K × X))) → IsCut at place es → AreParted cmp es blocks → AreBounded cmp at blocks
  bounded_cut at place es [] cut parted = tt
  bounded_cut at place es (block ∷ blocks) cut parted =
      let less = cut_before (λ k. cmp k block.0 ≡ Less) at place es cut parted.0 in
      (less, beyond blocks less parted.2)
    where
      beyond : (others : List (K × List (K × X))) → cmp at block.0 ≡ Less → AreBounded cmp block.0 others → AreBounded cmp at others
      beyond [] less bounded = tt
      beyond (other ∷ others) less bounded = (o.trans at block.0 other.0 less bounded.0, beyond others less bounded.1)

  -- the blocks behind come behind its later part alike
  parted_tail : (place : ℕ) (es : List (K × X)) (blocks : List (K × List (K × X))) → AreParted cmp es blocks → AreParted cmp (drop place es) blocks
  parted_tail place es [] parted = tt
  parted_tail place es (block ∷ blocks) parted = (all_dropped (λ e. cmp e.0 block.0 ≡ Less) place es parted.0, parted.1, parted.2, parted.3)

  -- an empty block comes behind the key there
  front : (at : K) (place : ℕ) (es : List (K × X)) (blocks : List (K × List (K × X))) → IsCut at place es → AreParted cmp es blocks → insert_entry cmp blocks at [] ≡ (at, []) ∷ blocks
  front at place es blocks cut parted = insert_front o at [] blocks (bounded_cut at place es blocks cut parted)

  filled : (at : K) (high : List (K × X)) (blocks : List (K × List (K × X))) → set_value (is_at (cmp at)) ((at, []) ∷ blocks) high ≡ (at, high) ∷ blocks
  filled at high blocks = ap (λ b. cond b ((at, high) ∷ blocks) ((at, []) ∷ set_value (is_at (cmp at)) blocks high)) (ap is_eq (tied_itself o at))

  parted_front : (at : K) (place : ℕ) (es : List (K × X)) (blocks : List (K × List (K × X))) → IsCut at place es → AreParted cmp es blocks
      → AreParted cmp (take place es) ((at, drop place es) ∷ blocks)
  parted_front at place es blocks cut parted =
      (before_cut_at at place es cut.within cut.key cut.rising, from_cut at place es cut, bounded_cut at place es blocks cut parted, parted_tail place es blocks parted)

  same_front : (place : ℕ) (es : List (K × X)) (at : K) (blocks : List (K × List (K × X))) → take place es ++ entries_of ((at, drop place es) ∷ blocks) ≡ es ++ entries_of blocks
  same_front place es at blocks = sym (append_assoc (take place es) (drop place es) (entries_of blocks)) ∙ ap (λ fs. fs ++ entries_of blocks) (take_drop place es)

  -- all keys of a block behind blocks that come behind a bound come behind it
  behind_all : (before bound : K) (first es : List (K × X)) (blocks : List (K × List (K × X))) → AreParted cmp first blocks → AreBounded cmp before blocks → lookup (is_at (cmp bound)) blocks ≡ Some es
      → AllByRecursion (λ e. cmp before e.0 ≡ Less) es
  behind_all before bound first es [] parted bounded found = absurd (let no : None ≡ Some es = found in cc)
  behind_all before bound first es (block ∷ blocks) parted bounded found =
      at (is_at (cmp bound) block.0) found (behind_all before bound block.1 es blocks parted.3 bounded.1)
    where
      from : (fs : List (K × X)) → AreFrom cmp block.0 fs → AllByRecursion (λ e. cmp before e.0 ≡ Less) fs
      from [] all = tt
      from (f ∷ fs) all = (less_upto o before block.0 f.0 bounded.0 all.0, from fs all.1)

      at : (b : Bool) → cond b (Some block.1) (lookup (is_at (cmp bound)) blocks) ≡ Some es
          → (lookup (is_at (cmp bound)) blocks ≡ Some es → AllByRecursion (λ e. cmp before e.0 ≡ Less) es) → AllByRecursion (λ e. cmp before e.0 ≡ Less) es
      at true is rest = subst (λ fs. AllByRecursion (λ e. cmp before e.0 ≡ Less) fs) (let eq : block.1 ≡ es = (let q : Some block.1 ≡ Some es = is in cc) in eq) (from block.1 parted.1)
      at false is rest = rest is

  -- the blocks once one was split
  abbrev split_blocks : K → K → ℕ → List (K × X) → List (K × List (K × X)) → List (K × List (K × X))
  split_blocks bound at place es blocks = set_value (is_at (cmp at)) (set_value (is_at (cmp bound)) (insert_entry cmp blocks at []) (take place es)) (drop place es)

  record IsSplit (bound at : K) (place : ℕ) (es first : List (K × X)) (blocks : List (K × List (K × X))) : Type 1 where
    same : entries_of (split_blocks bound at place es blocks) ≡ entries_of blocks
    parted : AreParted cmp first (split_blocks bound at place es blocks)
    bounds : (P : K → Type 0) → P at → AllByRecursion (λ block. P block.0) blocks → AllByRecursion (λ block. P block.0) (split_blocks bound at place es blocks)
    absent : lookup (is_at (cmp at)) blocks ≡ None

  -- the first of blocks is split
  split_here : (bound at : K) (place : ℕ) (first : List (K × X)) (block : K × List (K × X)) (blocks : List (K × List (K × X))) → AreParted cmp first (block ∷ blocks)
      → is_at (cmp bound) block.0 ≡ true → IsCut at place block.1 → IsSplit bound at place block.1 first (block ∷ blocks)
  split_here bound at place first block blocks parted here cut =
      let es = block.1 in
      let less = behind_cut block.0 at place es cut parted.1 in
      let comes : insert_entry cmp (block ∷ blocks) at [] ≡ block ∷ (at, []) ∷ blocks =
      ap (λ r. match_ordering r ((at, []) ∷ block ∷ blocks) ((block.0, []) ∷ blocks) (block ∷ insert_entry cmp blocks at [])) (less_back o block.0 at less)
      ∙ ap (λ bs. block ∷ bs) (front at place es blocks cut parted.3)
      in
      let lowered : set_value (is_at (cmp bound)) (block ∷ (at, []) ∷ blocks) (take place es) ≡ (block.0, take place es) ∷ (at, []) ∷ blocks =
      ap (λ b. cond b ((block.0, take place es) ∷ (at, []) ∷ blocks) (block ∷ set_value (is_at (cmp bound)) ((at, []) ∷ blocks) (take place es))) here
      in
      let apart = not_at_before o at block.0 less in
      let risen : set_value (is_at (cmp at)) ((block.0, take place es) ∷ (at, []) ∷ blocks) (drop place es) ≡ (block.0, take place es) ∷ (at, drop place es) ∷ blocks =
      ap (λ b. cond b ((block.0, drop place es) ∷ (at, []) ∷ blocks) ((block.0, take place es) ∷ set_value (is_at (cmp at)) ((at, []) ∷ blocks) (drop place es))) apart
      ∙ ap (λ bs. (block.0, take place es) ∷ bs) (filled at (drop place es) blocks)
      in
      let is : split_blocks bound at place es (block ∷ blocks) ≡ (block.0, take place es) ∷ (at, drop place es) ∷ blocks =
      ap (λ bs. set_value (is_at (cmp at)) (set_value (is_at (cmp bound)) bs (take place es)) (drop place es)) comes
      ∙ (ap (λ bs. set_value (is_at (cmp at)) bs (drop place es)) lowered ∙ risen)
      in
      record {
        same = ap entries_of is ∙ same_front place es at blocks;
        parted = subst (AreParted cmp first) (sym is)
            (parted.0, all_taken (λ e. is_gt (cmp block.0 e.0) ≡ false) place es parted.1, (less, parted.2), parted_front at place es blocks cut parted.3);
        bounds = λ P its all. subst (λ bs. AllByRecursion (λ b. P b.0) bs) (sym is) (all.0, (its, all.1));
        absent = ap (λ b. cond b (Some block.1) (lookup (is_at (cmp at)) blocks)) apart ∙ none_behind o at blocks (bounded_cut at place es blocks cut parted.3);
      }

  -- or one behind it
  split_there : (bound at : K) (place : ℕ) (es first : List (K × X)) (block : K × List (K × X)) (blocks : List (K × List (K × X))) → AreParted cmp first (block ∷ blocks)
      → is_at (cmp bound) block.0 ≡ false → cmp block.0 at ≡ Less → IsSplit bound at place es block.1 blocks → IsSplit bound at place es first (block ∷ blocks)
  split_there bound at place es first block blocks parted there less rest =
      let apart = not_at_before o at block.0 less in
      let comes : insert_entry cmp (block ∷ blocks) at [] ≡ block ∷ insert_entry cmp blocks at [] =
      ap (λ r. match_ordering r ((at, []) ∷ block ∷ blocks) ((block.0, []) ∷ blocks) (block ∷ insert_entry cmp blocks at [])) (less_back o block.0 at less)
      in
      let is : split_blocks bound at place es (block ∷ blocks) ≡ block ∷ split_blocks bound at place es blocks =
      ap (λ bs. set_value (is_at (cmp at)) (set_value (is_at (cmp bound)) bs (take place es)) (drop place es)) comes
      ∙ (ap (λ b. set_value (is_at (cmp at)) (cond b ((block.0, take place es) ∷ insert_entry cmp blocks at []) (block ∷ set_value (is_at (cmp bound)) (insert_entry cmp blocks at []) (take place es))) (drop place es)) there
      ∙ ap (λ b. cond b ((block.0, drop place es) ∷ set_value (is_at (cmp bound)) (insert_entry cmp blocks at []) (take place es)) (block ∷ split_blocks bound at place es blocks)) apart)
      in
      record {
        same = ap entries_of is ∙ ap (λ fs. block.1 ++ fs) rest.same;
        parted = subst (AreParted cmp first) (sym is) (parted.0, parted.1, rest.bounds (λ k. cmp block.0 k ≡ Less) less parted.2, rest.parted);
        bounds = λ P its all. subst (λ bs. AllByRecursion (λ b. P b.0) bs) (sym is) (all.0, rest.bounds P its all.1);
        absent = ap (λ b. cond b (Some block.1) (lookup (is_at (cmp at)) blocks)) apart ∙ rest.absent;
      }

  -- a block behind a bound is split
  split_behind : (bound at : K) (place : ℕ) (es first : List (K × X)) (blocks : List (K × List (K × X))) → AreParted cmp first blocks → lookup (is_at (cmp bound)) blocks ≡ Some es → IsCut at place es
      → IsSplit bound at place es first blocks
  split_behind bound at place es first [] parted found cut = absurd (let no : None ≡ Some es = found in cc)
  split_behind bound at place es first (block ∷ blocks) parted found cut =
      by (is_at (cmp bound) block.0) refl found (λ is. split_behind bound at place es block.1 blocks parted.3 is cut)
    where
      by : (b : Bool) → is_at (cmp bound) block.0 ≡ b → cond b (Some block.1) (lookup (is_at (cmp bound)) blocks) ≡ Some es
          → (lookup (is_at (cmp bound)) blocks ≡ Some es → IsSplit bound at place es block.1 blocks) → IsSplit bound at place es first (block ∷ blocks)
      by true is found rest =
          let eq : block.1 ≡ es = (let q : Some block.1 ≡ Some es = found in cc) in
          subst (λ fs. IsSplit bound at place fs first (block ∷ blocks)) eq (split_here bound at place first block blocks parted is (subst (λ fs. IsCut at place fs) (sym eq) cut))
      by false is found rest =
          split_there bound at place es first block blocks parted is
          (cut_before (λ k. cmp block.0 k ≡ Less) at place es cut (behind_all block.0 bound block.1 es blocks parted.3 parted.2 found))
          (rest found)

  -- the entries behind a bound come from it on
  found_from : (bound : K) (first es : List (K × X)) (blocks : List (K × List (K × X))) → AreParted cmp first blocks → lookup (is_at (cmp bound)) blocks ≡ Some es → AreFrom cmp bound es
  found_from bound first es [] parted found = absurd (let no : None ≡ Some es = found in cc)
  found_from bound first es (block ∷ blocks) parted found =
      by (cmp bound block.0) refl found (found_from bound block.1 es blocks parted.3)
    where
      from : (fs : List (K × X)) → cmp bound block.0 ≡ Equal → AreFrom cmp block.0 fs → AreFrom cmp bound fs
      from [] is all = tt
      from (f ∷ fs) is all = (ap is_gt (o.congr bound block.0 f.0 is) ∙ all.0, from fs is all.1)

      by : (r : Ordering) → cmp bound block.0 ≡ r → cond (is_eq r) (Some block.1) (lookup (is_at (cmp bound)) blocks) ≡ Some es
          → (lookup (is_at (cmp bound)) blocks ≡ Some es → AreFrom cmp bound es) → AreFrom cmp bound es
      by Less is found rest = rest found
      by Equal is found rest = subst (AreFrom cmp bound) (let eq : block.1 ≡ es = (let q : Some block.1 ≡ Some es = found in cc) in eq) (from block.1 is parted.1)
      by Greater is found rest = rest found

  -- a block that is split from a place on: the key there, and all blocks before and once an empty one came
  pub record Splits (bound : Option K) (at : K) (place : ℕ) (es : List (K × X)) (old mid : Blocks K X) : Type 0 where
    pub order : AreInOrder cmp old
    pub block : block_at cmp bound old ≡ Some es
    pub inside : HasPlace (block_at cmp bound old) place
    pub key : HoldsAt (λ e. e.0 ≡ at) es place
    pub rising : AreRising cmp es
    pub first : mid.first ≡ old.first
    pub others : mid.others.entries ≡ insert_entry cmp old.others.entries at []

  cut_of : (bound : Option K) (at : K) (place : ℕ) (es : List (K × X)) (old mid : Blocks K X) → Splits bound at place es old mid → IsCut at place es
  cut_of bound at place es old mid s = let inside : HasPlace (Some es) place = subst (λ block. HasPlace block place) s.block s.inside in record { inside = inside.0; within = inside.1; key = s.key; rising = s.rising }

  apart_of : (bound at : K) (place : ℕ) (es : List (K × X)) (old mid : Blocks K X) → Splits (Some bound) at place es old mid → cmp bound at ≡ Less
  apart_of bound at place es old mid s = behind_cut bound at place es (cut_of (Some bound) at place es old mid s) (found_from bound old.first es old.others.entries s.order.1 s.block)

  -- the block is there still
  pub still_there : (bound : Option K) (at : K) (place : ℕ) (es : List (K × X)) (old mid : Blocks K X) → Splits bound at place es old mid → block_at cmp bound mid ≡ Some es
  still_there None at place es old mid s = ap Some s.first ∙ s.block
  still_there (Some bound) at place es old mid s =
      ap (lookup (is_at (cmp bound))) s.others ∙ (lookup_apart o at bound [] old.others.entries (ap is_eq (apart_of bound at place es old mid s)) ∙ s.block)

  -- once it has its first part alone, the empty one is there
  pub empty_there : (bound : Option K) (at : K) (place : ℕ) (es low : List (K × X)) (old mid cut : Blocks K X) → Splits bound at place es old mid → SetsBlock cmp bound mid cut low
      → lookup (is_at (cmp at)) cut.others.entries ≡ Some []
  empty_there None at place es low old mid cut s sets = ap (lookup (is_at (cmp at))) (sets.1 ∙ s.others) ∙ lookup_inserted o at [] old.others.entries
  empty_there (Some bound) at place es low old mid cut s sets =
      ap (lookup (is_at (cmp at))) (sets.1 ∙ ap (λ bs. set_value (is_at (cmp bound)) bs low) s.others)
      ∙ (lookup_beside o bound at low (insert_entry cmp old.others.entries at []) (ap is_eq (less_back o bound at (apart_of bound at place es old mid s))) ∙ lookup_inserted o at [] old.others.entries)

  ended : (bound : Option K) (at : K) (place : ℕ) (es : List (K × X)) (old mid cut end : Blocks K X) → Splits bound at place es old mid → SetsBlock cmp bound mid cut (take place es)
      → end.first ≡ cut.first → end.others.entries ≡ set_value (is_at (cmp at)) cut.others.entries (drop place es)
      → (entries_in end ≡ entries_in old) × AreParted cmp end.first end.others.entries
  ended None at place es old mid cut end s sets first others =
      let c = cut_of None at place es old mid s in
      let is : old.first ≡ es = (let q : Some old.first ≡ Some es = s.block in cc) in
      let parted = subst (λ f. AreParted cmp f old.others.entries) is s.order.1 in
      let its : end.others.entries ≡ (at, drop place es) ∷ old.others.entries =
      others ∙ (ap (λ bs. set_value (is_at (cmp at)) bs (drop place es)) (sets.1 ∙ (s.others ∙ front at place es old.others.entries c parted)) ∙ filled at (drop place es) old.others.entries)
      in
      let begins : end.first ≡ take place es = first ∙ sets.0 in (
        ap (λ f. f ++ entries_of end.others.entries) begins ∙ (ap (λ bs. take place es ++ entries_of bs) its ∙ (same_front place es at old.others.entries ∙ ap (λ f. f ++ entries_of old.others.entries) (sym is))),
        subst (λ f. AreParted cmp f end.others.entries) (sym begins) (subst (λ bs. AreParted cmp (take place es) bs) (sym its) (parted_front at place es old.others.entries c parted)),
      )
  ended (Some bound) at place es old mid cut end s sets first others =
      let done = split_behind bound at place es old.first old.others.entries s.order.1 s.block (cut_of (Some bound) at place es old mid s) in
      let its : end.others.entries ≡ split_blocks bound at place es old.others.entries =
      others ∙ ap (λ bs. set_value (is_at (cmp at)) bs (drop place es)) (sets.1 ∙ ap (λ bs. set_value (is_at (cmp bound)) bs (take place es)) s.others)
      in
      let begins : end.first ≡ old.first = first ∙ (sets.0 ∙ s.first) in (
        ap (λ f. f ++ entries_of end.others.entries) begins ∙ (ap (λ bs. old.first ++ entries_of bs) its ∙ ap (λ fs. old.first ++ fs) done.same),
        subst (λ f. AreParted cmp f end.others.entries) (sym begins) (subst (λ bs. AreParted cmp old.first bs) (sym its) done.parted),
      )

  -- once the empty one has the others, all entries are there, in order
  pub split_in : (bound : Option K) (at : K) (place : ℕ) (es : List (K × X)) (old mid cut end : Blocks K X) → Splits bound at place es old mid → SetsBlock cmp bound mid cut (take place es)
      → end.first ≡ cut.first → end.others.entries ≡ set_value (is_at (cmp at)) cut.others.entries (drop place es)
      → KeepsEntries cmp old end
  split_in bound at place es old mid cut end s sets first others =
      let done = ended bound at place es old mid cut end s sets first others in
      (done.0, (subst (AreRising cmp) (sym done.0) s.order.0, done.1))

  -- no block stands behind the key there
  pub no_bound : (bound : Option K) (at : K) (place : ℕ) (es : List (K × X)) (old mid : Blocks K X) → Splits bound at place es old mid → lookup (is_at (cmp at)) old.others.entries ≡ None
  no_bound None at place es old mid s =
      let is : old.first ≡ es = (let q : Some old.first ≡ Some es = s.block in cc) in
      none_behind o at old.others.entries (bounded_cut at place es old.others.entries (cut_of None at place es old mid s) (subst (λ f. AreParted cmp f old.others.entries) is s.order.1))
  no_bound (Some bound) at place es old mid s = (split_behind bound at place es old.first old.others.entries s.order.1 s.block (cut_of (Some bound) at place es old mid s)).absent

  -- where the block is left as it was, and the empty one goes again, all blocks are as they were
  pub unsplit_in : (bound : Option K) (at : K) (place : ℕ) (es : List (K × X)) (old mid cut end : Blocks K X) → Splits bound at place es old mid → SetsBlock cmp bound mid cut es
      → end.first ≡ cut.first → end.others.entries ≡ remove_entry (is_at (cmp at)) cut.others.entries → SameBlocks old end
  unsplit_in bound at place es old mid cut end s sets first others =
      let same = same_blocks o mid cut bound es (still_there bound at place es old mid s) sets in (
        first ∙ (same.0 ∙ s.first),
        others ∙ (ap (remove_entry (is_at (cmp at))) (same.1 ∙ s.others) ∙ remove_inserted o at [] old.others.entries (no_bound bound at place es old mid s)),
      )

  -- a block that has no entry can go
  gone_parted : (first : List (K × X)) (block : K × List (K × X)) (blocks : List (K × List (K × X))) → AreParted cmp first (block ∷ blocks) → AreParted cmp first blocks
  gone_parted first block [] parted = tt
  gone_parted first block (next ∷ blocks) parted = (before first parted.0, parted.3.1, parted.3.2, parted.3.3)
    where
      before : (fs : List (K × X)) → AreBefore cmp block.0 fs → AreBefore cmp next.0 fs
      before [] all = tt
      before (f ∷ fs) all = (o.trans f.0 block.0 next.0 all.0 parted.2.0, before fs all.1)

  record IsGone (bound : K) (first : List (K × X)) (blocks : List (K × List (K × X))) : Type 1 where
    same : entries_of (remove_entry (is_at (cmp bound)) blocks) ≡ entries_of blocks
    parted : AreParted cmp first (remove_entry (is_at (cmp bound)) blocks)
    bounds : (P : K → Type 0) → AllByRecursion (λ block. P block.0) blocks → AllByRecursion (λ block. P block.0) (remove_entry (is_at (cmp bound)) blocks)

  gone : (bound : K) (first : List (K × X)) (blocks : List (K × List (K × X))) → AreParted cmp first blocks → lookup (is_at (cmp bound)) blocks ≡ Some [] → IsGone bound first blocks
  gone bound first [] parted found = absurd (let no : None ≡ Some [] = found in cc)
  gone bound first (block ∷ blocks) parted found = by (is_at (cmp bound) block.0) refl found (gone bound block.1 blocks parted.3)
    where
      by : (b : Bool) → is_at (cmp bound) block.0 ≡ b → cond b (Some block.1) (lookup (is_at (cmp bound)) blocks) ≡ Some []
          → (lookup (is_at (cmp bound)) blocks ≡ Some [] → IsGone bound block.1 blocks) → IsGone bound first (block ∷ blocks)
      by true is found more =
          let goes : remove_entry (is_at (cmp bound)) (block ∷ blocks) ≡ blocks = ap (λ b. cond b blocks (block ∷ remove_entry (is_at (cmp bound)) blocks)) is in
          let empty : block.1 ≡ [] = (let q : Some block.1 ≡ Some [] = found in cc) in
          record {
            same = ap entries_of goes ∙ ap (λ es. es ++ entries_of blocks) (sym empty);
            parted = subst (AreParted cmp first) (sym goes) (gone_parted first block blocks (parted.0, parted.1, parted.2, parted.3));
            bounds = λ P all. subst (λ bs. AllByRecursion (λ b. P b.0) bs) (sym goes) all.1;
          }
      by false is found more =
          let rest = more found in
          let stays : remove_entry (is_at (cmp bound)) (block ∷ blocks) ≡ block ∷ remove_entry (is_at (cmp bound)) blocks = ap (λ b. cond b blocks (block ∷ remove_entry (is_at (cmp bound)) blocks)) is in
          record {
            same = ap entries_of stays ∙ ap (λ es. block.1 ++ es) rest.same;
            parted = subst (AreParted cmp first) (sym stays) (parted.0, parted.1, rest.bounds (λ k. cmp block.0 k ≡ Less) parted.2, rest.parted);
            bounds = λ P all. subst (λ bs. AllByRecursion (λ b. P b.0) bs) (sym stays) (all.0, rest.bounds P all.1);
          }

  -- all entries stay, in order
  pub gone_in : (bound : K) (old end : Blocks K X) → AreInOrder cmp old → lookup (is_at (cmp bound)) old.others.entries ≡ Some [] → end.first ≡ old.first
      → end.others.entries ≡ remove_entry (is_at (cmp bound)) old.others.entries → KeepsEntries cmp old end
  gone_in bound old end order found first others =
      let done = gone bound old.first old.others.entries order.1 found in
      let same : entries_in end ≡ entries_in old = ap (λ f. f ++ entries_of end.others.entries) first ∙ (ap (λ bs. old.first ++ entries_of bs) others ∙ ap (λ es. old.first ++ es) done.same) in
      (same, (subst (AreRising cmp) (sym same) order.0, subst (λ f. AreParted cmp f end.others.entries) (sym first) (subst (λ bs. AreParted cmp old.first bs) (sym others) done.parted)))

  -- the block behind a bound, as it is found twice
  pub same_block : (bound : Option K) (at : K) (place : ℕ) (es again : List (K × X)) (old mid : Blocks K X) → Splits bound at place es old mid → block_at cmp bound mid ≡ Some again → again ≡ es
  same_block bound at place es again old mid s found = let eq : Some again ≡ Some es = sym found ∙ still_there bound at place es old mid s in cc

  -- the place is one of the block's
  pub place_within : (bound : Option K) (at : K) (place : ℕ) (es again : List (K × X)) (old mid : Blocks K X) → Splits bound at place es old mid → block_at cmp bound mid ≡ Some again → place ≤ length again
  place_within bound at place es again old mid s found =
      let cut = cut_of bound at place es old mid s in
      omega (arith, cut.within, ap length (same_block bound at place es again old mid s found))

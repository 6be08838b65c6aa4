-- Where the entries from a bound on begin.
use Rattle.std.proofs.Common.{append-nil, ◌≡◌, ℕ, zero, suc, Bool, true, false, cond, List, [], ◌∷◌, ◌++◌, Option, Some, None, drop, refl, sym, ap, ◌∙◌, subst}
use Rattle.std.proofs.lemmas.List.Elements.{filter-append}
use Rattle.std.specs.Map.{lookup}
use Rattle.std.specs.BTreeMap.{is_at}
use Rattle.std.specs.Prelude.{not, ◌&&◌, unwrap_or}
use Rattle.std.specs.List.{AllByRecursion, filter}
use Rattle.std.specs.BTreeMap.Range.{entries_between, range_contains}
use Rattle.std.specs.Cmp.{IsTotalOrder, tied_itself}
use Rattle.std.specs.Ordering.{is_eq, is_gt, is_le, is_lt, ordering_reverse}
use Rattle.std.specs.declared.cmp.Ordering.{Ordering}
use Rattle.std.specs.declared.cmp.Ordering.TheVariants.{Less, Equal, Greater}
use Rattle.std.specs.declared.ops.Bound.{Bound}
use Rattle.std.specs.declared.ops.Bound.TheVariants.{Excluded, Included, Unbounded}
use Rattle.block_map.specs.Blocks.{AreBefore, AreBounded, AreParted, AreRising, bound_for, bound_from, entries_of, IsFoundAt, IsMissingAt}
use Rattle.block_map.specs.Kept.{block_at, entries_in}
use Rattle.block_map.specs.Places.{behind_bound}
use Rattle.block_map.specs.declared.blocks.Blocks.{Blocks}
use Rattle.block_map.proofs.Kept.{is_there}
use Rattle.block_map.proofs.Parts.{behind_bound as all_behind_bound, greater_back, less_back, less_upto, not_at_before}
use Rattle.block_map.proofs.Placed.{later}

-- all that pass a test are left
pub filter_all : {T : Type 0} (test : T → Bool) (xs : List T) → AllByRecursion (λ x. test x ≡ true) xs → filter test xs ≡ xs
filter_all test [] all = refl
filter_all test (x ∷ xs) all = ap (λ b. cond b (x ∷ filter test xs) (filter test xs)) all.0 ∙ ap (λ ys. x ∷ ys) (filter_all test xs all.1)

-- and none where none passes
pub filter_none : {T : Type 0} (test : T → Bool) (xs : List T) → AllByRecursion (λ x. test x ≡ false) xs → filter test xs ≡ []
filter_none test [] all = refl
filter_none test (x ∷ xs) all = ap (λ b. cond b (x ∷ filter test xs) (filter test xs)) all.0 ∙ filter_none test xs all.1

-- no bound leaves all
pub all_from_start : {K X : Type 0} (cmp : K → K → Ordering) (es : List (K × X)) → entries_between cmp Unbounded Unbounded es ≡ es
all_from_start cmp [] = refl
all_from_start cmp (e ∷ es) = ap (λ fs. e ∷ fs) (all_from_start cmp es)

both_true : (b : Bool) → b ≡ true → (b && not false) ≡ true
both_true true is = refl
both_true false is = is

one_false : (b : Bool) → b ≡ false → (b && not false) ≡ false
one_false true is = is
one_false false is = refl

module _ {K : Type 0} {cmp : K → K → Ordering} (o : IsTotalOrder cmp) where
  -- a test by which a range begins at the key, or behind it
  pub record BeginsAt (key : K) (here : Bool) (test : K → Bool) : Type 0 where
    pub before : (k : K) → cmp k key ≡ Less → test k ≡ false
    pub it : (k : K) → cmp k key ≡ Equal → test k ≡ here
    pub behind : (k : K) → cmp k key ≡ Greater → test k ≡ true

  turned : (a b : K) (r : Ordering) → cmp a b ≡ r → cmp b a ≡ ordering_reverse r
  turned a b r is = o.antisymm b a ∙ ap ordering_reverse is

  pub included : (key : K) → BeginsAt key true (range_contains cmp (Included key) Unbounded)
  included key = record {
    before = λ k is. one_false (is_le (cmp key k)) (ap is_le (turned k key Less is));
    it = λ k is. both_true (is_le (cmp key k)) (ap is_le (turned k key Equal is));
    behind = λ k is. both_true (is_le (cmp key k)) (ap is_le (turned k key Greater is));
  }

  pub excluded : (key : K) → BeginsAt key false (range_contains cmp (Excluded key) Unbounded)
  excluded key = record {
    before = λ k is. one_false (is_lt (cmp key k)) (ap is_lt (turned k key Less is));
    it = λ k is. one_false (is_lt (cmp key k)) (ap is_lt (turned k key Equal is));
    behind = λ k is. both_true (is_lt (cmp key k)) (ap is_lt (turned k key Greater is));
  }

  -- no block comes behind itself
  not_itself : (bound : K) → range_contains cmp (Excluded bound) Unbounded bound ≡ false
  not_itself bound = one_false (is_lt (cmp bound bound)) (ap is_lt (tied_itself o bound))

module _ {K X : Type 0} {cmp : K → K → Ordering} (o : IsTotalOrder cmp) where
  behind_it : (key : K) (here : Bool) (test : K → Bool) → BeginsAt o key here test → (e : K × X) (es : List (K × X)) → cmp e.0 key ≡ Equal → AllByRecursion (λ f. cmp e.0 f.0 ≡ Less) es
      → filter (λ f. test f.0) es ≡ es
  behind_it key here test begins e es is all = filter_all (λ f. test f.0) es (pass es all)
    where
      pass : (fs : List (K × X)) → AllByRecursion (λ f. cmp e.0 f.0 ≡ Less) fs → AllByRecursion (λ f. test f.0 ≡ true) fs
      pass [] all = tt
      pass (f ∷ fs) all =
          (begins.behind f.0 (o.antisymm f.0 key ∙ ap ordering_reverse (sym (o.congr e.0 key f.0 is) ∙ all.0)), pass fs all.1)

  -- what begins at the key begins at its place
  pub from_found : (key : K) (test : K → Bool) → BeginsAt o key true test → (es : List (K × X)) (place : ℕ) → AreRising cmp es → IsFoundAt cmp key es place → drop place es ≡ filter (λ f. test f.0) es
  from_found key test begins [] place rising found = absurd found
  from_found key test begins (e ∷ es) zero rising found =
      sym (ap (λ b. cond b (e ∷ filter (λ f. test f.0) es) (filter (λ f. test f.0) es)) (begins.it e.0 found) ∙ ap (λ fs. e ∷ fs) (behind_it key true test begins e es found rising.0))
  from_found key test begins (e ∷ es) (suc place) rising found =
      from_found key test begins es place rising.1 found.1 ∙ sym (ap (λ b. cond b (e ∷ filter (λ f. test f.0) es) (filter (λ f. test f.0) es)) (begins.before e.0 found.0))

  -- what begins behind it, behind that
  pub past_found : (key : K) (test : K → Bool) → BeginsAt o key false test → (es : List (K × X)) (place : ℕ) → AreRising cmp es → IsFoundAt cmp key es place → drop (suc place) es ≡ filter (λ f. test f.0) es
  past_found key test begins [] place rising found = absurd found
  past_found key test begins (e ∷ es) zero rising found =
      sym (ap (λ b. cond b (e ∷ filter (λ f. test f.0) es) (filter (λ f. test f.0) es)) (begins.it e.0 found) ∙ behind_it key false test begins e es found rising.0)
  past_found key test begins (e ∷ es) (suc place) rising found =
      past_found key test begins es place rising.1 found.1 ∙ sym (ap (λ b. cond b (e ∷ filter (λ f. test f.0) es) (filter (λ f. test f.0) es)) (begins.before e.0 found.0))

  -- and where the key has no entry, both begin where one would stand
  pub from_missing : (key : K) (here : Bool) (test : K → Bool) → BeginsAt o key here test → (es : List (K × X)) (place : ℕ) → IsMissingAt cmp key es place → drop place es ≡ filter (λ f. test f.0) es
  from_missing key here test begins es zero missing = sym (filter_all (λ f. test f.0) es (pass es missing))
    where
      pass : (fs : List (K × X)) → AllByRecursion (λ f. cmp f.0 key ≡ Greater) fs → AllByRecursion (λ f. test f.0 ≡ true) fs
      pass [] all = tt
      pass (f ∷ fs) all = (begins.behind f.0 all.0, pass fs all.1)
  from_missing key here test begins [] (suc place) missing = absurd missing
  from_missing key here test begins (e ∷ es) (suc place) missing =
      from_missing key here test begins es place missing.1 ∙ sym (ap (λ b. cond b (e ∷ filter (λ f. test f.0) es) (filter (λ f. test f.0) es)) (begins.before e.0 missing.0))

  -- before a bound that the key comes before, or is, nothing is left of a range that begins there
  none_before : (key : K) (here : Bool) (test : K → Bool) → BeginsAt o key here test → (bound : K) (es : List (K × X)) → is_gt (cmp bound key) ≡ false → AreBefore cmp bound es
      → filter (λ f. test f.0) es ≡ []
  none_before key here test begins bound es upto before = filter_none (λ f. test f.0) es (fail es before)
    where
      fail : (fs : List (K × X)) → AreBefore cmp bound fs → AllByRecursion (λ f. test f.0 ≡ false) fs
      fail [] all = tt
      fail (f ∷ fs) all = (begins.before f.0 (less_upto o f.0 bound key all.0 upto), fail fs all.1)

  -- and all is left behind one that the key comes before
  all_behind : (key : K) (here : Bool) (test : K → Bool) → BeginsAt o key here test → (first : List (K × X)) (block : K × List (K × X)) (blocks : List (K × List (K × X))) → cmp key block.0 ≡ Less
      → AreParted cmp first (block ∷ blocks) → filter (λ f. test f.0) (entries_of (block ∷ blocks)) ≡ entries_of (block ∷ blocks)
  all_behind key here test begins first block blocks less parted = filter_all (λ f. test f.0) (entries_of (block ∷ blocks)) (pass (entries_of (block ∷ blocks)) (all_behind_bound o key block blocks first less parted))
    where
      pass : (fs : List (K × X)) → AllByRecursion (λ f. cmp key f.0 ≡ Less) fs → AllByRecursion (λ f. test f.0 ≡ true) fs
      pass [] all = tt
      pass (f ∷ fs) all = (begins.behind f.0 (less_back o key f.0 all.0), pass fs all.1)

  -- those behind a bound that comes before them are all
  all_bounded : (bound : K) (blocks : List (K × List (K × X))) → AreBounded cmp bound blocks → entries_between cmp (Excluded bound) Unbounded blocks ≡ blocks
  all_bounded bound blocks bounded = filter_all (λ b. range_contains cmp (Excluded bound) Unbounded b.0) blocks (pass blocks bounded)
    where
      pass : (bs : List (K × List (K × X))) → AreBounded cmp bound bs → AllByRecursion (λ b. range_contains cmp (Excluded bound) Unbounded b.0 ≡ true) bs
      pass [] all = tt
      pass (b ∷ bs) all = (both_true (is_lt (cmp bound b.0)) (ap is_lt all.0), pass bs all.1)

  -- what is left of the key's block, and all blocks behind it, are what is left of all
  pub record IsRest (key : K) (test : K → Bool) (first : List (K × X)) (blocks : List (K × List (K × X))) : Type 0 where
    pub none : bound_for cmp key blocks ≡ None → filter (λ f. test f.0) first ++ entries_of blocks ≡ filter (λ f. test f.0) (first ++ entries_of blocks)
    pub some : (bound : K) (es : List (K × X)) → bound_for cmp key blocks ≡ Some bound → lookup (is_at (cmp bound)) blocks ≡ Some es
        → filter (λ f. test f.0) es ++ entries_of (entries_between cmp (Excluded bound) Unbounded blocks) ≡ filter (λ f. test f.0) (first ++ entries_of blocks)

  skips : (key : K) (here : Bool) (test : K → Bool) → BeginsAt o key here test → (first : List (K × X)) (block : K × List (K × X)) (blocks : List (K × List (K × X))) → is_gt (cmp block.0 key) ≡ false
      → AreBefore cmp block.0 first → filter (λ f. test f.0) (first ++ entries_of (block ∷ blocks)) ≡ filter (λ f. test f.0) (block.1 ++ entries_of blocks)
  skips key here test begins first block blocks upto before =
      filter-append (λ f. test f.0) first (entries_of (block ∷ blocks))
      ∙ ap (λ es. es ++ filter (λ f. test f.0) (entries_of (block ∷ blocks))) (none_before key here test begins block.0 first upto before)

  -- the first of blocks is the key's
  rest_here : (key : K) (test : K → Bool) (block : K × List (K × X)) (blocks : List (K × List (K × X))) (bound : K) (es : List (K × X)) → AreBounded cmp block.0 blocks → block.0 ≡ bound
      → lookup (is_at (cmp bound)) (block ∷ blocks) ≡ Some es → filter (λ f. test f.0) block.1 ++ entries_of blocks ≡ filter (λ f. test f.0) (block.1 ++ entries_of blocks)
      → filter (λ f. test f.0) es ++ entries_of (entries_between cmp (Excluded bound) Unbounded (block ∷ blocks)) ≡ filter (λ f. test f.0) (block.1 ++ entries_of blocks)
  rest_here key test block blocks bound es bounded is there rest =
      let at : is_at (cmp bound) block.0 ≡ true = subst (λ k. is_at (cmp k) block.0 ≡ true) is (ap is_eq (tied_itself o block.0)) in
      let its : block.1 ≡ es = (let q : Some block.1 ≡ Some es = sym (ap (λ b. cond b (Some block.1) (lookup (is_at (cmp bound)) blocks)) at) ∙ there in cc) in
      let behind : entries_between cmp (Excluded bound) Unbounded (block ∷ blocks) ≡ blocks =
      ap (λ b. cond b (block ∷ entries_between cmp (Excluded bound) Unbounded blocks) (entries_between cmp (Excluded bound) Unbounded blocks))
      (subst (λ k. range_contains cmp (Excluded k) Unbounded block.0 ≡ false) is (not_itself o block.0))
      ∙ all_bounded bound blocks (subst (λ k. AreBounded cmp k blocks) is bounded)
      in
      ap (λ fs. filter (λ f. test f.0) fs ++ entries_of (entries_between cmp (Excluded bound) Unbounded (block ∷ blocks))) (sym its)
      ∙ (ap (λ bs. filter (λ f. test f.0) block.1 ++ entries_of bs) behind ∙ rest)

  -- or one behind it
  rest_there : (key : K) (test : K → Bool) (first : List (K × X)) (block : K × List (K × X)) (blocks : List (K × List (K × X))) (bound : K) (es : List (K × X)) → cmp block.0 bound ≡ Less
      → bound_for cmp key blocks ≡ Some bound → lookup (is_at (cmp bound)) (block ∷ blocks) ≡ Some es → IsRest key test first blocks
      → filter (λ f. test f.0) es ++ entries_of (entries_between cmp (Excluded bound) Unbounded (block ∷ blocks)) ≡ filter (λ f. test f.0) (first ++ entries_of blocks)
  rest_there key test first block blocks bound es less is there rest =
      let away : lookup (is_at (cmp bound)) blocks ≡ Some es = sym (ap (λ b. cond b (Some block.1) (lookup (is_at (cmp bound)) blocks)) (not_at_before o bound block.0 less)) ∙ there in
      let behind : entries_between cmp (Excluded bound) Unbounded (block ∷ blocks) ≡ entries_between cmp (Excluded bound) Unbounded blocks =
      ap (λ b. cond b (block ∷ entries_between cmp (Excluded bound) Unbounded blocks) (entries_between cmp (Excluded bound) Unbounded blocks))
      (one_false (is_lt (cmp bound block.0)) (ap is_lt (less_back o block.0 bound less)))
      in
      ap (λ bs. filter (λ f. test f.0) es ++ entries_of bs) behind ∙ rest.some bound es is away

  some_by : (key : K) (test : K → Bool) (first : List (K × X)) (block : K × List (K × X)) (blocks : List (K × List (K × X))) → AreParted cmp first (block ∷ blocks) → IsRest key test block.1 blocks
      → (rest : Option K) → bound_for cmp key blocks ≡ rest → (bound : K) (es : List (K × X)) → Some (unwrap_or rest block.0) ≡ Some bound → lookup (is_at (cmp bound)) (block ∷ blocks) ≡ Some es
      → filter (λ f. test f.0) es ++ entries_of (entries_between cmp (Excluded bound) Unbounded (block ∷ blocks)) ≡ filter (λ f. test f.0) (block.1 ++ entries_of blocks)
  some_by key test first block blocks parted rest None is bound es found there =
      rest_here key test block blocks bound es parted.2 (let eq : Some block.0 ≡ Some bound = found in cc) there (rest.none is)
  some_by key test first block blocks parted rest (Some other) is bound es found there =
      let its : bound_for cmp key blocks ≡ Some bound = is ∙ found in
      rest_there key test block.1 block blocks bound es (later o key block.0 bound blocks parted.2 its) its there rest

  rest_at : (key : K) (here : Bool) (test : K → Bool) → BeginsAt o key here test → (first : List (K × X)) (block : K × List (K × X)) (blocks : List (K × List (K × X))) → AreParted cmp first (block ∷ blocks)
      → (b : Bool) → is_gt (cmp block.0 key) ≡ b → IsRest key test block.1 blocks → IsRest key test first (block ∷ blocks)
  rest_at key here test begins first block blocks parted true is rest = record {
    none = λ _.
        ap (λ es. filter (λ f. test f.0) first ++ es) (sym (all_behind key here test begins first block blocks (greater_back o block.0 key is) parted))
        ∙ sym (filter-append (λ f. test f.0) first (entries_of (block ∷ blocks)));
    some = λ bound es found there. absurd (let no : None ≡ Some bound = sym (ap (λ b. cond b None (Some (unwrap_or (bound_for cmp key blocks) block.0))) is) ∙ found in cc);
  }
  rest_at key here test begins first block blocks parted false is rest = record {
    none = λ found. absurd (let no : Some (unwrap_or (bound_for cmp key blocks) block.0) ≡ None = sym (ap (λ b. cond b None (Some (unwrap_or (bound_for cmp key blocks) block.0))) is) ∙ found in cc);
    some = λ bound es found there.
        some_by key test first block blocks parted rest (bound_for cmp key blocks) refl bound es (sym (ap (λ b. cond b None (Some (unwrap_or (bound_for cmp key blocks) block.0))) is) ∙ found) there
        ∙ sym (skips key here test begins first block blocks is parted.0);
  }

  pub rest_of : (key : K) (here : Bool) (test : K → Bool) → BeginsAt o key here test → (first : List (K × X)) (blocks : List (K × List (K × X))) → AreParted cmp first blocks → IsRest key test first blocks
  rest_of key here test begins first [] parted = record {
    none = λ is. append-nil (filter (λ f. test f.0) first) ∙ ap (filter (λ f. test f.0)) (sym (append-nil first));
    some = λ bound es is there. absurd (let no : None ≡ Some bound = is in cc);
  }
  rest_of key here test begins first (block ∷ blocks) parted =
      rest_at key here test begins first block blocks parted (is_gt (cmp block.0 key)) refl (rest_of key here test begins block.1 blocks parted.3)

  -- there is a block where a range begins
  pub starts : (from : Bound K) (blocks : Blocks K X) (bound : Option K) → AreParted cmp blocks.first blocks.others.entries → bound ≡ bound_from cmp from blocks.others.entries → ¬ (block_at cmp bound blocks ≡ None)
  starts Unbounded blocks None parted is none = let no : Some blocks.first ≡ None = none in cc
  starts Unbounded blocks (Some bound) parted is none = let no : Some bound ≡ None = is in cc
  starts (Included key) blocks bound parted is none = is_there o key blocks bound parted is none
  starts (Excluded key) blocks bound parted is none = is_there o key blocks bound parted is none

  rest_in_at : (key : K) (here : Bool) (test : K → Bool) → BeginsAt o key here test → (blocks : Blocks K X) (bound : Option K) (es : List (K × X)) → AreParted cmp blocks.first blocks.others.entries
      → bound ≡ bound_for cmp key blocks.others.entries → block_at cmp bound blocks ≡ Some es
      → filter (λ f. test f.0) es ++ entries_of (entries_between cmp (behind_bound bound) Unbounded blocks.others.entries) ≡ filter (λ f. test f.0) (entries_in blocks)
  rest_in_at key here test begins blocks None es parted is at =
      let its : es ≡ blocks.first = (let q : Some blocks.first ≡ Some es = at in cc) in
      ap (λ fs. filter (λ f. test f.0) fs ++ entries_of (entries_between cmp Unbounded Unbounded blocks.others.entries)) its
      ∙ (ap (λ bs. filter (λ f. test f.0) blocks.first ++ entries_of bs) (all_from_start cmp blocks.others.entries)
      ∙ (rest_of key here test begins blocks.first blocks.others.entries parted).none (sym is))
  rest_in_at key here test begins blocks (Some bound) es parted is at = (rest_of key here test begins blocks.first blocks.others.entries parted).some bound es (sym is) at

  -- what is left of the block where a range begins, and all blocks behind it, are what is left of all
  pub rest_in : (from : Bound K) (blocks : Blocks K X) (bound : Option K) (es : List (K × X)) → AreParted cmp blocks.first blocks.others.entries
      → bound ≡ bound_from cmp from blocks.others.entries → block_at cmp bound blocks ≡ Some es
      → entries_between cmp from Unbounded es ++ entries_of (entries_between cmp (behind_bound bound) Unbounded blocks.others.entries) ≡ entries_between cmp from Unbounded (entries_in blocks)
  rest_in Unbounded blocks None es parted is at =
      let its : es ≡ blocks.first = (let q : Some blocks.first ≡ Some es = at in cc) in
      ap (λ fs. fs ++ entries_of (entries_between cmp Unbounded Unbounded blocks.others.entries)) (all_from_start cmp es ∙ its)
      ∙ (ap (λ bs. blocks.first ++ entries_of bs) (all_from_start cmp blocks.others.entries) ∙ sym (all_from_start cmp (entries_in blocks)))
  rest_in Unbounded blocks (Some bound) es parted is at = absurd (let no : Some bound ≡ None = is in cc)
  rest_in (Included key) blocks bound es parted is at = rest_in_at key true (range_contains cmp (Included key) Unbounded) (included o key) blocks bound es parted is at
  rest_in (Excluded key) blocks bound es parted is at = rest_in_at key false (range_contains cmp (Excluded key) Unbounded) (excluded o key) blocks bound es parted is at

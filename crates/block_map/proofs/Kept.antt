-- What is done in the block of a key is done in all entries.
use Rattle.std.proofs.Common.{◌≡◌, Bool, true, false, cond, List, [], ◌∷◌, ◌++◌, Option, Some, None, refl, sym, ap, ◌∙◌, subst}
use Rattle.std.proofs.Common.{Bor, MutBor}
use Rattle.std.specs.Prelude.{IfOk, is_some, IsOk, IsSome, not, OnErr, OnOk, OnSome, unwrap_or}
use Rattle.std.specs.Option.{option_copied, option_copied_mut}
use Rattle.std.specs.declared.result.Result.{Result}
use Rattle.std.specs.declared.result.Result.TheVariants.{Ok, Err}
use Rattle.std.specs.List.{AllByRecursion}
use Rattle.std.specs.Map.{lookup, remove_entry, set_value}
use Rattle.std.specs.BTreeMap.{insert_entry, is_at}
use Rattle.std.specs.Cmp.{IsTotalOrder}
use Rattle.std.specs.Ordering.{is_gt}
use Rattle.std.specs.declared.cmp.Ordering.{Ordering}
use Rattle.block_map.specs.Blocks.{AreParted, AreRising, block_for, bound_for, entries_of, with_block, with_new}
use Rattle.block_map.specs.Kept.{AreInOrder, block_at, entries_in, SetsBlock, SetsValue, SameBlocks}
use Rattle.block_map.specs.declared.blocks.Blocks.{Blocks}
use Rattle.block_map.proofs.Edits.{insert_edit, remove_edit, set_edit}
use Rattle.block_map.proofs.Parts.{edited, IsEditAt, looked_up}
use Rattle.block_map.proofs.Placed.{is_behind, is_first, IsLike}
use Rattle.block_map.proofs.Rising.{insert_rises, keys_inserted, keys_removed, keys_set, remove_rises, set_rises}

-- the fact holds where there is one
pub told : {A : Type 0} {P : Type 0} (lent : Option A) (x : A) → lent ≡ Some x → OnSome lent P → P
told None x is fact = absurd (let no : None ≡ Some x = is in cc)
told (Some y) x is fact = fact

pub on_some : {A : Type 0} {P : Type 0} (lent : Option A) → P → OnSome lent P
on_some None fact = tt
on_some (Some x) fact = fact

-- what follows from it holds there
pub lent_so : {A : Type 0} {P Q : Type 0} (lent : Option A) → (P → Q) → OnSome lent P → OnSome lent Q
lent_so None follows fact = tt
lent_so (Some x) follows fact = follows fact

-- what is lent is the one that is there
pub lent_is : {A : Type 0} (lent : Option (MutBor A)) (x : MutBor A) (shown : A) → option_copied_mut lent ≡ Some shown → lent ≡ Some x → x.now ≡ shown
lent_is lent x shown is was = let eq : Some x.now ≡ Some shown = sym (ap option_copied_mut was) ∙ is in cc

pub on_ok : {A E : Type 0} {P Q : Type 0} (result : Result A E) → (P → Q) → OnOk result P → OnOk result Q
on_ok (Ok x) follows fact = follows fact
on_ok (Err e) follows fact = tt

on_err : {A E : Type 0} {P Q : Type 0} (result : Result A E) → (P → Q) → OnErr result P → OnErr result Q
on_err (Ok x) follows fact = tt
on_err (Err e) follows fact = follows fact

-- what holds anyway holds there
pub on_any_err : {A E : Type 0} {P : Type 0} (result : Result A E) → P → OnErr result P
on_any_err (Ok x) fact = tt
on_any_err (Err e) fact = fact

-- what holds either way holds
either_way : {A E : Type 0} {P : Type 0} (result : Result A E) → OnOk result P → OnErr result P → P
either_way (Ok x) ok err = ok
either_way (Err e) ok err = err

-- there is one where one is shown
pub is_lent : {A : Type 0} (lent : Option (Bor A)) (shown : Option A) → option_copied lent ≡ shown → ¬ (shown ≡ None) → IsSome lent
is_lent None shown is some = absurd (some (sym is))
is_lent (Some x) shown is some = refl

pub is_lent_mut : {A : Type 0} (lent : Option (MutBor A)) (shown : Option A) → option_copied_mut lent ≡ shown → ¬ (shown ≡ None) → IsSome lent
is_lent_mut None shown is some = absurd (some (sym is))
is_lent_mut (Some x) shown is some = refl

-- so there is one where one is said to be
pub lent_there : {A : Type 0} (lent : Option (MutBor A)) (shown : A) → option_copied_mut lent ≡ Some shown → IsSome lent
lent_there lent shown is = is_lent_mut lent (Some shown) is (λ none. let no : Some shown ≡ None = none in cc)

-- an entry that is given its own value stays
pub set_same : {K Y : Type 0} (test : K → Bool) (es : List (K × Y)) (value : Y) → lookup test es ≡ Some value → set_value test es value ≡ es
set_same test [] value found = refl
set_same test (e ∷ es) value found = at (test e.0) found (set_same test es value)
  where
    at : (b : Bool) → cond b (Some e.1) (lookup test es) ≡ Some value → (lookup test es ≡ Some value → set_value test es value ≡ es) → cond b ((e.0, value) ∷ es) (e ∷ set_value test es value) ≡ e ∷ es
    at true is rest = let eq : e.1 ≡ value = (let q : Some e.1 ≡ Some value = is in cc) in ap (λ v. (e.0, v) ∷ es) (sym eq)
    at false is rest = ap (λ fs. e ∷ fs) (rest is)

-- where none is found, none is given another value
pub set_none : {K Y : Type 0} (test : K → Bool) (es : List (K × Y)) (value : Y) → lookup test es ≡ None → set_value test es value ≡ es
set_none test [] value none = refl
set_none test (e ∷ es) value none = at (test e.0) none (set_none test es value)
  where
    at : (b : Bool) → cond b (Some e.1) (lookup test es) ≡ None → (lookup test es ≡ None → set_value test es value ≡ es) → cond b ((e.0, value) ∷ es) (e ∷ set_value test es value) ≡ e ∷ es
    at true is rest = absurd (let no : Some e.1 ≡ None = is in cc)
    at false is rest = ap (λ fs. e ∷ fs) (rest is)

-- what an entry is given is found there
set_found : {K Y : Type 0} (test : K → Bool) (es : List (K × Y)) (value old : Y) → lookup test es ≡ Some old → lookup test (set_value test es value) ≡ Some value
set_found test [] value old found = absurd (let no : None ≡ Some old = found in cc)
set_found test (e ∷ es) value old found = at (test e.0) refl found (set_found test es value old)
  where
    at : (b : Bool) → test e.0 ≡ b → cond b (Some e.1) (lookup test es) ≡ Some old → (lookup test es ≡ Some old → lookup test (set_value test es value) ≡ Some value)
        → lookup test (cond b ((e.0, value) ∷ es) (e ∷ set_value test es value)) ≡ Some value
    at true is found rest = ap (λ b. cond b (Some value) (lookup test es)) is
    at false is found rest = ap (λ b. cond b (Some e.1) (lookup test (set_value test es value))) is ∙ rest found

module _ {K X : Type 0} {cmp : K → K → Ordering} (o : IsTotalOrder cmp) where
  -- the block behind the key's bound is the key's
  pub placed : (key : K) (blocks : Blocks K X) (bound : Option K) → AreParted cmp blocks.first blocks.others.entries → bound ≡ bound_for cmp key blocks.others.entries
      → block_at cmp bound blocks ≡ Some (block_for cmp key blocks.first blocks.others.entries)
  placed key blocks None parted is = ap Some (sym (is_first o key [] blocks.first blocks.others.entries parted (sym is)).block)
  placed key blocks (Some bound) parted is = (is_behind o key bound [] blocks.first blocks.others.entries parted (sym is)).block

  -- so there is one
  pub is_there : (key : K) (blocks : Blocks K X) (bound : Option K) → AreParted cmp blocks.first blocks.others.entries → bound ≡ bound_for cmp key blocks.others.entries → ¬ (block_at cmp bound blocks ≡ None)
  is_there key blocks bound parted is none = let no : None ≡ Some (block_for cmp key blocks.first blocks.others.entries) = sym none ∙ placed key blocks bound parted is in cc

  pub its_block : (key : K) (blocks : Blocks K X) (bound : Option K) (block : List (K × X)) → AreParted cmp blocks.first blocks.others.entries → bound ≡ bound_for cmp key blocks.others.entries
      → block_at cmp bound blocks ≡ Some block → block ≡ block_for cmp key blocks.first blocks.others.entries
  its_block key blocks bound block parted is at = let eq : Some block ≡ Some (block_for cmp key blocks.first blocks.others.entries) = sym at ∙ placed key blocks bound parted is in cc

  put_back : (key : K) (old new : Blocks K X) (bound : Option K) (es : List (K × X)) → AreParted cmp old.first old.others.entries → bound ≡ bound_for cmp key old.others.entries
      → IsLike key (block_for cmp key old.first old.others.entries) es → SetsBlock cmp bound old new es
      → (entries_in new ≡ with_block cmp key es old.first old.others.entries) × AreParted cmp new.first new.others.entries
  put_back key old new None es parted is like sets =
      let at = is_first o key es old.first old.others.entries parted (sym is) in (
        ap (λ first. first ++ entries_of new.others.entries) sets.0 ∙ (ap (λ blocks. es ++ entries_of blocks) sets.1 ∙ sym at.changed),
        subst (λ first. AreParted cmp first new.others.entries) (sym sets.0)
            (subst (λ blocks. AreParted cmp es blocks) (sym sets.1) (at.parted (λ P its all. like P its (subst (λ block. AllByRecursion (λ e. P e.0) block) (sym at.block) all)))),
      )
  put_back key old new (Some bound) es parted is like sets =
      let at = is_behind o key bound es old.first old.others.entries parted (sym is) in (
        ap (λ first. first ++ entries_of new.others.entries) sets.0 ∙ (ap (λ blocks. old.first ++ entries_of blocks) sets.1 ∙ sym at.changed),
        subst (λ first. AreParted cmp first new.others.entries) (sym sets.0) (subst (λ blocks. AreParted cmp old.first blocks) (sym sets.1) (at.parted like)),
      )

  -- an edit of the key's block is one of all entries
  edited_in : (key : K) (edit : List (K × X) → List (K × X)) → IsEditAt o key edit → (old new : Blocks K X) (bound : Option K) (block : List (K × X)) → AreParted cmp old.first old.others.entries
      → bound ≡ bound_for cmp key old.others.entries → block_at cmp bound old ≡ Some block → IsLike key block (edit block) → SetsBlock cmp bound old new (edit block)
      → (entries_in new ≡ edit (entries_in old)) × AreParted cmp new.first new.others.entries
  edited_in key edit is old new bound block parted for at like sets =
      let its = its_block key old bound block parted for at in
      let back = put_back key old new bound (edit block) parted for (λ P its' all. like P its' (subst (λ es. AllByRecursion (λ e. P e.0) es) (sym its) all)) sets in
      (back.0 ∙ (ap (λ es. with_block cmp key (edit es) old.first old.others.entries) its ∙ sym (edited o key edit is old.first old.others.entries parted)), back.1)

  -- a value that is set there
  pub set_in : (key : K) (value : X) (old new : Blocks K X) (bound : Option K) (block : List (K × X)) → AreInOrder cmp old → bound ≡ bound_for cmp key old.others.entries
      → block_at cmp bound old ≡ Some block → SetsBlock cmp bound old new (set_value (is_at (cmp key)) block value) → SetsValue cmp key old new value
  set_in key value old new bound block order for at sets =
      let done = edited_in key (λ es. set_value (is_at (cmp key)) es value) (set_edit o key value) old new bound block order.1 for at
      (λ P its all. keys_set P (is_at (cmp key)) block value all) sets in
      (done.0, (subst (AreRising cmp) (sym done.0) (set_rises cmp (is_at (cmp key)) (entries_in old) value order.0), done.1))

  -- an entry that comes
  insert_in : (key : K) (value : X) (old new : Blocks K X) (bound : Option K) (block : List (K × X)) → AreInOrder cmp old → bound ≡ bound_for cmp key old.others.entries
      → block_at cmp bound old ≡ Some block → SetsBlock cmp bound old new (insert_entry cmp block key value)
      → (entries_in new ≡ insert_entry cmp (entries_in old) key value) × AreInOrder cmp new
  insert_in key value old new bound block order for at sets =
      let done = edited_in key (λ es. insert_entry cmp es key value) (insert_edit o key value) old new bound block order.1 for at
      (λ P its all. keys_inserted P cmp block key value its all) sets in
      (done.0, (subst (AreRising cmp) (sym done.0) (insert_rises o (entries_in old) key value order.0), done.1))

  -- and one that goes
  remove_in : (key : K) (old new : Blocks K X) (bound : Option K) (block : List (K × X)) → AreInOrder cmp old → bound ≡ bound_for cmp key old.others.entries
      → block_at cmp bound old ≡ Some block → SetsBlock cmp bound old new (remove_entry (is_at (cmp key)) block)
      → (entries_in new ≡ remove_entry (is_at (cmp key)) (entries_in old)) × AreInOrder cmp new
  remove_in key old new bound block order for at sets =
      let done = edited_in key (λ es. remove_entry (is_at (cmp key)) es) (remove_edit o key) old new bound block order.1 for at
      (λ P its all. keys_removed P (is_at (cmp key)) block all) sets in
      (done.0, (subst (AreRising cmp) (sym done.0) (remove_rises cmp (is_at (cmp key)) (entries_in old) order.0), done.1))

  -- a block that is given its own entries stays
  pub same_blocks : (old new : Blocks K X) (bound : Option K) (block : List (K × X)) → block_at cmp bound old ≡ Some block → SetsBlock cmp bound old new block → SameBlocks old new
  same_blocks old new None block at sets = (sets.0 ∙ (let eq : Some old.first ≡ Some block = at in cc), sets.1)
  same_blocks old new (Some bound) block at sets = (sets.0, sets.1 ∙ set_same (is_at (cmp bound)) old.others.entries block at)

  -- and one that is given others has them
  has_block : (old new : Blocks K X) (bound : Option K) (block es : List (K × X)) → block_at cmp bound old ≡ Some block → SetsBlock cmp bound old new es → block_at cmp bound new ≡ Some es
  has_block old new None block es at sets = ap Some sets.0
  has_block old new (Some bound) block es at sets = ap (lookup (is_at (cmp bound))) sets.1 ∙ set_found (is_at (cmp bound)) old.others.entries es block at

  -- the same blocks have the same entries, in order
  pub same_entries : (old new : Blocks K X) → SameBlocks old new → entries_in new ≡ entries_in old
  same_entries old new same = ap (λ first. first ++ entries_of new.others.entries) same.0 ∙ ap (λ blocks. old.first ++ entries_of blocks) same.1

  pub same_order : (old new : Blocks K X) → SameBlocks old new → AreInOrder cmp old → AreInOrder cmp new
  same_order old new same order = (
    subst (AreRising cmp) (sym (same_entries old new same)) order.0,
    subst (λ first. AreParted cmp first new.others.entries) (sym same.0) (subst (λ blocks. AreParted cmp old.first blocks) (sym same.1) order.1),
  )

  -- the bounds stay where a block is given others
  bound_kept : (key bound : K) (blocks : List (K × List (K × X))) (es : List (K × X)) → bound_for cmp key (set_value (is_at (cmp bound)) blocks es) ≡ bound_for cmp key blocks
  bound_kept key bound [] es = refl
  bound_kept key bound (block ∷ blocks) es = at (is_at (cmp bound) block.0) (bound_kept key bound blocks es)
    where
      at : (b : Bool) → bound_for cmp key (set_value (is_at (cmp bound)) blocks es) ≡ bound_for cmp key blocks
          → bound_for cmp key (cond b ((block.0, es) ∷ blocks) (block ∷ set_value (is_at (cmp bound)) blocks es)) ≡ bound_for cmp key (block ∷ blocks)
      at true rest = refl
      at false rest = ap (λ last. cond (is_gt (cmp block.0 key)) None (Some (unwrap_or last block.0))) rest

  bound_stays : (key : K) (old new : Blocks K X) (bound : Option K) (es : List (K × X)) → SetsBlock cmp bound old new es → bound_for cmp key new.others.entries ≡ bound_for cmp key old.others.entries
  bound_stays key old new None es sets = ap (bound_for cmp key) sets.1
  bound_stays key old new (Some bound) es sets = ap (bound_for cmp key) sets.1 ∙ bound_kept key bound old.others.entries es

  -- the key's block is the one behind its bound
  pub at_its_bound : (key : K) (old : Blocks K X) (block : List (K × X)) → AreInOrder cmp old → block ≡ block_for cmp key old.first old.others.entries
      → block_at cmp (bound_for cmp key old.others.entries) old ≡ Some block
  at_its_bound key old block order its = placed key old (bound_for cmp key old.others.entries) order.1 refl ∙ ap Some (sym its)

  -- a look-up in it finds what one in all entries does
  pub looked_there : (key : K) (old : Blocks K X) (block : List (K × X)) → AreInOrder cmp old → block ≡ block_for cmp key old.first old.others.entries
      → lookup (is_at (cmp key)) block ≡ lookup (is_at (cmp key)) (entries_in old)
  looked_there key old block order its = ap (lookup (is_at (cmp key))) its ∙ sym (looked_up o key old.first old.others.entries order.1)

  -- where it is given its own entries, all blocks stay
  pub same_keyed : (key : K) (old new : Blocks K X) (block es : List (K × X)) → AreInOrder cmp old → block ≡ block_for cmp key old.first old.others.entries
      → SetsBlock cmp (bound_for cmp key old.others.entries) old new es → es ≡ block → SameBlocks old new
  same_keyed key old new block es order its sets is =
      let bound = bound_for cmp key old.others.entries in
      same_blocks old new bound block (at_its_bound key old block order its) (subst (SetsBlock cmp bound old new) is sets)

  -- and it is the key's still
  pub kept_keyed : (key : K) (old new : Blocks K X) (block : List (K × X)) → block ≡ block_for cmp key old.first old.others.entries → SameBlocks old new → block ≡ block_for cmp key new.first new.others.entries
  kept_keyed key old new block its same = its ∙ sym (ap (λ first. block_for cmp key first new.others.entries) same.0 ∙ ap (block_for cmp key old.first) same.1)

  -- it is so with others too
  pub still_keyed : (key : K) (old new : Blocks K X) (block es : List (K × X)) → AreInOrder cmp old → block ≡ block_for cmp key old.first old.others.entries
      → SetsBlock cmp (bound_for cmp key old.others.entries) old new es → AreInOrder cmp new → block_for cmp key new.first new.others.entries ≡ es
  still_keyed key old new block es order its sets after =
      let bound = bound_for cmp key old.others.entries in
      sym (its_block key new bound es after.1 (sym (bound_stays key old new bound es sets)) (has_block old new bound block es (at_its_bound key old block order its) sets))

  -- an entry that goes from the key's block
  pub remove_keyed : (key : K) (old new : Blocks K X) (block es : List (K × X)) → AreInOrder cmp old → block ≡ block_for cmp key old.first old.others.entries
      → SetsBlock cmp (bound_for cmp key old.others.entries) old new es → es ≡ remove_entry (is_at (cmp key)) block
      → (entries_in new ≡ remove_entry (is_at (cmp key)) (entries_in old)) × AreInOrder cmp new
  remove_keyed key old new block es order its sets is =
      let bound = bound_for cmp key old.others.entries in
      remove_in key old new bound block order refl (at_its_bound key old block order its) (subst (SetsBlock cmp bound old new) is sets)

  -- what a new entry's coming leaves, and tells
  pub record IsInserted {E : Type 0} (key : K) (value : X) (old new : Blocks K X) (result : Result Bool E) : Type 0 where
    pub told : IfOk result (λ is_new. is_new ≡ not (is_some (lookup (is_at (cmp key)) (entries_in old))))
    pub ok : OnOk result (entries_in new ≡ with_new cmp (entries_in old) key value)
    pub there : IsSome (lookup (is_at (cmp key)) (entries_in old)) → IsOk result
    pub err : OnErr result (entries_in new ≡ entries_in old)
    pub parted : AreInOrder cmp new

  -- where the key has no entry yet, one comes in its block
  comes_new : (key : K) (value : X) (old new : Blocks K X) (block es : List (K × X)) → AreInOrder cmp old → block ≡ block_for cmp key old.first old.others.entries
      → SetsBlock cmp (bound_for cmp key old.others.entries) old new es → es ≡ with_new cmp block key value
      → (entries_in new ≡ with_new cmp (entries_in old) key value) × AreInOrder cmp new
  comes_new key value old new block es order its sets is = by (is_some (lookup (is_at (cmp key)) block)) refl
    where
      by : (b : Bool) → is_some (lookup (is_at (cmp key)) block) ≡ b → (entries_in new ≡ with_new cmp (entries_in old) key value) × AreInOrder cmp new
      by true has =
          let same = same_keyed key old new block es order its sets (is ∙ ap (λ b. cond b block (insert_entry cmp block key value)) has) in
          let all : is_some (lookup (is_at (cmp key)) (entries_in old)) ≡ true = sym (ap is_some (looked_there key old block order its)) ∙ has in
          (same_entries old new same ∙ sym (ap (λ b. cond b (entries_in old) (insert_entry cmp (entries_in old) key value)) all), same_order old new same order)
      by false none =
          let bound = bound_for cmp key old.others.entries in
          let all : is_some (lookup (is_at (cmp key)) (entries_in old)) ≡ false = sym (ap is_some (looked_there key old block order its)) ∙ none in
          let done = insert_in key value old new bound block order refl (at_its_bound key old block order its)
          (subst (SetsBlock cmp bound old new) (is ∙ ap (λ b. cond b block (insert_entry cmp block key value)) none) sets) in
          (done.0 ∙ sym (ap (λ b. cond b (entries_in old) (insert_entry cmp (entries_in old) key value)) all), done.1)

  pub insert_keyed : {E : Type 0} (key : K) (value : X) (old new : Blocks K X) (block es : List (K × X)) (result : Result Bool E) → AreInOrder cmp old
      → block ≡ block_for cmp key old.first old.others.entries → SetsBlock cmp (bound_for cmp key old.others.entries) old new es
      → IfOk result (λ is_new. is_new ≡ not (is_some (lookup (is_at (cmp key)) block))) → OnOk result (es ≡ with_new cmp block key value)
      → (IsSome (lookup (is_at (cmp key)) block) → IsOk result) → OnErr result (es ≡ block)
      → IsInserted key value old new result
  insert_keyed key value old new block es result order its sets told ok there err =
      let looked = looked_there key old block order its in
      record {
        told = subst (λ found. IfOk result (λ is_new. is_new ≡ not (is_some found))) looked told;
        ok = on_ok result (λ is. (comes_new key value old new block es order its sets is).0) ok;
        there = λ some. there (ap is_some looked ∙ some);
        err = on_err result (λ is. same_entries old new (same_keyed key old new block es order its sets is)) err;
        parted = either_way result (on_ok result (λ is. (comes_new key value old new block es order its sets is).1) ok)
            (on_err result (λ is. same_order old new (same_keyed key old new block es order its sets is) order) err);
      }

  -- one that comes once the block was split
  pub inserted_then : {E : Type 0} (key : K) (value : X) (old mid new : Blocks K X) (result : Result Bool E) → entries_in mid ≡ entries_in old → IsInserted key value mid new result
      → IsInserted key value old new result
  inserted_then key value old mid new result same done =
      record {
        told = subst (λ es. IfOk result (λ is_new. is_new ≡ not (is_some (lookup (is_at (cmp key)) es)))) same done.told;
        ok = on_ok result (λ is. is ∙ ap (λ es. with_new cmp es key value) same) done.ok;
        there = λ some. done.there (ap (λ es. is_some (lookup (is_at (cmp key)) es)) same ∙ some);
        err = on_err result (λ is. is ∙ same) done.err;
        parted = done.parted;
      }

-- What is done to the places of bounds, and to the slab, is done to the blocks.
use Rattle.std.proofs.Common.{◌≡◌, ◌≢◌, ◌⊎◌, ◌+◌, ℕ, Bool, true, false, cond, List, [], ◌∷◌, ◌++◌, Option, Some, None, length, refl, sym, ap, ◌∙◌, subst, inl, inr}
use native.Mathlib.Omega.{arith}
use Rattle.std.proofs.lemmas.Bool.{cases_eq}
use Rattle.std.proofs.lemmas.List.Sums.{sum_by-set}
use Rattle.std.specs.Prelude.{is_some, IsSome, option_map, unwrap_or}
use Rattle.std.specs.List.{AllByRecursion, filter}
use Rattle.std.specs.Map.{lookup, remove_entry, set_value}
use Rattle.std.specs.BTreeMap.{insert_entry}
use Rattle.std.specs.Ordering.{match_ordering}
use Rattle.std.specs.declared.cmp.Ordering.{Ordering}
use Rattle.std.specs.declared.cmp.Ordering.TheVariants.{Less, Equal, Greater}
use Rattle.slab.specs.Slab.{Slab, get, slab_len, Updates, with_value}
use Rattle.slab.proofs.SlabLemmas.{ContainsKey-within, Updates-with_value}
use Rattle.block_map.specs.Places.{AreApart, ArePlaced, AreThere, block_at_place, blocks_at, last_bound}
use Rattle.block_map.proofs.Parts.{all_like}

-- what is there is shown
shown : {B : Type 0} (found : Option B) (d : B) → IsSome found → Some (unwrap_or found d) ≡ found
shown None d some = absurd (let no : false ≡ true = some in cc)
shown (Some b) d some = refl

mapped_none : {A B : Type 0} (f : A → B) (found : Option A) → option_map f found ≡ None → found ≡ None
mapped_none f None none = refl
mapped_none f (Some x) none = absurd (let no : Some (f x) ≡ None = none in cc)

-- where no entry passes, none goes
pub none_goes : {K Y : Type 0} (test : K → Bool) (es : List (K × Y)) → lookup test es ≡ None → remove_entry test es ≡ es
none_goes test [] none = refl
none_goes test (e ∷ es) none = by (test e.0) none (none_goes test es)
  where
    by : (b : Bool) → cond b (Some e.1) (lookup test es) ≡ None → (lookup test es ≡ None → remove_entry test es ≡ es) → cond b es (e ∷ remove_entry test es) ≡ e ∷ es
    by true none rest = absurd (let no : Some e.1 ≡ None = none in cc)
    by false none rest = ap (λ fs. e ∷ fs) (rest none)

-- the last of some
pub last_of : {K Y : Type 0} (es : List (K × Y)) (e : K × Y) → last_bound (es ++ e ∷ []) ≡ Some e.0
last_of [] e = refl
last_of (other ∷ es) e = ap (λ last. Some (unwrap_or last other.0)) (last_of es e)

-- a block that is changed is counted as before
set_count : {X : Type 0} (slab : Slab (List X)) (place : ℕ) (block : List X) → IsSome (get slab place) → slab_len (with_value slab place block) ≡ slab_len slab
set_count {X} slab place block some =
    let is : ◌≡◌ {A = ℕ} (cond (is_some (get slab place)) 1 0) 1 = ap (λ b. cond b 1 0) some in
    omega (arith, is, sum_by-set (λ (slot : Option (List X)). cond (is_some slot) 1 0) slab.slots place (Some block) None (ContainsKey-within slab place some))

module _ {K : Type 0} where
  -- what holds of all places holds of the one that is found
  found_holds : (P : ℕ → Type 0) (test : K → Bool) (places : List (K × ℕ)) (place : ℕ) → AllByRecursion (λ e. P e.1) places → lookup test places ≡ Some place → P place
  found_holds P test [] place all found = absurd (let no : None ≡ Some place = found in cc)
  found_holds P test (e ∷ es) place all found = by (test e.0) found (found_holds P test es place all.1)
    where
      by : (b : Bool) → cond b (Some e.1) (lookup test es) ≡ Some place → (lookup test es ≡ Some place → P place) → P place
      by true found rest = subst P (let eq : e.1 ≡ place = (let q : Some e.1 ≡ Some place = found in cc) in eq) all.0
      by false found rest = rest found

  -- and of those that stay
  all_stay : (P : ℕ → Type 0) (test : K → Bool) (places : List (K × ℕ)) → AllByRecursion (λ e. P e.1) places → AllByRecursion (λ e. P e.1) (remove_entry test places)
  all_stay P test [] all = tt
  all_stay P test (e ∷ es) all = by (test e.0) (all_stay P test es all.1)
    where
      by : (b : Bool) → AllByRecursion (λ f. P f.1) (remove_entry test es) → AllByRecursion (λ f. P f.1) (cond b es (e ∷ remove_entry test es))
      by true rest = all.1
      by false rest = (all.0, rest)

  -- and of one more
  all_come : (P : ℕ → Type 0) (cmp : K → K → Ordering) (places : List (K × ℕ)) (bound : K) (place : ℕ) → P place → AllByRecursion (λ e. P e.1) places
      → AllByRecursion (λ e. P e.1) (insert_entry cmp places bound place)
  all_come P cmp [] bound place its all = (its, tt)
  all_come P cmp (e ∷ es) bound place its all = by (cmp bound e.0) (all_come P cmp es bound place its all.1)
    where
      by : (r : Ordering) → AllByRecursion (λ f. P f.1) (insert_entry cmp es bound place)
          → AllByRecursion (λ f. P f.1) (match_ordering r ((bound, place) ∷ e ∷ es) ((e.0, place) ∷ es) (e ∷ insert_entry cmp es bound place))
      by Less rest = (its, all)
      by Equal rest = (its, all.1)
      by Greater rest = (all.0, rest)

  -- places stay apart where one goes
  apart_stay : (test : K → Bool) (places : List (K × ℕ)) → AreApart places → AreApart (remove_entry test places)
  apart_stay test [] apart = tt
  apart_stay test (e ∷ es) apart = by (test e.0) (apart_stay test es apart.1)
    where
      by : (b : Bool) → AreApart (remove_entry test es) → AreApart (cond b es (e ∷ remove_entry test es))
      by true rest = apart.1
      by false rest = (all_stay (λ place. place ≢ e.1) test es apart.0, rest)

  -- and where another one comes
  apart_come : (cmp : K → K → Ordering) (places : List (K × ℕ)) (bound : K) (place : ℕ) → AllByRecursion (λ e. e.1 ≢ place) places → AreApart places → AreApart (insert_entry cmp places bound place)
  apart_come cmp [] bound place others apart = (tt, tt)
  apart_come cmp (e ∷ es) bound place others apart = by (cmp bound e.0) (apart_come cmp es bound place others.1 apart.1)
    where
      by : (r : Ordering) → AreApart (insert_entry cmp es bound place) → AreApart (match_ordering r ((bound, place) ∷ e ∷ es) ((e.0, place) ∷ es) (e ∷ insert_entry cmp es bound place))
      by Less rest = (others, apart)
      by Equal rest = (others.1, apart.1)
      by Greater rest = (all_come (λ other. other ≢ e.1) cmp es bound place (λ is. others.0 (sym is)) apart.0, rest)

module _ {K X : Type 0} where
  at_blocks : (test : K → Bool) (places : List (K × ℕ)) (slab : Slab (List X)) → lookup test (blocks_at places slab) ≡ option_map (λ place. unwrap_or (get slab place) []) (lookup test places)
  at_blocks test [] slab = refl
  at_blocks test (e ∷ es) slab = by (test e.0) (at_blocks test es slab)
    where
      by : (b : Bool) → lookup test (blocks_at es slab) ≡ option_map (λ place. unwrap_or (get slab place) []) (lookup test es)
          → cond b (Some (unwrap_or (get slab e.1) [])) (lookup test (blocks_at es slab)) ≡ option_map (λ place. unwrap_or (get slab place) []) (cond b (Some e.1) (lookup test es))
      by true rest = refl
      by false rest = rest

  -- a block is at the place that is found
  pub is_block : (test : K → Bool) (places : List (K × ℕ)) (slab : Slab (List X)) (place : ℕ) → ArePlaced places slab → lookup test places ≡ Some place → IsSome (get slab place)
  is_block test places slab place placed found = found_holds (λ p. IsSome (get slab p)) test places place placed.there found

  -- and it is the bound's
  pub block_there : (test : K → Bool) (places : List (K × ℕ)) (slab : Slab (List X)) (place : ℕ) → ArePlaced places slab → lookup test places ≡ Some place
      → get slab place ≡ lookup test (blocks_at places slab)
  block_there test places slab place placed found =
      sym (at_blocks test places slab ∙ (ap (option_map (λ p. unwrap_or (get slab p) [])) found ∙ shown (get slab place) [] (is_block test places slab place placed found)))

  -- where no place is, no block is
  pub no_block : (test : K → Bool) (places : List (K × ℕ)) (slab : Slab (List X)) → lookup test places ≡ None → lookup test (blocks_at places slab) ≡ None
  no_block test places slab none = at_blocks test places slab ∙ ap (option_map (λ p. unwrap_or (get slab p) [])) none

  -- and the other way round
  pub no_place : (test : K → Bool) (places : List (K × ℕ)) (slab : Slab (List X)) → lookup test (blocks_at places slab) ≡ None → lookup test places ≡ None
  no_place test places slab none = mapped_none (λ p. unwrap_or (get slab p) []) (lookup test places) (sym (at_blocks test places slab) ∙ none)

  -- the blocks of some bounds are those at their places
  pub some_blocks : (test : K → Bool) (places : List (K × ℕ)) (slab : Slab (List X)) → filter (λ e. test e.0) (blocks_at places slab) ≡ blocks_at (filter (λ e. test e.0) places) slab
  some_blocks test [] slab = refl
  some_blocks test (e ∷ es) slab = by (test e.0) (some_blocks test es slab)
    where
      by : (b : Bool) → filter (λ f. test f.0) (blocks_at es slab) ≡ blocks_at (filter (λ f. test f.0) es) slab
          → cond b (block_at_place slab e ∷ filter (λ f. test f.0) (blocks_at es slab)) (filter (λ f. test f.0) (blocks_at es slab))
          ≡ blocks_at (cond b (e ∷ filter (λ f. test f.0) es) (filter (λ f. test f.0) es)) slab
      by true rest = ap (λ bs. block_at_place slab e ∷ bs) rest
      by false rest = rest

  -- the last bound is that of the last place
  last_place : (places : List (K × ℕ)) (slab : Slab (List X)) → last_bound (blocks_at places slab) ≡ last_bound places
  last_place [] slab = refl
  last_place (e ∷ es) slab = ap (λ last. Some (unwrap_or last e.0)) (last_place es slab)

  -- so the last of those up to a key is
  pub last_upto : (test : K → Bool) (places : List (K × ℕ)) (slab : Slab (List X)) → last_bound (filter (λ e. test e.0) (blocks_at places slab)) ≡ last_bound (filter (λ e. test e.0) places)
  last_upto test places slab = ap last_bound (some_blocks test places slab) ∙ last_place (filter (λ e. test e.0) places) slab

  -- the slab has the same at each of the places
  abbrev AreSame : List (K × ℕ) → Slab (List X) → Slab (List X) → Type 0
  AreSame places old new = AllByRecursion (λ e. get new e.1 ≡ get old e.1) places

  same_blocks : (places : List (K × ℕ)) (old new : Slab (List X)) → AreSame places old new → blocks_at places new ≡ blocks_at places old
  same_blocks [] old new same = refl
  same_blocks (e ∷ es) old new same =
      ap (λ (found : Option (List X)). (e.0, unwrap_or found []) ∷ blocks_at es new) same.0 ∙ ap (λ bs. block_at_place old e ∷ bs) (same_blocks es old new same.1)

  same_there : (places : List (K × ℕ)) (old new : Slab (List X)) → AreSame places old new → AreThere places old → AreThere places new
  same_there [] old new same there = tt
  same_there (e ∷ es) old new same there = (subst (λ (found : Option (List X)). IsSome found) (sym same.0) there.0, same_there es old new same.1 there.1)

  -- where only the room changes, each bound has its place
  pub kept_placed : (places : List (K × ℕ)) (old new : Slab (List X)) → new ≡ record old { capacity = new.capacity } → ArePlaced places old → ArePlaced places new
  kept_placed places old new is placed =
      record { there = there places placed.there; apart = placed.apart; count = ap slab_len is ∙ placed.count }
    where
      there : (ps : List (K × ℕ)) → AreThere ps old → AreThere ps new
      there ps all = all_like (λ e. IsSome (get old e.1)) (λ e. IsSome (get new e.1)) ps (λ e some. ap is_some (ap (λ (slab : Slab (List X)). get slab e.1) is) ∙ some) all

  -- a place that none of them is may change
  beside : (places : List (K × ℕ)) (old new : Slab (List X)) (place : ℕ) (slot : Option (List X)) → Updates old new place slot → AllByRecursion (λ e. e.1 ≢ place) places → AreSame places old new
  beside places old new place slot updates others = all_like (λ e. e.1 ≢ place) (λ e. get new e.1 ≡ get old e.1) places (λ e other. updates.others e.1 other) others

  -- a vacant place is none of them
  vacant_beside : (places : List (K × ℕ)) (slab : Slab (List X)) (place : ℕ) → get slab place ≡ None → AreThere places slab → AllByRecursion (λ e. e.1 ≢ place) places
  vacant_beside places slab place vacant there =
      all_like (λ e. IsSome (get slab e.1)) (λ e. e.1 ≢ place) places
      (λ e some is. let no : false ≡ true = sym (ap is_some (ap (get slab) is ∙ vacant)) ∙ some in cc) there

  -- the block at a bound's place is changed
  pub set_there : (test : K → Bool) (places : List (K × ℕ)) (old new : Slab (List X)) (place : ℕ) (es : List X) → AreApart places → lookup test places ≡ Some place → Updates old new place (Some es)
      → blocks_at places new ≡ set_value test (blocks_at places old) es
  set_there test [] old new place block apart found updates = absurd (let no : None ≡ Some place = found in cc)
  set_there test (e ∷ es) old new place block apart found updates = by (test e.0) found (λ is. set_there test es old new place block apart.1 is updates)
    where
      by : (b : Bool) → cond b (Some e.1) (lookup test es) ≡ Some place → (lookup test es ≡ Some place → blocks_at es new ≡ set_value test (blocks_at es old) block)
          → blocks_at (e ∷ es) new ≡ cond b ((e.0, block) ∷ blocks_at es old) (block_at_place old e ∷ set_value test (blocks_at es old) block)
      by true found rest =
          let eq : e.1 ≡ place = (let q : Some e.1 ≡ Some place = found in cc) in
          ap (λ (found : Option (List X)). (e.0, unwrap_or found []) ∷ blocks_at es new) (ap (get new) eq ∙ updates.changed)
          ∙ ap (λ bs. (e.0, block) ∷ bs) (same_blocks es old new (beside es old new place (Some block) updates (subst (λ p. AllByRecursion (λ f. f.1 ≢ p) es) eq apart.0)))
      by false found rest =
          let other = found_holds (λ p. p ≢ e.1) test es place apart.0 found in
          ap (λ (found : Option (List X)). (e.0, unwrap_or found []) ∷ blocks_at es new) (updates.others e.1 (λ is. other (sym is))) ∙ ap (λ bs. block_at_place old e ∷ bs) (rest found)

  -- a bound comes, with a block at a place that was vacant
  pub insert_there : (cmp : K → K → Ordering) (places : List (K × ℕ)) (old new : Slab (List X)) (bound : K) (place : ℕ) (block : List X) → ArePlaced places old → get old place ≡ None
      → Updates old new place (Some block) → blocks_at (insert_entry cmp places bound place) new ≡ insert_entry cmp (blocks_at places old) bound block
  insert_there cmp places old new bound place block placed vacant updates =
      comes places
      ∙ (ap (λ bs. insert_entry cmp bs bound (unwrap_or (get new place) [])) (same_blocks places old new (beside places old new place (Some block) updates (vacant_beside places old place vacant placed.there)))
      ∙ ap (λ (found : Option (List X)). insert_entry cmp (blocks_at places old) bound (unwrap_or found [])) updates.changed)
    where
      comes : (ps : List (K × ℕ)) → blocks_at (insert_entry cmp ps bound place) new ≡ insert_entry cmp (blocks_at ps new) bound (unwrap_or (get new place) [])
      comes [] = refl
      comes (e ∷ es) = by (cmp bound e.0) (comes es)
        where
          by : (r : Ordering) → blocks_at (insert_entry cmp es bound place) new ≡ insert_entry cmp (blocks_at es new) bound (unwrap_or (get new place) [])
              → blocks_at (match_ordering r ((bound, place) ∷ e ∷ es) ((e.0, place) ∷ es) (e ∷ insert_entry cmp es bound place)) new
              ≡ match_ordering r ((bound, unwrap_or (get new place) []) ∷ block_at_place new e ∷ blocks_at es new) ((e.0, unwrap_or (get new place) []) ∷ blocks_at es new)
              (block_at_place new e ∷ insert_entry cmp (blocks_at es new) bound (unwrap_or (get new place) []))
          by Less rest = refl
          by Equal rest = refl
          by Greater rest = ap (λ bs. block_at_place new e ∷ bs) rest

  -- and each bound has a place of its own
  pub insert_placed : (cmp : K → K → Ordering) (places : List (K × ℕ)) (old new : Slab (List X)) (bound : K) (place : ℕ) (block : List X) → ArePlaced places old → get old place ≡ None
      → Updates old new place (Some block) → slab_len new ≡ slab_len old + 1 → length (insert_entry cmp places bound place) ≡ length places + 1
      → ArePlaced (insert_entry cmp places bound place) new
  insert_placed cmp places old new bound place block placed vacant updates more len =
      let others = vacant_beside places old place vacant placed.there in
      record {
        there = all_come (λ p. IsSome (get new p)) cmp places bound place (ap is_some updates.changed)
            (same_there places old new (beside places old new place (Some block) updates others) placed.there);
        apart = apart_come cmp places bound place others placed.apart;
        count = omega (arith, more, len, placed.count);
      }

  -- a bound goes, and the block at its place
  pub remove_there : (test : K → Bool) (places : List (K × ℕ)) (old new : Slab (List X)) (place : ℕ) → AreApart places → lookup test places ≡ Some place → Updates old new place None
      → blocks_at (remove_entry test places) new ≡ remove_entry test (blocks_at places old)
  remove_there test [] old new place apart found updates = absurd (let no : None ≡ Some place = found in cc)
  remove_there test (e ∷ es) old new place apart found updates = by (test e.0) found (λ is. remove_there test es old new place apart.1 is updates)
    where
      by : (b : Bool) → cond b (Some e.1) (lookup test es) ≡ Some place → (lookup test es ≡ Some place → blocks_at (remove_entry test es) new ≡ remove_entry test (blocks_at es old))
          → blocks_at (cond b es (e ∷ remove_entry test es)) new ≡ cond b (blocks_at es old) (block_at_place old e ∷ remove_entry test (blocks_at es old))
      by true found rest =
          let eq : e.1 ≡ place = (let q : Some e.1 ≡ Some place = found in cc) in
          same_blocks es old new (beside es old new place None updates (subst (λ p. AllByRecursion (λ f. f.1 ≢ p) es) eq apart.0))
      by false found rest =
          let other = found_holds (λ p. p ≢ e.1) test es place apart.0 found in
          ap (λ (found : Option (List X)). (e.0, unwrap_or found []) ∷ blocks_at (remove_entry test es) new) (updates.others e.1 (λ is. other (sym is)))
          ∙ ap (λ bs. block_at_place old e ∷ bs) (rest found)

  blocks_stay : (test : K → Bool) (places : List (K × ℕ)) (old new : Slab (List X)) (place : ℕ) → AreThere places old → AreApart places → lookup test places ≡ Some place → Updates old new place None
      → AreThere (remove_entry test places) new
  blocks_stay test [] old new place there apart found updates = tt
  blocks_stay test (e ∷ es) old new place there apart found updates = by (test e.0) found (λ is. blocks_stay test es old new place there.1 apart.1 is updates)
    where
      by : (b : Bool) → cond b (Some e.1) (lookup test es) ≡ Some place → (lookup test es ≡ Some place → AreThere (remove_entry test es) new)
          → AreThere (cond b es (e ∷ remove_entry test es)) new
      by true found rest =
          let eq : e.1 ≡ place = (let q : Some e.1 ≡ Some place = found in cc) in
          same_there es old new (beside es old new place None updates (subst (λ p. AllByRecursion (λ f. f.1 ≢ p) es) eq apart.0)) there.1
      by false found rest =
          let other = found_holds (λ p. p ≢ e.1) test es place apart.0 found in
          (subst (λ (found : Option (List X)). IsSome found) (sym (updates.others e.1 (λ is. other (sym is)))) there.0, rest found)

  -- and each bound that stays has a place of its own
  pub remove_placed : (test : K → Bool) (places : List (K × ℕ)) (old new : Slab (List X)) (place : ℕ) → ArePlaced places old → lookup test places ≡ Some place → Updates old new place None
      → slab_len new + 1 ≡ slab_len old → length (remove_entry test places) + 1 ≡ length places → ArePlaced (remove_entry test places) new
  remove_placed test places old new place placed found updates fewer len =
      record {
        there = blocks_stay test places old new place placed.there placed.apart found updates;
        apart = apart_stay test places placed.apart;
        count = omega (arith, fewer, len, placed.count);
      }

  -- a block that is changed stays at its place
  pub set_placed : (test : K → Bool) (places : List (K × ℕ)) (slab : Slab (List X)) (place : ℕ) (block : List X) → ArePlaced places slab → lookup test places ≡ Some place
      → ArePlaced places (with_value slab place block)
  set_placed test places slab place block placed found =
      let some = is_block test places slab place placed found in
      let updates = Updates-with_value slab place block some in
      record {
        there = all_like (λ e. IsSome (get slab e.1)) (λ e. IsSome (get (with_value slab place block) e.1)) places (λ e there. still updates e.1 there (cases_eq e.1 place)) placed.there;
        apart = placed.apart;
        count = set_count slab place block some ∙ placed.count;
      }
    where
      still : Updates slab (with_value slab place block) place (Some block) → (other : ℕ) → IsSome (get slab other) → (other ≡ place) ⊎ (other ≢ place) → IsSome (get (with_value slab place block) other)
      still updates other there (inl same) = ap is_some (ap (get (with_value slab place block)) same ∙ updates.changed)
      still updates other there (inr differs) = subst (λ (found : Option (List X)). IsSome found) (sym (updates.others other differs)) there

  -- it is the bound's that is changed
  pub set_block : (test : K → Bool) (places : List (K × ℕ)) (slab : Slab (List X)) (place : ℕ) (block : List X) → ArePlaced places slab → lookup test places ≡ Some place
      → blocks_at places (with_value slab place block) ≡ set_value test (blocks_at places slab) block
  set_block test places slab place block placed found =
      set_there test places slab (with_value slab place block) place block placed.apart found (Updates-with_value slab place block (is_block test places slab place placed found))

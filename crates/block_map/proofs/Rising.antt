-- Keys rise still where an entry comes, goes or changes.
use Rattle.std.proofs.Common.{◌≡◌, ℕ, zero, suc, Bool, true, false, cond, List, [], ◌∷◌, take, drop, refl, ap, ◌∙◌}
use Rattle.std.specs.List.{AllByRecursion}
use Rattle.std.specs.Map.{remove_entry, set_value}
use Rattle.std.specs.BTreeMap.{insert_entry}
use Rattle.std.specs.Cmp.{IsTotalOrder}
use Rattle.std.specs.Ordering.{match_ordering, ordering_reverse}
use Rattle.std.specs.declared.cmp.Ordering.{Ordering}
use Rattle.std.specs.declared.cmp.Ordering.TheVariants.{Less, Equal, Greater}
use Rattle.block_map.specs.Blocks.{AreRising}
use Rattle.block_map.proofs.Parts.{all_like}

module _ {K X : Type 0} where
  -- what holds of each key holds of each where another value is set
  pub keys_set : (P : K → Type 0) (test : K → Bool) (es : List (K × X)) (value : X) → AllByRecursion (λ e. P e.0) es → AllByRecursion (λ e. P e.0) (set_value test es value)
  keys_set P test [] value h = tt
  keys_set P test (e ∷ es) value h = at (test e.0) h (keys_set P test es value h.1)
    where
      at : (b : Bool) → AllByRecursion (λ e. P e.0) (e ∷ es) → AllByRecursion (λ e. P e.0) (set_value test es value) → AllByRecursion (λ e. P e.0) (cond b ((e.0, value) ∷ es) (e ∷ set_value test es value))
      at true h rest = h
      at false h rest = (h.0, rest)

  -- where an entry goes
  pub keys_removed : (P : K → Type 0) (test : K → Bool) (es : List (K × X)) → AllByRecursion (λ e. P e.0) es → AllByRecursion (λ e. P e.0) (remove_entry test es)
  keys_removed P test [] h = tt
  keys_removed P test (e ∷ es) h = at (test e.0) h (keys_removed P test es h.1)
    where
      at : (b : Bool) → AllByRecursion (λ e. P e.0) (e ∷ es) → AllByRecursion (λ e. P e.0) (remove_entry test es) → AllByRecursion (λ e. P e.0) (cond b es (e ∷ remove_entry test es))
      at true h rest = h.1
      at false h rest = (h.0, rest)

  -- and where one comes whose key it holds of
  pub keys_inserted : (P : K → Type 0) (cmp : K → K → Ordering) (es : List (K × X)) (key : K) (value : X) → P key → AllByRecursion (λ e. P e.0) es → AllByRecursion (λ e. P e.0) (insert_entry cmp es key value)
  keys_inserted P cmp [] key value its h = (its, tt)
  keys_inserted P cmp (e ∷ es) key value its h = at (cmp key e.0) (keys_inserted P cmp es key value its h.1)
    where
      at : (r : Ordering) → AllByRecursion (λ e. P e.0) (insert_entry cmp es key value)
          → AllByRecursion (λ e. P e.0) (match_ordering r ((key, value) ∷ e ∷ es) ((e.0, value) ∷ es) (e ∷ insert_entry cmp es key value))
      at Less rest = (its, h)
      at Equal rest = h
      at Greater rest = (h.0, rest)

module _ {K X : Type 0} where
  pub set_rises : (cmp : K → K → Ordering) (test : K → Bool) (es : List (K × X)) (value : X) → AreRising cmp es → AreRising cmp (set_value test es value)
  set_rises cmp test [] value rising = tt
  set_rises cmp test (e ∷ es) value rising = at (test e.0) (set_rises cmp test es value rising.1)
    where
      at : (b : Bool) → AreRising cmp (set_value test es value) → AreRising cmp (cond b ((e.0, value) ∷ es) (e ∷ set_value test es value))
      at true rest = rising
      at false rest = (keys_set (λ k. cmp e.0 k ≡ Less) test es value rising.0, rest)

  pub remove_rises : (cmp : K → K → Ordering) (test : K → Bool) (es : List (K × X)) → AreRising cmp es → AreRising cmp (remove_entry test es)
  remove_rises cmp test [] rising = tt
  remove_rises cmp test (e ∷ es) rising = at (test e.0) (remove_rises cmp test es rising.1)
    where
      at : (b : Bool) → AreRising cmp (remove_entry test es) → AreRising cmp (cond b es (e ∷ remove_entry test es))
      at true rest = rising.1
      at false rest = (keys_removed (λ k. cmp e.0 k ≡ Less) test es rising.0, rest)

  pub insert_rises : {cmp : K → K → Ordering} (o : IsTotalOrder cmp) (es : List (K × X)) (key : K) (value : X) → AreRising cmp es → AreRising cmp (insert_entry cmp es key value)
  insert_rises {cmp} o [] key value rising = (tt, tt)
  insert_rises {cmp} o (e ∷ es) key value rising = at (cmp key e.0) refl (insert_rises o es key value rising.1)
    where
      at : (r : Ordering) → cmp key e.0 ≡ r → AreRising cmp (insert_entry cmp es key value)
          → AreRising cmp (match_ordering r ((key, value) ∷ e ∷ es) ((e.0, value) ∷ es) (e ∷ insert_entry cmp es key value))
      at Less is rest = ((is, all_like (λ f. cmp e.0 f.0 ≡ Less) (λ f. cmp key f.0 ≡ Less) es (λ f less. o.trans key e.0 f.0 is less) rising.0), rising)
      at Equal is rest = rising
      at Greater is rest = (keys_inserted (λ k. cmp e.0 k ≡ Less) cmp es key value (o.antisymm e.0 key ∙ ap ordering_reverse is) rising.0, rest)

  -- the first of rising keys rise, and so do the others
  pub take_rises : (cmp : K → K → Ordering) (place : ℕ) (es : List (K × X)) → AreRising cmp es → AreRising cmp (take place es)
  take_rises cmp zero es rising = tt
  take_rises cmp (suc place) [] rising = tt
  take_rises cmp (suc place) (e ∷ es) rising = (all_taken place es rising.0, take_rises cmp place es rising.1)
    where
      all_taken : (place : ℕ) (fs : List (K × X)) → AllByRecursion (λ f. cmp e.0 f.0 ≡ Less) fs → AllByRecursion (λ f. cmp e.0 f.0 ≡ Less) (take place fs)
      all_taken zero fs all = tt
      all_taken (suc place) [] all = tt
      all_taken (suc place) (f ∷ fs) all = (all.0, all_taken place fs all.1)

  pub drop_rises : (cmp : K → K → Ordering) (place : ℕ) (es : List (K × X)) → AreRising cmp es → AreRising cmp (drop place es)
  drop_rises cmp zero es rising = rising
  drop_rises cmp (suc place) [] rising = tt
  drop_rises cmp (suc place) (e ∷ es) rising = drop_rises cmp place es rising.1

-- What was found of the items that were gone through: for `Seek`.
use Rattle.std.proofs.Common.{◌≡◌, ℕ, ◌+◌, ◌-◌, ◌<◌, ◌≤◌, ◌⊎◌, inl, inr, Bool, true, false, ◌||◌, Some, List, [], ◌∷◌, ◌++◌, length, refl, ap, ◌∙◌, subst, sym, zero, suc, arith}
use Rattle.std.proofs.lemmas.List.{length-append}
use Rattle.std.proofs.lemmas.Option.{slice_get_within, slice_get-map}
use Rattle.std.specs.Prelude.{slice_get}
use Rattle.std.specs.Option.{option_map}
use Rattle.std.specs.List.{list_any}
use Rattle.arrival_list.specs.declared.arrived.Arrived.{Arrived}
use Rattle.arrival_list.specs.Arrivals.{items_of}
use Rattle.arrival_list.specs.Places.{IsFirstFrom, NonePassesFrom}

-- an item of two lists, one behind the other, is one of the one or of the other
pub get_front : {X : Type 0} (xs ys : List X) (i : ℕ) → i < length xs → slice_get (xs ++ ys) i ≡ slice_get xs i
get_front [] ys i within = absurd (omega (arith, within))
get_front (x ∷ xs) ys zero within = refl
get_front (x ∷ xs) ys (suc i) within = get_front xs ys i (omega (arith, within))

pub get_back : {X : Type 0} (xs ys : List X) (i : ℕ) → length xs ≤ i → slice_get (xs ++ ys) i ≡ slice_get ys (i - length xs)
get_back [] ys i past = ap (slice_get ys) (let same : i ≡ i - 0 = omega arith in same)
get_back (x ∷ xs) ys zero past = absurd (omega (arith, past))
get_back (x ∷ xs) ys (suc i) past =
    get_back xs ys i (omega (arith, past)) ∙ ap (slice_get ys) (let same : i - length xs ≡ suc i - suc (length xs) = omega arith in same)

pub get_next : {X : Type 0} (xs : List X) (x : X) → slice_get (xs ++ x ∷ []) (length xs) ≡ Some x
get_next [] x = refl
get_next (y ∷ xs) x = get_next xs x

none_of : (b c : Bool) → (b || c) ≡ false → (b ≡ false) × (c ≡ false)
none_of true c h = absurd (cc)
none_of false c h = (refl, h)

-- no item passes a test that none passes
pub each_fails : {X : Type 0} (p : X → Bool) (xs : List X) (i : ℕ) (x : X) → list_any p xs ≡ false → slice_get xs i ≡ Some x → p x ≡ false
each_fails p [] i x none is = absurd (cc)
each_fails p (y ∷ xs) zero x none is = let same : y ≡ x = cc in ap p (sym same) ∙ (none_of (p y) (list_any p xs) none).0
each_fails p (y ∷ xs) (suc i) x none is = each_fails p xs i x (none_of (p y) (list_any p xs) none).1 is

where_at : {X : Type 0} (xs ys : List X) (i : ℕ) → (i < length xs) ⊎ (length xs ≤ i)
where_at xs ys i = grind arith

module _ {X : Type 0} (p : X → Bool) (from : ℕ) (seen more : List X) where
  -- what was found stays, however many come behind
  pub found_still : (place : ℕ) (x : X) → IsFirstFrom p from seen place x → IsFirstFrom p from (seen ++ more) place x
  found_still place x is =
      let within = slice_get_within seen place x is.there in record {
        not_before = is.not_before;
        there = get_front seen more place within ∙ is.there;
        passes = is.passes;
        first = λ i y behind before there. is.first i y behind before (sym (get_front seen more i (omega (arith, within, before))) ∙ there);
      }

  -- nothing is found where there was nothing, and none of the others may be found
  pub nothing_still : NonePassesFrom p from seen → ((length seen + length more ≤ from) ⊎ (list_any p more ≡ false)) → NonePassesFrom p from (seen ++ more)
  nothing_still none others i x behind there = elim (where_at seen more i) [
    | inl front ↦ none i x behind (sym (get_front seen more i front) ∙ there)
    | inr back ↦
        elim others [
          | inl few ↦
              (let long = slice_get_within (seen ++ more) i x there in let all = length-append seen more in absurd (omega (arith, behind, few, long, all)))
          | inr fail ↦ each_fails p more (i - length seen) x fail (sym (get_back seen more i back) ∙ there)
        ]
  ]

-- the item at a place, and what a test that all before fail says of it
get_item : {T : Type 0} (P : T → Type 0) (arrived : List (Arrived T)) (i : ℕ) (x : T) → ((a : Arrived T) → slice_get arrived i ≡ Some a → P a.item)
    → slice_get (items_of arrived) i ≡ Some x → P x
get_item P [] i x all there = absurd (cc)
get_item P (a ∷ arrived) zero x all there = let same : a.item ≡ x = cc in subst P same (all a refl)
get_item P (a ∷ arrived) (suc i) x all there = get_item P arrived i x all there

-- what is found of items with their arrivals is found of the items alone
pub none_of_items : {T : Type 0} (p : T → Bool) (from : ℕ) (arrived : List (Arrived T)) → NonePassesFrom (λ a. p a.item) from arrived
    → NonePassesFrom p from (items_of arrived)
none_of_items p from arrived none i x behind there = get_item (λ y. p y ≡ false) arrived i x (λ a is. none i a behind is) there

pub first_of_items : {T : Type 0} (p : T → Bool) (from : ℕ) (arrived : List (Arrived T)) (place : ℕ) (a : Arrived T) → IsFirstFrom (λ b. p b.item) from arrived place a
    → IsFirstFrom p from (items_of arrived) place a.item
first_of_items p from arrived place a is = record {
  not_before = is.not_before;
  there = slice_get-map _ arrived place ∙ ap (option_map _) is.there;
  passes = is.passes;
  first = λ i x behind before there. get_item (λ y. p y ≡ false) arrived i x (λ b at. is.first i b behind before at) there;
}

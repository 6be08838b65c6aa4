-- Some element of a list: ends, joins and filters; for `Wait::blocking_by_wait`.
use Rattle.wait_core.proofs.Common.{ℕ, ◌≡◌, ◌+◌, ◌<◌, ◌∙◌, ◌⊎◌, inl, inr, sym, ap, subst, refl, arith, Bool, true, false, zero, suc, List, [], ◌∷◌, ◌++◌, Any, length, get_or, take, drop, filter, cases_Bool}
use Rattle.std.proofs.lemmas.List.{get_or_append_left, get_or-append-add, length-append, take-append-drop}
use Rattle.std.proofs.Math.Seq.{drop-cons, get_or-append_seam}

module _ {X : Type 0} where
  pub Any-nil : (P : X → Type 0) → ¬ Any P []
  Any-nil P (k, x, within, is, holds) = omega (arith, within)

  pub Any-here : (P : X → Type 0) (x : X) (xs : List X) → P x → Any P (x ∷ xs)
  Any-here P x xs holds = (0, x, (let n = length xs in omega arith), refl, holds)

  pub Any-there : (P : X → Type 0) (x : X) (xs : List X) → Any P xs → Any P (x ∷ xs)
  Any-there P x xs (k, y, within, is, holds) = (suc k, y, omega (arith, within), is, holds)

  pub Any-cons : (P : X → Type 0) (x : X) (xs : List X) → Any P (x ∷ xs) → P x ⊎ Any P xs
  Any-cons P x xs (zero, y, within, is, holds) = inl (subst P (sym is) holds)
  Any-cons P x xs (suc k, y, within, is, holds) = inr (k, y, omega (arith, within), is, holds)

  pub Any-append_left : (P : X → Type 0) (xs ys : List X) → Any P xs → Any P (xs ++ ys)
  Any-append_left P xs ys (k, x, within, is, holds) =
      (k, x, (let more = length-append xs ys in omega arith), get_or_append_left xs ys x k within ∙ is, holds)

  pub Any-append_right : (P : X → Type 0) (xs ys : List X) → Any P ys → Any P (xs ++ ys)
  Any-append_right P xs ys (k, x, within, is, holds) =
      (length xs + k, x, (let more = length-append xs ys in omega arith), get_or-append-add xs ys k x ∙ is, holds)

  pub Any-append : (P : X → Type 0) (xs ys : List X) → Any P (xs ++ ys) → Any P xs ⊎ Any P ys
  Any-append P [] ys any = inr any
  Any-append P (x ∷ xs) ys any = elim (Any-cons P x (xs ++ ys) any) [
    | inl here ↦ inl (Any-here P x xs here)
    | inr there ↦ elim (Any-append P xs ys there) [ inl a ↦ inl (Any-there P x xs a) | inr b ↦ inr b ]
  ]

  -- of the one element of a list
  pub Any-alone : (P : X → Type 0) (x : X) → Any P (x ∷ []) → P x
  Any-alone P x any = elim (Any-cons P x [] any) [ inl here ↦ here | inr there ↦ absurd (Any-nil P there) ]

  pub Any-weaker : (P Q : X → Type 0) → ((x : X) → P x → Q x) → (xs : List X) → Any P xs → Any Q xs
  Any-weaker P Q weaker xs (k, x, within, is, holds) = (k, x, within, is, weaker x holds)

  filter-yes : (f : X → Bool) (x : X) (xs : List X) → f x ≡ true → filter f (x ∷ xs) ≡ x ∷ filter f xs
  filter-yes f x xs passes = rw passes

  filter-no : (f : X → Bool) (x : X) (xs : List X) → f x ≡ false → filter f (x ∷ xs) ≡ filter f xs
  filter-no f x xs fails = rw fails

  -- what holds of an element that the filter keeps holds of one that is kept
  pub Any-filter : (P : X → Type 0) (f : X → Bool) → ((x : X) → P x → f x ≡ true) → (xs : List X) → Any P xs → Any P (filter f xs)
  Any-filter P f keeps [] any = absurd (Any-nil P any)
  Any-filter P f keeps (x ∷ xs) any = elim (Any-cons P x xs any) [
    | inl here ↦ rw (filter-yes f x xs (keeps x here)) (Any-here P x (filter f xs) here)
    | inr there ↦
        let rest = Any-filter P f keeps xs there in
        elim (cases_Bool (f x)) [
          | inl passes ↦ rw (filter-yes f x xs passes) (Any-there P x (filter f xs) rest)
          | inr fails ↦ rw (filter-no f x xs fails) rest
        ]
  ]

  -- and the way back, where the kept one passes the test
  pub Any-unfilter : (P : X → Type 0) (f : X → Bool) (xs : List X) → Any P (filter f xs) → Any (λ x. P x × (f x ≡ true)) xs
  Any-unfilter P f [] any = absurd (Any-nil P any)
  Any-unfilter P f (x ∷ xs) any = elim (cases_Bool (f x)) [
    | inl passes ↦
        elim (Any-cons P x (filter f xs) (rw (filter-yes f x xs passes) at any)) [
          | inl here ↦ Any-here (λ y. P y × (f y ≡ true)) x xs (here, passes)
          | inr there ↦ Any-there (λ y. P y × (f y ≡ true)) x xs (Any-unfilter P f xs there)
        ]
    | inr fails ↦ Any-there (λ y. P y × (f y ≡ true)) x xs (Any-unfilter P f xs (rw (filter-no f x xs fails) at any))
  ]

  -- the list is split at a place
  pub split_at : (xs : List X) (k : ℕ) (x : X) → k < length xs → get_or xs k x ≡ x → xs ≡ take k xs ++ x ∷ drop (suc k) xs
  split_at xs k x within is =
      sym (take-append-drop k xs) ∙ ap (λ (l : List X). take k xs ++ l) (drop-cons xs k x within ∙ ap (λ (y : X). y ∷ drop (suc k) xs) is)

  -- where a list is split, the place of its middle
  pub split_within : (xs before : List X) (x : X) (after : List X) → xs ≡ before ++ x ∷ after → length before < length xs
  split_within xs before x after place = let sum = length-append before (x ∷ after) in let whole = ap length place in omega arith

  pub split_is : (xs before : List X) (x : X) (after : List X) → xs ≡ before ++ x ∷ after → get_or xs (length before) x ≡ x
  split_is xs before x after place = rw place (get_or-append_seam before x after x)

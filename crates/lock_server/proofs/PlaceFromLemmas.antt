-- The first place of what is asked for: for `LockFile::first_of`, `place_of`, `place_leaving`, `next_conflicting` and what asks these.
use Rattle.lock_server.proofs.Common.{◌≡◌, ℕ, ◌<◌, ◌≤◌, ◌∙◌, Bool, true, false, Option, Some, None, List, [], ◌∷◌, All, Any, take, get_or, refl, sym, subst, arith, zero, suc, ◌↔◌, IsTrue, is_some, slice_get, slice_get_within, slice_get-get_or, get_or_from_slice_get, IsPlaceFrom}
use Rattle.arrival_list.specs.Places.{NonePassesFrom}
use Rattle.lock_server.proofs.GatheredOwnerLemmas.{Any-from_place, Any-place}

-- some item passes just where the first place is told
pub any_passes : {X : Type 0} (p : X → Bool) (P : X → Type 0) → ((x : X) → IsTrue (p x) ↔ P x) → (xs : List X) (found : Option ℕ) → IsPlaceFrom p 0 xs found
    → IsTrue (is_some found) ↔ Any P xs
any_passes p P same xs None none = (
  λ told. absurd (let no : false ≡ true = told in cc),
  λ any. (let there = Any-place P xs any in
      let yes = (same there.1).1 there.3 in
      let no = none there.0 there.1 (omega arith) there.2 in
      let h : false ≡ true = sym no ∙ yes in absurd (cc)),
)
any_passes p P same xs (Some place) (item, is) = (λ told. Any-from_place P xs place item is.there ((same item).0 is.passes), λ any. refl)

-- so many elements in front, each at its place
pub get_taken : {X : Type 0} (n : ℕ) (xs : List X) (i : ℕ) → i < n → slice_get (take n xs) i ≡ slice_get xs i
get_taken zero xs i before = absurd (omega (arith, before))
get_taken (suc n) [] i before = refl
get_taken (suc n) (x ∷ xs) zero before = refl
get_taken (suc n) (x ∷ xs) (suc i) before = get_taken n xs i (omega (arith, before))

pub taken_at : {X : Type 0} (n : ℕ) (xs : List X) (i : ℕ) (x : X) → slice_get (take n xs) i ≡ Some x → (i < n) × (slice_get xs i ≡ Some x)
taken_at zero xs i x is = absurd (let none : None ≡ Some x = is in cc)
taken_at (suc n) [] i x is = absurd (let none : None ≡ Some x = is in cc)
taken_at (suc n) (y ∷ xs) zero x is = (omega arith, is)
taken_at (suc n) (y ∷ xs) (suc i) x is = let later = taken_at n xs i x is in (omega (arith, later.0), later.1)

-- of so many in front none is such where each fails a test that such ones pass
pub all_fail : {X : Type 0} (p : X → Bool) (P : X → Type 0) → ((x : X) → P x → p x ≡ true) → (xs : List X) (n : ℕ)
    → ((i : ℕ) (x : X) → i < n → slice_get xs i ≡ Some x → p x ≡ false) → All (λ x. ¬ P x) (take n xs)
all_fail p P has xs n fail k d within holds =
    let here = taken_at n xs k (get_or (take n xs) k d) (slice_get-get_or (take n xs) k d within) in
    let no = fail k (get_or (take n xs) k d) here.0 here.1 in
    let yes = has (get_or (take n xs) k d) holds in
    let h : false ≡ true = sym no ∙ yes in cc

pub none_is : {X : Type 0} (p : X → Bool) (P : X → Type 0) → ((x : X) → P x → p x ≡ true) → (xs : List X) → NonePassesFrom p 0 xs → All (λ x. ¬ P x) xs
none_is p P has xs none k d within holds =
    let no = none k (get_or xs k d) (omega arith) (slice_get-get_or xs k d within) in
    let yes = has (get_or xs k d) holds in
    let h : false ≡ true = sym no ∙ yes in cc

-- not all are others just where a first one is told
pub not_all_others : {X : Type 0} (p : X → Bool) (P : X → Type 0) → ((x : X) → IsTrue (p x) ↔ P x) → (xs : List X) (found : Option ℕ) → IsPlaceFrom p 0 xs found
    → IsTrue (is_some found) ↔ (¬ All (λ x. ¬ P x) xs)
not_all_others p P same xs None none = (
  λ told. absurd (let no : false ≡ true = told in cc),
  λ some. absurd (some (none_is p P (λ x. (same x).1) xs none)),
)
not_all_others p P same xs (Some place) (item, is) = (
  λ told all.
      (let within = slice_get_within xs place item is.there in
      all place item within (subst P (sym (get_or_from_slice_get xs place item item is.there)) ((same item).0 is.passes))),
  λ some. refl,
)

-- none comes before the first, nor anywhere where there is none
pub none_before : {X : Type 0} (p : X → Bool) (P : X → Type 0) → ((x : X) → P x → p x ≡ true) → (xs : List X) (place n : ℕ) → IsPlaceFrom p 0 xs (Some place) → n ≤ place
    → All (λ x. ¬ P x) (take n xs)
none_before p P has xs place n (item, is) few = all_fail p P has xs n (λ i x before there. is.first i x (omega arith) (omega (arith, few, before)) there)

pub none_at_all : {X : Type 0} (p : X → Bool) (P : X → Type 0) → ((x : X) → P x → p x ≡ true) → (xs : List X) (n : ℕ) → IsPlaceFrom p 0 xs None
    → All (λ x. ¬ P x) (take n xs)
none_at_all p P has xs n none = all_fail p P has xs n (λ i x before there. none i x (omega arith) there)

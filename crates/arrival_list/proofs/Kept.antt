-- What a test passes: for `Counting`, `may_hit` and `ArrivalList::count_where`.
use Rattle.std.proofs.Common.{◌≡◌, ◌≤◌, Bool, true, false, not, cond, ◌||◌, List, [], ◌∷◌, length, suc, refl, ap, ◌∙◌, sym, arith}
use Rattle.std.specs.List.{filter, list_any}
use Rattle.arrival_list.specs.declared.arrived.Arrived.{Arrived}
use Rattle.arrival_list.specs.Arrivals.{items_of}

pub any_of_items : {T : Type 0} (p : T → Bool) (arrived : List (Arrived T)) → list_any (λ a. p a.item) arrived ≡ list_any p (items_of arrived)
any_of_items p [] = refl
any_of_items p (a ∷ arrived) = ap (λ b. p a.item || b) (any_of_items p arrived)

longer : {X : Type 0} (b : Bool) (x : X) (xs : List X) → length (cond b (x ∷ xs) xs) ≡ cond b (suc (length xs)) (length xs)
longer true x xs = refl
longer false x xs = refl

-- as many of the items with their arrivals pass as of the items alone
pub as_many : {T : Type 0} (p : T → Bool) (arrived : List (Arrived T)) → length (filter (λ a. p a.item) arrived) ≡ length (filter p (items_of arrived))
as_many p [] = refl
as_many p (a ∷ arrived) =
    longer (p a.item) a (filter (λ b. p b.item) arrived) ∙ (ap (λ n. cond (p a.item) (suc n) n) (as_many p arrived) ∙ sym (longer (p a.item) a.item (filter p (items_of arrived))))

none_kept_at : {X : Type 0} (b : Bool) (x : X) (p : X → Bool) (xs : List X) → (b || list_any p xs) ≡ false → (list_any p xs ≡ false → filter p xs ≡ []) → cond b (x ∷ filter p xs) (filter p xs) ≡ []
none_kept_at true x p xs none later = absurd (cc)
none_kept_at false x p xs none later = later none

-- none is left of items of which none passes
pub none_kept : {X : Type 0} (p : X → Bool) (xs : List X) → list_any p xs ≡ false → filter p xs ≡ []
none_kept p [] none = refl
none_kept p (x ∷ xs) none = none_kept_at (p x) x p xs none (none_kept p xs)

pub not_so : (b : Bool) → not b ≡ true → b ≡ false
not_so true h = absurd (cc)
not_so false h = refl

fewer_at : {X : Type 0} (b : Bool) (x : X) (xs ys : List X) → length xs ≤ length ys → length (cond b (x ∷ xs) xs) ≤ suc (length ys)
fewer_at true x xs ys few = omega (arith, few)
fewer_at false x xs ys few = omega (arith, few)

-- no more are left than there are
pub few_kept : {X : Type 0} (p : X → Bool) (xs : List X) → length (filter p xs) ≤ length xs
few_kept p [] = omega arith
few_kept p (x ∷ xs) = fewer_at (p x) x (filter p xs) xs (few_kept p xs)

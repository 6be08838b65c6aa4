-- Items of lists that grow at their end: for `gather_all`, `make_callers` and `start_all`.
use Rattle.replay_core.proofs.Common.{◌≡◌, inl, inr, ℕ, zero, suc, List, [], ◌∷◌, ◌++◌, Option, Some, length, refl, sym, ap, ◌∙◌, arith, append_assoc, slice_get, slice_get_within}
use Rattle.std.proofs.Common.{◌⊎◌}
use Rattle.std.specs.Option.{unwrap_or}

-- the item behind a front
pub item_behind : {X : Type 0} (front : List X) (x : X) (rest : List X) → slice_get (front ++ x ∷ rest) (length front) ≡ Some x
item_behind [] x rest = refl
item_behind (y ∷ front) x rest = item_behind front x rest

same_some : {X : Type 0} (x y : X) → Some x ≡ Some y → x ≡ y
same_some x y e = ap (λ (o : Option _). unwrap_or o x) e

-- an item of a list with one more at its end is that one, or stands in the list
pub item_of_grown : {X : Type 0} (xs : List X) (x y : X) (i : ℕ) → slice_get (xs ++ x ∷ []) i ≡ Some y
    → (slice_get xs i ≡ Some y) ⊎ ((i ≡ length xs) × (y ≡ x))
item_of_grown [] x y zero e = inr (refl, sym (same_some x y e))
item_of_grown [] x y (suc i) e = let below = slice_get_within (x ∷ []) (suc i) y e in absurd (omega (arith, below))
item_of_grown (z ∷ xs) x y zero e = inl e
item_of_grown (z ∷ xs) x y (suc i) e = elim (item_of_grown xs x y i e) [
  | inl h ↦ inl h
  | inr h ↦ inr (ap suc h.0, h.1)
]

-- the first of the rest stands behind what is done
pub next_of : {X : Type 0} (done rest all : List X) (x : X) (behind : List X) → done ++ rest ≡ all → rest ≡ x ∷ behind
    → slice_get all (length done) ≡ Some x
next_of done rest all x behind is here =
    ap (λ (l : List _). slice_get l (length done)) (sym is ∙ ap (λ (r : List _). done ++ r) here) ∙ item_behind done x behind

-- and once it is done too, the others are left
pub done_more : {X : Type 0} (done rest all : List X) (x : X) (behind : List X) → done ++ rest ≡ all → rest ≡ x ∷ behind
    → (done ++ x ∷ []) ++ behind ≡ all
done_more done rest all x behind is here = append_assoc done (x ∷ []) behind ∙ ap (λ (r : List _). done ++ r) (sym here) ∙ is

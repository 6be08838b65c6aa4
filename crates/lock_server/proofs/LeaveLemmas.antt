-- A wait that leaves the list of a file: for `add_conflicting`, `Table::add_going_on`, `LockFile::add_holders` and others.
use Rattle.lock_server.proofs.Common.{ℕ, ◌≡◌, ◌+◌, ◌<◌, ◌∙◌, inl, inr, sym, ap, arith, true, false, cond, Bool, suc, List, [], ◌∷◌, ◌++◌, All, Any, length, get_or, take, drop, filter, take-append-drop, All-cons, All-head, All-tail}
use Rattle.std.proofs.Math.Seq.{drop-cons}
use Rattle.lock_server.proofs.ListLemmas.{Any-here, Any-there, Any-cons}

-- a list, with the element at a place between those before and those after it
pub split_at : {X : Type 0} (xs : List X) (k : ℕ) (x : X) → k < length xs → get_or xs k x ≡ x → xs ≡ take k xs ++ x ∷ drop (suc k) xs
split_at {X} xs k x within is =
    sym (take-append-drop k xs) ∙ ap (λ (l : List X). take k xs ++ l) (drop-cons xs k x within ∙ ap (λ (y : X). y ∷ drop (suc k) xs) is)

module _ {X : Type 0} where
  -- where an element stands among others, as many pass as without it, and one more if it does
  pub counted_with : (p : X → Bool) (before after : List X) (x : X)
      → length (filter p (before ++ x ∷ after)) ≡ length (filter p (before ++ after)) + cond (p x) 1 0
  counted_with p [] after x = elim (p x) as (λ b. length (cond b (x ∷ filter p after) (filter p after)) ≡ length (filter p after) + cond b 1 0) [
    | true ↦ omega arith
    | false ↦ omega arith
  ]
  counted_with p (y ∷ before) after x =
      let rest = counted_with p before after x in
      elim (p y) as (λ b. length (cond b (y ∷ filter p (before ++ x ∷ after)) (filter p (before ++ x ∷ after)))
      ≡ length (cond b (y ∷ filter p (before ++ after)) (filter p (before ++ after))) + cond (p x) 1 0) [
        | true ↦ omega (arith, rest)
        | false ↦ rest
      ]

  -- what holds of some of the others holds of some with it
  pub Any-with : (P : X → Type 0) (before after : List X) (x : X) → Any P (before ++ after) → Any P (before ++ x ∷ after)
  Any-with P [] after x any = Any-there P x after any
  Any-with P (y ∷ before) after x any = elim (Any-cons P y (before ++ after) any) [
    | inl here ↦ Any-here P y (before ++ x ∷ after) here
    | inr there ↦ Any-there P y (before ++ x ∷ after) (Any-with P before after x there)
  ]

  -- some element is that at its place
  pub Any-at : (P : X → Type 0) (before after : List X) (x : X) → P x → Any P (before ++ x ∷ after)
  Any-at P [] after x holds = Any-here P x after holds
  Any-at P (y ∷ before) after x holds = Any-there P y (before ++ x ∷ after) (Any-at P before after x holds)

  -- what holds of all holds of the others
  pub All-without : (P : X → Type 0) (before after : List X) (x : X) → All P (before ++ x ∷ after) → All P (before ++ after)
  All-without P [] after x all = All-tail P x after all
  All-without P (y ∷ before) after x all =
      All-cons P y (before ++ after) (All-head P y (before ++ x ∷ after) all) (All-without P before after x (All-tail P y (before ++ x ∷ after) all))

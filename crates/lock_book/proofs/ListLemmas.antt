-- Some and all elements of lists that are put together: for `push_runs`.
use Rattle.lock_book.proofs.Common.{common_steps, ◌≡◌, ◌+◌, ◌∙◌, ap, subst, arith, List, [], ◌∷◌, ◌++◌, All, Any, length, AllPairs, cases_lt}
use Rattle.std.proofs.Common.{append_assoc}
use Rattle.std.proofs.lemmas.List.{get_or_append_left, get_or-append-add, length-append}
use Rattle.std.proofs.Math.Seq.{get_or-append_right}

-- what holds of an element holds of one with more behind it
pub Any-append_left : {X : Type 0} (P : X → Type 0) (xs ys : List X) → Any P xs → Any P (xs ++ ys)
Any-append_left P xs ys (k, x, within, is, holds) =
    (k, x, (let more = length-append xs ys in omega arith), get_or_append_left xs ys x k within ∙ is, holds)

-- or before it
pub Any-append_right : {X : Type 0} (P : X → Type 0) (xs ys : List X) → Any P ys → Any P (xs ++ ys)
Any-append_right P xs ys (k, x, within, is, holds) =
    (length xs + k, x, (let more = length-append xs ys in omega arith), get_or-append-add xs ys k x ∙ is, holds)

-- what holds of each element holds of one that something else holds of
pub All-at_Any : {X : Type 0} (P Q : X → Type 0) (xs : List X) → All P xs → Any Q xs → (x : X) × P x × Q x
All-at_Any P Q xs all (k, x, within, is, holds) = (x, subst P is (all k x within), holds)

-- two lists in order, each element of the one before each of the other
pub AllPairs-append : {X : Type 0} (R : X → X → Type 0) (xs ys : List X) → AllPairs R xs → AllPairs R ys → All (λ x. All (λ y. R x y) ys) xs
    → AllPairs R (xs ++ ys)
AllPairs-append R xs ys first second across i j d before within =
    grind (arith, common_steps, cases_lt, get_or_append_left, length-append, get_or-append_right)

-- a push that succeeded, onto a list with some more behind the old one
pub pushed : {X : Type 0} (old now new more : List X) (x : X) → new ≡ now ++ x ∷ [] → now ≡ old ++ more → new ≡ old ++ (more ++ x ∷ [])
pushed {X} old now new more x items added = items ∙ ap (λ (l : List X). l ++ x ∷ []) added ∙ append_assoc old more (x ∷ [])

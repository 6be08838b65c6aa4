-- Some element of a list.
use Rattle.session_core.proofs.Common.{suc, ◌+◌, ◌∙◌, refl, arith, List, ◌∷◌, ◌++◌, Any, length}
use Rattle.std.proofs.lemmas.List.{get_or_append_left, get_or-append-add, length-append}

pub Any-here : {X : Type 0} (P : X → Type 0) (x : X) (xs : List X) → P x → Any P (x ∷ xs)
Any-here P x xs holds = (0, x, (let n = length xs in omega arith), refl, holds)

pub Any-there : {X : Type 0} (P : X → Type 0) (x : X) (xs : List X) → Any P xs → Any P (x ∷ xs)
Any-there P x xs (k, y, within, is, holds) = (suc k, y, omega (arith, within), is, holds)

pub Any-append_left : {X : Type 0} (P : X → Type 0) (xs ys : List X) → Any P xs → Any P (xs ++ ys)
Any-append_left P xs ys (k, x, within, is, holds) =
    (k, x, (let more = length-append xs ys in omega arith), get_or_append_left xs ys x k within ∙ is, holds)

pub Any-append_right : {X : Type 0} (P : X → Type 0) (xs ys : List X) → Any P ys → Any P (xs ++ ys)
Any-append_right P xs ys (k, x, within, is, holds) =
    (length xs + k, x, (let more = length-append xs ys in omega arith), get_or-append-add xs ys k x ∙ is, holds)

pub Any-weaker : {X : Type 0} (P Q : X → Type 0) → ((x : X) → P x → Q x) → (xs : List X) → Any P xs → Any Q xs
Any-weaker P Q weaker xs (k, x, within, is, holds) = (k, x, within, is, weaker x holds)

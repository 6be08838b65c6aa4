-- What stands beside the place at which a test cuts a list.
use Rattle.std.proofs.Common.{◌≡◌, suc, ◌+◌, ◌<◌, Bool, true, false, not, cond, ◌||◌, Option, Some, None, List, [], ◌∷◌, ◌++◌, length, take, drop, refl, ap, ◌∙◌, arith}
use Rattle.std.specs.List.{find, last_or, list_any, position_or_len, slice_get}
use Rattle.std.specs.Option.{option_or}
use Rattle.std.proofs.lemmas.List.Folds.{find-append}
use Rattle.summary_tree.specs.Cuts.{before, first_passes}
use Rattle.summary_tree.proofs.ListLemmas.{last_any, last_append}
use Rattle.summary_tree.proofs.Splits.{NonePasses, before_among, before_left, before_right}

before_from : {X : Type 0} (p : X → Bool) (y : X) (ys : List X) (b : Bool) → take (position_or_len p ys) ys ≡ before p ys → take (cond (not b) (1 + position_or_len p ys) 0) (y ∷ ys) ≡ cond b [] (y ∷ before p ys)
before_from p y ys true h = refl
before_from p y ys false h =
    let n : 1 + position_or_len p ys ≡ suc (position_or_len p ys) = omega arith in
    ap (λ k. take k (y ∷ ys)) n ∙ ap (λ zs. y ∷ zs) h

-- as many as the place tells stand before it
pub before_at_place : {X : Type 0} (p : X → Bool) (ys : List X) → take (position_or_len p ys) ys ≡ before p ys
before_at_place p [] = refl
before_at_place p (y ∷ ys) = before_from p y ys (p y) (before_at_place p ys)

found_from : {X : Type 0} (p : X → Bool) (y : X) (ys : List X) (b : Bool) → slice_get (drop (position_or_len p ys) ys) 0 ≡ find p ys → slice_get (drop (cond (not b) (1 + position_or_len p ys) 0) (y ∷ ys)) 0 ≡ cond b (Some y) (find p ys)
found_from p y ys true h = refl
found_from p y ys false h =
    let n : 1 + position_or_len p ys ≡ suc (position_or_len p ys) = omega arith in
    ap (λ k. slice_get (drop k (y ∷ ys)) 0) n ∙ h

-- and the first from there on is the first that passes
pub found_at_place : {X : Type 0} (p : X → Bool) (ys : List X) → slice_get (drop (position_or_len p ys) ys) 0 ≡ find p ys
found_at_place p [] = refl
found_at_place p (y ∷ ys) = found_from p y ys (p y) (found_at_place p ys)

-- of a list xs that is split into l, b and r, and o beside it: the place is in r
pub last_before_right : {X : Type 0} (p : X → Bool) (o : Option X) (xs l b r : List X) → xs ≡ l ++ (b ++ r) → NonePasses p l → NonePasses p b → 0 < length b
    → last_or o (before p xs) ≡ last_or (last_or None b) (before p r)
last_before_right p o xs l b r is n m some =
    ap (λ ys. last_or o (before p ys)) is ∙ ap (last_or o) (before_right p l (b ++ r) n ∙ ap (λ ys. l ++ ys) (before_right p b r m))
    ∙ last_append o l (b ++ before p r) ∙ last_append (last_or o l) b (before p r) ∙ ap (λ d. last_or d (before p r)) (last_any (last_or o l) b some)

-- it is in l, or at the first of b
pub last_before_left : {X : Type 0} (p : X → Bool) (o : Option X) (xs l b r : List X) → xs ≡ l ++ (b ++ r) → first_passes p (b ++ r) ≡ true → last_or o (before p xs) ≡ last_or o (before p l)
last_before_left p o xs l b r is h = ap (λ ys. last_or o (before p ys)) is ∙ ap (last_or o) (before_left p l (b ++ r) h)

some_before_at : {X : Type 0} (o : Option X) (y : X) (ys : List X) (c : Bool) → c ≡ false → last_or o (cond c [] (y ∷ ys)) ≡ last_or None (cond c [] (y ∷ ys))
some_before_at o y ys true h = absurd (cc)
some_before_at o y ys false h = refl

some_before : {X : Type 0} (p : X → Bool) (o : Option X) (b : List X) → 0 < length b → first_passes p b ≡ false → last_or o (before p b) ≡ last_or None (before p b)
some_before p o [] some h = absurd (omega arith)
some_before p o (y ∷ b) some h = some_before_at o y (before p b) (p y) h

-- it is in b behind the first
pub last_before_here : {X : Type 0} (p : X → Bool) (o : Option X) (xs l b r : List X) → xs ≡ l ++ (b ++ r) → NonePasses p l → list_any p b ≡ true → 0 < length b → first_passes p b ≡ false
    → last_or o (before p xs) ≡ last_or None (before p b)
last_before_here p o xs l b r is n any some h =
    ap (λ ys. last_or o (before p ys)) is ∙ ap (last_or o) (before_right p l (b ++ r) n ∙ ap (λ ys. l ++ ys) (before_among p b r any))
    ∙ last_append o l (before p b) ∙ some_before p (last_or o l) b some h

first_found_at : {X : Type 0} (y : X) (found : Option X) (c : Bool) → c ≡ true → cond c (Some y) found ≡ Some y
first_found_at y found true h = refl
first_found_at y found false h = absurd (cc)

first_found : {X : Type 0} (p : X → Bool) (o : Option X) (b r : List X) → first_passes p b ≡ true → option_or (find p (b ++ r)) o ≡ slice_get b 0
first_found p o [] r h = absurd (cc)
first_found p o (y ∷ b) r h = ap (λ f. option_or f o) (first_found_at y (find p (b ++ r)) (p y) h)

either_of : {X : Type 0} (a b c : Option X) → option_or (option_or a b) c ≡ option_or a (option_or b c)
either_of None b c = refl
either_of (Some x) b c = refl

-- the first from the place on is in l, or the first of b
pub behind_left : {X : Type 0} (p : X → Bool) (o : Option X) (xs l b r : List X) → xs ≡ l ++ (b ++ r) → first_passes p b ≡ true → option_or (find p xs) o ≡ option_or (find p l) (slice_get b 0)
behind_left p o xs l b r is h =
    ap (λ ys. option_or (find p ys) o) is ∙ ap (λ f. option_or f o) (find-append p l (b ++ r)) ∙ either_of (find p l) (find p (b ++ r)) o ∙ ap (option_or (find p l)) (first_found p o b r h)

found_at : {X : Type 0} (y : X) (found o : Option X) (c any : Bool) → (c || any) ≡ true → (any ≡ true → option_or found o ≡ found) → option_or (cond c (Some y) found) o ≡ cond c (Some y) found
found_at y found o true any h f = refl
found_at y found o false any h f = f h

-- where some item passes, one is found
pub found_among_any : {X : Type 0} (p : X → Bool) (o : Option X) (b : List X) → list_any p b ≡ true → option_or (find p b) o ≡ find p b
found_among_any p o [] h = absurd (cc)
found_among_any p o (y ∷ b) h = found_at y (find p b) o (p y) (list_any p b) h (found_among_any p o b)

-- What is put into a list that is split in two, and what is taken out of it.
use Rattle.std.proofs.Common.{append-nil, ◌≡◌, ℕ, zero, suc, ◌+◌, ◌-◌, ◌<◌, ◌≤◌, Bool, true, false, not, cond, ◌||◌, Some, None, List, [], ◌∷◌, ◌++◌, length, slice_index_or, slice_set, take, drop, refl, sym, ap, ◌∙◌, arith}
use Rattle.std.specs.List.{find, list_any, position_or_len, insert, remove, AllByRecursion}
use Rattle.std.proofs.lemmas.List.{take-append-drop}
use Rattle.std.proofs.lemmas.List.Sums.{prefix_len-le-length}
use Rattle.summary_tree.specs.Cuts.{first_passes, put_before, with_first, without_first, before}

-- no item passes
abbrev pub NonePasses : {X : Type 0} → (X → Bool) → List X → Type 0
NonePasses p xs = AllByRecursion (λ y. p y ≡ false) xs

-- each item passes
abbrev pub EachPasses : {X : Type 0} → (X → Bool) → List X → Type 0
EachPasses p xs = AllByRecursion (λ y. p y ≡ true) xs

put_first_at : {X : Type 0} (p : X → Bool) (x y : X) (m : List X) (b : Bool) → b ≡ true → cond b (x ∷ y ∷ m) (y ∷ put_before p x m) ≡ x ∷ y ∷ m
put_first_at p x y m b e = ap (λ c. cond c (x ∷ y ∷ m) (y ∷ put_before p x m)) e

-- where the first of m passes, the item is put before it, if not earlier
pub put_left : {X : Type 0} (p : X → Bool) (x : X) (l m : List X) → first_passes p m ≡ true → put_before p x (l ++ m) ≡ put_before p x l ++ m
put_left p x [] [] h = absurd (cc)
put_left p x [] (y ∷ m) h = put_first_at p x y m (p y) h
put_left p x (z ∷ l) m h =
    elim (p z) as (λ b. cond b (x ∷ z ∷ (l ++ m)) (z ∷ put_before p x (l ++ m)) ≡ cond b (x ∷ z ∷ l) (z ∷ put_before p x l) ++ m) [ true ↦ refl | false ↦ ap (λ ys. z ∷ ys) (put_left p x l m h) ]

-- where none of l passes, the item is put behind it
pub put_right : {X : Type 0} (p : X → Bool) (x : X) (l m : List X) → NonePasses p l → put_before p x (l ++ m) ≡ l ++ put_before p x m
put_right p x [] m h = refl
put_right p x (z ∷ l) m h = ap (λ b. cond b (x ∷ z ∷ (l ++ m)) (z ∷ put_before p x (l ++ m))) h.0 ∙ ap (λ ys. z ∷ ys) (put_right p x l m h.1)

put_among_at : {X : Type 0} (p : X → Bool) (x z : X) (l m : List X) (b : Bool) → (b || list_any p l) ≡ true → (list_any p l ≡ true → put_before p x (l ++ m) ≡ put_before p x l ++ m) → cond b (x ∷ z ∷ (l ++ m)) (z ∷ put_before p x (l ++ m)) ≡ cond b (x ∷ z ∷ l) (z ∷ put_before p x l) ++ m
put_among_at p x z l m true h f = refl
put_among_at p x z l m false h f = ap (λ ys. z ∷ ys) (f h)

-- where some item of l passes, it is put into l
pub put_among : {X : Type 0} (p : X → Bool) (x : X) (l m : List X) → list_any p l ≡ true → put_before p x (l ++ m) ≡ put_before p x l ++ m
put_among p x [] m h = absurd (cc)
put_among p x (z ∷ l) m h = put_among_at p x z l m (p z) h (put_among p x l m)

put_at : {X : Type 0} (p : X → Bool) (x y : X) (ys : List X) (b : Bool) (n : ℕ) → insert ys n x ≡ put_before p x ys → insert (y ∷ ys) (cond (not b) (1 + n) 0) x ≡ cond b (x ∷ y ∷ ys) (y ∷ put_before p x ys)
put_at p x y ys true n h = refl
put_at p x y ys false n h =
    let m : 1 + n ≡ suc n = omega arith in
    ap (λ k. insert (y ∷ ys) k x) m ∙ ap (λ zs. y ∷ zs) h

-- that is where the first that passes stands
pub put_at_place : {X : Type 0} (p : X → Bool) (x : X) (ys : List X) → insert ys (position_or_len p ys) x ≡ put_before p x ys
put_at_place p x [] = refl
put_at_place p x (y ∷ ys) = put_at p x y ys (p y) (position_or_len p ys) (put_at_place p x ys)

-- where none of l passes, the first that passes goes from behind it
pub without_right : {X : Type 0} (p : X → Bool) (l m : List X) → NonePasses p l → without_first p (l ++ m) ≡ l ++ without_first p m
without_right p [] m h = refl
without_right p (z ∷ l) m h = ap (λ b. cond b (l ++ m) (z ∷ without_first p (l ++ m))) h.0 ∙ ap (λ ys. z ∷ ys) (without_right p l m h.1)

without_among_at : {X : Type 0} (p : X → Bool) (z : X) (l m : List X) (b : Bool) → (b || list_any p l) ≡ true → (list_any p l ≡ true → without_first p (l ++ m) ≡ without_first p l ++ m) → cond b (l ++ m) (z ∷ without_first p (l ++ m)) ≡ cond b l (z ∷ without_first p l) ++ m
without_among_at p z l m true h f = refl
without_among_at p z l m false h f = ap (λ ys. z ∷ ys) (f h)

-- where some item of l passes, the first goes from l
pub without_among : {X : Type 0} (p : X → Bool) (l m : List X) → list_any p l ≡ true → without_first p (l ++ m) ≡ without_first p l ++ m
without_among p [] m h = absurd (cc)
without_among p (z ∷ l) m h = without_among_at p z l m (p z) h (without_among p l m)

without_at : {X : Type 0} (p : X → Bool) (y : X) (ys : List X) (b : Bool) (n : ℕ) → remove ys n ≡ without_first p ys → remove (y ∷ ys) (cond (not b) (1 + n) 0) ≡ cond b ys (y ∷ without_first p ys)
without_at p y ys true n h = refl
without_at p y ys false n h =
    let m : 1 + n ≡ suc n = omega arith in
    ap (λ k. remove (y ∷ ys) k) m ∙ ap (λ zs. y ∷ zs) h

-- that is the item at its place
pub without_at_place : {X : Type 0} (p : X → Bool) (ys : List X) → remove ys (position_or_len p ys) ≡ without_first p ys
without_at_place p [] = refl
without_at_place p (y ∷ ys) = without_at p y ys (p y) (position_or_len p ys) (without_at_place p ys)

-- where none of l passes, l is before the first that passes
pub before_right : {X : Type 0} (p : X → Bool) (l m : List X) → NonePasses p l → before p (l ++ m) ≡ l ++ before p m
before_right p [] m h = refl
before_right p (z ∷ l) m h = ap (λ b. cond b [] (z ∷ before p (l ++ m))) h.0 ∙ ap (λ ys. z ∷ ys) (before_right p l m h.1)

before_first_at : {X : Type 0} (p : X → Bool) (y : X) (m : List X) (b : Bool) → b ≡ true → cond b [] (y ∷ before p m) ≡ []
before_first_at p y m b e = ap (λ c. cond c [] (y ∷ before p m)) e

-- where the first of m passes, none of m is before it
pub before_left : {X : Type 0} (p : X → Bool) (l m : List X) → first_passes p m ≡ true → before p (l ++ m) ≡ before p l
before_left p [] [] h = absurd (cc)
before_left p [] (y ∷ m) h = before_first_at p y m (p y) h
before_left p (z ∷ l) m h =
    elim (p z) as (λ b. cond b [] (z ∷ before p (l ++ m)) ≡ cond b [] (z ∷ before p l)) [ true ↦ refl | false ↦ ap (λ ys. z ∷ ys) (before_left p l m h) ]

before_among_at : {X : Type 0} (p : X → Bool) (z : X) (l m : List X) (b : Bool) → (b || list_any p l) ≡ true → (list_any p l ≡ true → before p (l ++ m) ≡ before p l) → cond b [] (z ∷ before p (l ++ m)) ≡ cond b [] (z ∷ before p l)
before_among_at p z l m true h f = refl
before_among_at p z l m false h f = ap (λ ys. z ∷ ys) (f h)

-- where some item of l passes, none of m is before the first that does
pub before_among : {X : Type 0} (p : X → Bool) (l m : List X) → list_any p l ≡ true → before p (l ++ m) ≡ before p l
before_among p [] m h = absurd (cc)
before_among p (z ∷ l) m h = before_among_at p z l m (p z) h (before_among p l m)

-- where none passes, none is found
pub none_passes : {X : Type 0} (p : X → Bool) (l : List X) → NonePasses p l → find p l ≡ None
none_passes p [] h = refl
none_passes p (z ∷ l) h = ap (λ b. cond b (Some z) (find p l)) h.0 ∙ none_passes p l h.1

any_at : {X : Type 0} (p : X → Bool) (z : X) (l : List X) (y : X) (b : Bool) → cond b (Some z) (find p l) ≡ Some y → (find p l ≡ Some y → list_any p l ≡ true) → (b || list_any p l) ≡ true
any_at p z l y true h f = refl
any_at p z l y false h f = f h

-- where one is found, some item passes
pub any_found : {X : Type 0} (p : X → Bool) (l : List X) (y : X) → find p l ≡ Some y → list_any p l ≡ true
any_found p [] y h = absurd (cc)
any_found p (z ∷ l) y h = any_at p z l y (p z) h (any_found p l y)

fails_at : {X : Type 0} (p : X → Bool) (z : X) (l : List X) (b : Bool) → p z ≡ b → cond b (Some z) (find p l) ≡ None → (find p l ≡ None → NonePasses p l) → NonePasses p (z ∷ l)
fails_at p z l true e h f = absurd (cc)
fails_at p z l false e h f = (e, f h)

-- where none is found, none passes
pub none_passes_from : {X : Type 0} (p : X → Bool) (l : List X) → find p l ≡ None → NonePasses p l
none_passes_from p [] h = tt
none_passes_from p (z ∷ l) h = fails_at p z l (p z) refl h (none_passes_from p l)

-- an item that belongs into the front is put there
pub inserted_front : {X : Type 0} (xs : List X) (n i : ℕ) (x : X) → i ≤ n → insert (take n xs) i x ++ drop n xs ≡ insert xs i x
inserted_front xs zero zero x h = refl
inserted_front xs zero (suc i) x h = absurd (omega arith)
inserted_front xs (suc n) zero x h = ap (λ ys. x ∷ ys) (take-append-drop (suc n) xs)
inserted_front [] (suc n) (suc i) x h = refl
inserted_front (y ∷ xs) (suc n) (suc i) x h = ap (λ ys. y ∷ ys) (inserted_front xs n i x (omega arith))

-- and one that belongs behind it there
pub inserted_back : {X : Type 0} (xs : List X) (n i : ℕ) (x : X) → n ≤ i → n ≤ length xs → take n xs ++ insert (drop n xs) (i - n) x ≡ insert xs i x
inserted_back xs zero i x h k = let e : i - 0 ≡ i = omega arith in ap (λ j. insert xs j x) e
inserted_back xs (suc n) zero x h k = absurd (omega arith)
inserted_back [] (suc n) (suc i) x h k = absurd (omega arith)
inserted_back (y ∷ xs) (suc n) (suc i) x h k =
    let e : suc i - suc n ≡ i - n = omega arith in
    ap (λ j. y ∷ take n xs ++ insert (drop n xs) j x) e ∙ ap (λ ys. y ∷ ys) (inserted_back xs n i x (omega arith) (omega arith))

pub all_back : {X : Type 0} (P : X → Type 0) (l m : List X) → AllByRecursion P (l ++ m) → AllByRecursion P m
all_back P [] m h = h
all_back P (y ∷ l) m h = all_back P l m h.1

put_at_end : {X : Type 0} (p : X → Bool) (x : X) (b r : List X) → r ≡ [] → put_before p x (b ++ r) ≡ put_before p x b ++ r
put_at_end p x b r e = rw e (ap (put_before p x) (append-nil b) ∙ sym (append-nil (put_before p x b)))

-- an item that belongs into the midst of three parts
pub put_middle : {X : Type 0} (p : X → Bool) (x : X) (l b r : List X) → NonePasses p l → list_any p b ≡ true → put_before p x (l ++ (b ++ r)) ≡ l ++ (put_before p x b ++ r)
put_middle p x l b r n a = put_right p x l (b ++ r) n ∙ ap (λ ys. l ++ ys) (put_among p x b r a)

-- or behind the midst, where nothing is behind it
pub put_middle_end : {X : Type 0} (p : X → Bool) (x : X) (l b r : List X) → NonePasses p l → r ≡ [] → put_before p x (l ++ (b ++ r)) ≡ l ++ (put_before p x b ++ r)
put_middle_end p x l b r n e = put_right p x l (b ++ r) n ∙ ap (λ ys. l ++ ys) (put_at_end p x b r e)

-- or into the last
pub put_last : {X : Type 0} (p : X → Bool) (x : X) (l b r : List X) → NonePasses p l → NonePasses p b → put_before p x (l ++ (b ++ r)) ≡ l ++ (b ++ put_before p x r)
put_last p x l b r n m = put_right p x l (b ++ r) n ∙ ap (λ ys. l ++ ys) (put_right p x b r m)

length_at : {X : Type 0} (p : X → Bool) (x y : X) (ys : List X) (b : Bool) → length (put_before p x ys) ≡ suc (length ys) → length (cond b (x ∷ y ∷ ys) (y ∷ put_before p x ys)) ≡ suc (suc (length ys))
length_at p x y ys true h = refl
length_at p x y ys false h = ap suc h

-- one item more
pub length_put : {X : Type 0} (p : X → Bool) (x : X) (ys : List X) → length (put_before p x ys) ≡ suc (length ys)
length_put p x [] = refl
length_put p x (y ∷ ys) = length_at p x y ys (p y) (length_put p x ys)

pub place_le : {X : Type 0} (p : X → Bool) (xs : List X) → position_or_len p xs ≤ length xs
place_le p xs = prefix_len-le-length (λ y. not (p y)) xs

without_length_at : {X : Type 0} (p : X → Bool) (y : X) (ys : List X) (b : Bool) → (b || list_any p ys) ≡ true → (list_any p ys ≡ true → length (without_first p ys) + 1 ≡ length ys) → length (cond b ys (y ∷ without_first p ys)) + 1 ≡ suc (length ys)
without_length_at p y ys true h f = omega arith
without_length_at p y ys false h f = omega (arith, f h)

-- one item less
pub length_without : {X : Type 0} (p : X → Bool) (ys : List X) → list_any p ys ≡ true → length (without_first p ys) + 1 ≡ length ys
length_without p [] h = absurd (cc)
length_without p (y ∷ ys) h = without_length_at p y ys (p y) h (length_without p ys)

place_at : {X : Type 0} (p : X → Bool) (y : X) (ys : List X) (b : Bool) → (b || list_any p ys) ≡ true → (list_any p ys ≡ true → position_or_len p ys < length ys) → cond (not b) (1 + position_or_len p ys) 0 < suc (length ys)
place_at p y ys true h f = omega arith
place_at p y ys false h f = omega (arith, f h)

-- where some item passes, its place is among them
pub place_among : {X : Type 0} (p : X → Bool) (ys : List X) → list_any p ys ≡ true → position_or_len p ys < length ys
place_among p [] h = absurd (cc)
place_among p (y ∷ ys) h = place_at p y ys (p y) h (place_among p ys)

found_at : {X : Type 0} (p : X → Bool) (y : X) (ys : List X) (d : X) (b : Bool) → (b || list_any p ys) ≡ true → (list_any p ys ≡ true → find p ys ≡ Some (slice_index_or ys (position_or_len p ys) d)) → cond b (Some y) (find p ys) ≡ Some (slice_index_or (y ∷ ys) (cond (not b) (1 + position_or_len p ys) 0) d)
found_at p y ys d true h f = refl
found_at p y ys d false h f =
    let n : 1 + position_or_len p ys ≡ suc (position_or_len p ys) = omega arith in
    f h ∙ ap (λ i. Some (slice_index_or (y ∷ ys) i d)) (sym n)

-- and it stands there
pub found_at_place : {X : Type 0} (p : X → Bool) (ys : List X) (d : X) → list_any p ys ≡ true → find p ys ≡ Some (slice_index_or ys (position_or_len p ys) d)
found_at_place p [] d h = absurd (cc)
found_at_place p (y ∷ ys) d h = found_at p y ys d (p y) h (found_at_place p ys d)

-- of a list xs in three parts: the first that passes goes from the last part
pub without_last : {X : Type 0} (p : X → Bool) (xs l b r : List X) → xs ≡ l ++ (b ++ r) → NonePasses p l → NonePasses p b → without_first p xs ≡ l ++ (b ++ without_first p r)
without_last p xs l b r is n m = ap (without_first p) is ∙ (without_right p l (b ++ r) n ∙ ap (λ ys. l ++ ys) (without_right p b r m))

-- from the first part
pub without_left : {X : Type 0} (p : X → Bool) (xs l b r : List X) → xs ≡ l ++ (b ++ r) → list_any p l ≡ true → without_first p xs ≡ without_first p l ++ (b ++ r)
without_left p xs l b r is a = ap (without_first p) is ∙ without_among p l (b ++ r) a

-- from the midst
pub without_middle : {X : Type 0} (p : X → Bool) (xs l b r : List X) → xs ≡ l ++ (b ++ r) → NonePasses p l → list_any p b ≡ true → without_first p xs ≡ l ++ (without_first p b ++ r)
without_middle p xs l b r is n a = ap (without_first p) is ∙ (without_right p l (b ++ r) n ∙ ap (λ ys. l ++ ys) (without_among p b r a))

with_at : {X : Type 0} (p : X → Bool) (x y : X) (ys : List X) (b : Bool) (n : ℕ) → slice_set ys n x ≡ with_first p x ys → slice_set (y ∷ ys) (cond (not b) (1 + n) 0) x ≡ cond b (x ∷ ys) (y ∷ with_first p x ys)
with_at p x y ys true n h = refl
with_at p x y ys false n h =
    let m : 1 + n ≡ suc n = omega arith in
    ap (λ k. slice_set (y ∷ ys) k x) m ∙ ap (λ zs. y ∷ zs) h

-- another item goes where the first that passes stands
pub with_at_place : {X : Type 0} (p : X → Bool) (x : X) (ys : List X) → slice_set ys (position_or_len p ys) x ≡ with_first p x ys
with_at_place p x [] = refl
with_at_place p x (y ∷ ys) = with_at p x y ys (p y) (position_or_len p ys) (with_at_place p x ys)

-- where none of l passes, behind it
pub with_right : {X : Type 0} (p : X → Bool) (x : X) (l m : List X) → NonePasses p l → with_first p x (l ++ m) ≡ l ++ with_first p x m
with_right p x [] m h = refl
with_right p x (z ∷ l) m h = ap (λ b. cond b (x ∷ (l ++ m)) (z ∷ with_first p x (l ++ m))) h.0 ∙ ap (λ ys. z ∷ ys) (with_right p x l m h.1)

with_among_at : {X : Type 0} (p : X → Bool) (x z : X) (l m : List X) (b : Bool) → (b || list_any p l) ≡ true → (list_any p l ≡ true → with_first p x (l ++ m) ≡ with_first p x l ++ m) → cond b (x ∷ (l ++ m)) (z ∷ with_first p x (l ++ m)) ≡ cond b (x ∷ l) (z ∷ with_first p x l) ++ m
with_among_at p x z l m true h f = refl
with_among_at p x z l m false h f = ap (λ ys. z ∷ ys) (f h)

-- where some item of l passes, into l
pub with_among : {X : Type 0} (p : X → Bool) (x : X) (l m : List X) → list_any p l ≡ true → with_first p x (l ++ m) ≡ with_first p x l ++ m
with_among p x [] m h = absurd (cc)
with_among p x (z ∷ l) m h = with_among_at p x z l m (p z) h (with_among p x l m)

-- of a list xs in three parts: another item goes into the last part
pub with_last : {X : Type 0} (p : X → Bool) (x : X) (xs l b r : List X) → xs ≡ l ++ (b ++ r) → NonePasses p l → NonePasses p b → with_first p x xs ≡ l ++ (b ++ with_first p x r)
with_last p x xs l b r is n m = ap (with_first p x) is ∙ (with_right p x l (b ++ r) n ∙ ap (λ ys. l ++ ys) (with_right p x b r m))

-- into the first part
pub with_left : {X : Type 0} (p : X → Bool) (x : X) (xs l b r : List X) → xs ≡ l ++ (b ++ r) → list_any p l ≡ true → with_first p x xs ≡ with_first p x l ++ (b ++ r)
with_left p x xs l b r is a = ap (with_first p x) is ∙ with_among p x l (b ++ r) a

-- into the midst
pub with_middle : {X : Type 0} (p : X → Bool) (x : X) (xs l b r : List X) → xs ≡ l ++ (b ++ r) → NonePasses p l → list_any p b ≡ true → with_first p x xs ≡ l ++ (with_first p x b ++ r)
with_middle p x xs l b r is n a = ap (with_first p x) is ∙ (with_right p x l (b ++ r) n ∙ ap (λ ys. l ++ ys) (with_among p x b r a))

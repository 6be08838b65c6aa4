-- Facts on lists and tests.
use Rattle.std.proofs.Common.{◌≡◌, ◌≢◌, ℕ, suc, ◌-◌, ◌<◌, Bool, true, false, cond, ◌||◌, Option, Some, None, List, [], ◌∷◌, ◌++◌, length, slice_index_or, refl, sym, ap, ◌∙◌, arith}
use Rattle.std.specs.List.{find, last_or, list_any, position_or_len, slice_get}
use Rattle.std.specs.Option.{option_or}
use Rattle.std.proofs.lemmas.List.{length-append}
use Rattle.std.proofs.lemmas.List.Folds.{find-append, find_at}
use Rattle.std.proofs.lemmas.Option.{slice_get-get_or, slice_get_past}
use Rattle.summary_tree.specs.Contents.{Contents}
use Rattle.summary_tree.specs.Cuts.{last_passes, with_first, without_first}

none_found_at : {X : Type 0} (p : X → Bool) (x : X) (xs : List X) (b : Bool) → (b || list_any p xs) ≡ false → (list_any p xs ≡ false → find p xs ≡ None) → cond b (Some x) (find p xs) ≡ None
none_found_at p x xs true h f = absurd (cc)
none_found_at p x xs false h f = f h

-- where no item passes, none is found
pub none_found : {X : Type 0} (p : X → Bool) (xs : List X) → list_any p xs ≡ false → find p xs ≡ None
none_found p [] h = refl
none_found p (x ∷ xs) h = none_found_at p x xs (p x) h (none_found p xs)

-- of a list xs that is split into l, b and r: the first that passes stands in l
pub found_left : {X : Type 0} (p : X → Bool) (xs l b r : List X) (y : X) → xs ≡ l ++ (b ++ r) → find p l ≡ Some y → find p xs ≡ Some y
found_left p xs l b r y is h = ap (find p) is ∙ (find-append p l (b ++ r) ∙ ap (λ o. option_or o (find p (b ++ r))) h)

-- it stands in b
pub found_here : {X : Type 0} (p : X → Bool) (xs l b r : List X) (y : X) → xs ≡ l ++ (b ++ r) → find p l ≡ None → find p b ≡ Some y → find p xs ≡ Some y
found_here p xs l b r y is h e = ap (find p) is ∙ (find-append p l (b ++ r) ∙ (ap (λ o. option_or o (find p (b ++ r))) h ∙ (find-append p b r ∙ ap (λ o. option_or o (find p r)) e)))

-- it stands in r, if anywhere
pub found_right : {X : Type 0} (p : X → Bool) (xs l b r : List X) → xs ≡ l ++ (b ++ r) → find p l ≡ None → find p b ≡ None → find p xs ≡ find p r
found_right p xs l b r is h e = ap (find p) is ∙ (find-append p l (b ++ r) ∙ (ap (λ o. option_or o (find p (b ++ r))) h ∙ (find-append p b r ∙ ap (λ o. option_or o (find p r)) e)))

among_at : {X : Type 0} (p : X → Bool) (x : X) (b r : List X) (c : Bool) → (c || list_any p b) ≡ true → (list_any p b ≡ true → find p (b ++ r) ≡ find p b) → cond c (Some x) (find p (b ++ r)) ≡ cond c (Some x) (find p b)
among_at p x b r true h f = refl
among_at p x b r false h f = f h

among : {X : Type 0} (p : X → Bool) (b r : List X) → list_any p b ≡ true → find p (b ++ r) ≡ find p b
among p [] r h = absurd (cc)
among p (x ∷ b) r h = among_at p x b r (p x) h (among p b r)

-- where some item of b passes, and none of l, the first stands in b
pub found_among : {X : Type 0} (p : X → Bool) (xs l b r : List X) → xs ≡ l ++ (b ++ r) → find p l ≡ None → list_any p b ≡ true → find p xs ≡ find p b
found_among p xs l b r is h a = ap (find p) is ∙ (find-append p l (b ++ r) ∙ (ap (λ o. option_or o (find p (b ++ r))) h ∙ among p b r a))

no_item : {X : Type 0} (xs : List X) → length xs ≡ 0 → xs ≡ []
no_item [] h = refl
no_item (x ∷ xs) h = absurd (omega arith)

-- where a block and the rest are one item, the rest is none
pub rest_is_none : {X : Type 0} (xs block rest : List X) → length xs ≡ 1 → 0 < length block → xs ≡ block ++ rest → rest ≡ []
rest_is_none xs [] rest one b e = absurd (omega arith)
rest_is_none xs (y ∷ ys) rest one b e = no_item rest (let f : length xs ≡ length ((y ∷ ys) ++ rest) = ap length e in omega (arith, f, length-append (y ∷ ys) rest))

only_at : {X : Type 0} (b : Bool) (y x : X) → cond b (Some y) None ≡ Some x → cond b [] (y ∷ []) ≡ []
only_at true y x h = refl
only_at false y x h = absurd (cc)

-- where the only item passes, none is left
pub only_taken : {X : Type 0} (p : X → Bool) (xs : List X) (x : X) → length xs ≡ 1 → find p xs ≡ Some x → without_first p xs ≡ []
only_taken p [] x one h = absurd (omega arith)
only_taken p (y ∷ []) x one h = only_at (p y) y x h
only_taken p (y ∷ z ∷ zs) x one h = absurd (omega arith)

stays_at : {X : Type 0} (b : Bool) (y : X) (ys rest : List X) (found : Option X) → cond b (Some y) found ≡ None → (found ≡ None → rest ≡ ys) → cond b ys (y ∷ rest) ≡ y ∷ ys
stays_at true y ys rest found h f = absurd (cc)
stays_at false y ys rest found h f = ap (λ zs. y ∷ zs) (f h)

-- where none passes, all stay
pub all_stay : {X : Type 0} (p : X → Bool) (xs : List X) → find p xs ≡ None → without_first p xs ≡ xs
all_stay p [] h = refl
all_stay p (y ∷ ys) h = stays_at (p y) y ys (without_first p ys) (find p ys) h (all_stay p ys)

kept_at : {X : Type 0} (b : Bool) (x y : X) (ys rest : List X) (found : Option X) → cond b (Some y) found ≡ None → (found ≡ None → rest ≡ ys) → cond b (x ∷ ys) (y ∷ rest) ≡ y ∷ ys
kept_at true x y ys rest found h f = absurd (cc)
kept_at false x y ys rest found h f = ap (λ zs. y ∷ zs) (f h)

-- and none is replaced
pub all_kept : {X : Type 0} (p : X → Bool) (x : X) (xs : List X) → find p xs ≡ None → with_first p x xs ≡ xs
all_kept p x [] h = refl
all_kept p x (y ∷ ys) h = kept_at (p y) x y ys (with_first p x ys) (find p ys) h (all_kept p x ys)

-- so it is where the place is the end
pub none_at_end : {X : Type 0} (p : X → Bool) (xs : List X) → position_or_len p xs ≡ length xs → find p xs ≡ None
none_at_end p xs end = find_at p xs ∙ slice_get_past xs (position_or_len p xs) (omega (arith, end))

-- elsewhere it is that of the first that passes
pub found_at : {X : Type 0} (p : X → Bool) (xs : List X) (n : ℕ) (x : X) → n ≡ position_or_len p xs → n < length xs → x ≡ slice_index_or xs n x → Some x ≡ find p xs
found_at p xs n x at within is = sym (find_at p xs ∙ (ap (slice_get xs) (sym at) ∙ (slice_get-get_or xs n x within ∙ ap Some (sym is))))

-- the items of what a tree stands for
abbrev pub items_in : {X : Type 0} → Contents X → List X
items_in contents = contents.items

-- the item that stands at the end is the last
pub last_there : {X : Type 0} (o : Option X) (x : X) (xs : List X) → slice_get (x ∷ xs) (length xs) ≡ last_or o (x ∷ xs)
last_there o x [] = refl
last_there o x (y ∷ xs) = last_there (Some x) y xs

-- nothing stands there where there is no item
pub last_got : {X : Type 0} (xs : List X) → slice_get xs (length xs - 1) ≡ last_or None xs
last_got [] = refl
last_got (x ∷ xs) =
    let n : suc (length xs) - 1 ≡ length xs = omega arith in
    ap (λ i. slice_get (x ∷ xs) i) n ∙ last_there None x xs

-- the last of two lists
pub last_append : {X : Type 0} (o : Option X) (xs ys : List X) → last_or o (xs ++ ys) ≡ last_or (last_or o xs) ys
last_append o [] ys = refl
last_append o (x ∷ xs) ys = last_append (Some x) xs ys

-- the last of some items, whatever would be told of none
last_of_some : {X : Type 0} (o : Option X) (ys : List X) (y : X) → last_or None ys ≡ Some y → last_or o ys ≡ Some y
last_of_some o [] y h = absurd (let no : None ≡ Some y = h in cc)
last_of_some o (x ∷ ys) y h = h

some_last : {X : Type 0} (x : X) (ys : List X) → last_or (Some x) ys ≢ None
some_last x [] h = absurd (let no : Some x ≡ None = h in cc)
some_last x (y ∷ ys) h = some_last y ys h

-- where there is no last item, there is none
no_last : {X : Type 0} (ys : List X) → last_or None ys ≡ None → ys ≡ []
no_last [] h = refl
no_last (x ∷ ys) h = absurd (some_last x ys h)

-- of a list xs that is split into l, b and r: the last stands in r
pub last_right : {X : Type 0} (xs l b r : List X) (y : X) → xs ≡ l ++ (b ++ r) → last_or None r ≡ Some y → last_or None xs ≡ Some y
last_right xs l b r y is h =
    ap (last_or None) is ∙ last_append None l (b ++ r) ∙ last_append (last_or None l) b r ∙ last_of_some (last_or (last_or None l) b) r y h

-- the last of some items, whatever else would be told
pub last_any : {X : Type 0} (o : Option X) (ys : List X) → 0 < length ys → last_or o ys ≡ last_or None ys
last_any o [] h = absurd (omega arith)
last_any o (x ∷ ys) h = refl

-- it stands in b where r has none
pub last_here : {X : Type 0} (xs l b r : List X) → xs ≡ l ++ (b ++ r) → last_or None r ≡ None → 0 < length b → last_or None xs ≡ last_or None b
last_here xs l b r is h some =
    ap (last_or None) is ∙ last_append None l (b ++ r) ∙ last_append (last_or None l) b r ∙ ap (last_or (last_or (last_or None l) b)) (no_last r h) ∙ last_any (last_or None l) b some

last_told_at : {X : Type 0} (p : X → Bool) (x : X) (xs : List X) (y : X) → last_or (Some x) xs ≡ Some y → p y ≡ last_passes p (x ∷ xs)
last_told_at p x [] y h = let e : Some x ≡ Some y = h in cc
last_told_at p x (z ∷ xs) y h = last_told_at p z xs y h

-- the last passes where it is said to
pub last_told : {X : Type 0} (p : X → Bool) (xs : List X) (y : X) → last_or None xs ≡ Some y → p y ≡ last_passes p xs
last_told p [] y h = absurd (let no : None ≡ Some y = h in cc)
last_told p (x ∷ xs) y h = last_told_at p x xs y h

-- and none does where there is no last
pub none_told : {X : Type 0} (p : X → Bool) (xs : List X) → last_or None xs ≡ None → false ≡ last_passes p xs
none_told p xs h = ap (last_passes p) (sym (no_last xs h))

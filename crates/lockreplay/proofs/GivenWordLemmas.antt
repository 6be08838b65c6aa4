-- Where a flag stands among the words of a command line: for `given_words`.
use Rattle.std.proofs.Common.{◌≡◌, ℕ, ◌+◌, ◌<◌, ap₂, ◌∙◌, sym, ap, refl, List, [], ◌∷◌, ◌++◌, append_assoc, arith, get_or, map, take, drop, length, true, false, codes, slice_index_or}
use Rattle.std.specs.Str.{bytes_eq}
use Rattle.std.proofs.lemmas.List.{drop-map, drop_more, get_or-map, length-map, map-append, take-append-drop, take-map, take_more}
use Rattle.clap.specs.Words.{Text}
use Rattle.lockreplay.specs.GivenWords.{IsPlaceOf, asks_for, has_word, without_flag, without_word}

-- a place of a list is one of its words
pub within_map : {S : Type 0} (f : S → Text) (xs : List S) (i : ℕ) → i < length xs → i < length (map f xs)
within_map f xs i before = omega (arith, length-map xs f)

-- the word at a place
pub word_is : {S : Type 0} (f : S → Text) (xs : List S) (i : ℕ) (x : S) → i < length xs → x ≡ slice_index_or xs i x → f x ≡ get_or (map f xs) i (f x)
word_is f xs i x before at = sym (get_or-map f xs i x (f x) before ∙ ap f (sym at))

-- it is the first of what is left there
pub word_at : {S : Type 0} (f : S → Text) (xs : List S) (i : ℕ) (x : S) → i < length xs → x ≡ slice_index_or xs i x
    → drop i (map f xs) ≡ f x ∷ drop (i + 1) (map f xs)
word_at f xs i x before at =
    drop_more (map f xs) i (f x) (within_map f xs i before) ∙ ap (λ w. w ∷ drop (i + 1) (map f xs)) (sym (word_is f xs i x before at))

-- what is kept while the words behind the program's name are looked through: nothing that was passed over is the flag or `--`
abbrev pub ArePassed : Text → List Text → ℕ → Type 0
ArePassed flag words i = (asks_for flag words ≡ has_word flag (drop i words)) × (without_flag flag words ≡ take i words ++ without_word flag (drop i words))

-- a word before which nothing is left to look at
has_no_more : (flag word : Text) (rest : List Text) → bytes_eq word (codes "--") ≡ true → has_word flag (word ∷ rest) ≡ false
has_no_more flag word rest is = rw is refl

keeps_all : (flag word : Text) (rest : List Text) → bytes_eq word (codes "--") ≡ true → without_word flag (word ∷ rest) ≡ word ∷ rest
keeps_all flag word rest is = rw is refl

has_it : (flag word : Text) (rest : List Text) → bytes_eq word (codes "--") ≡ false → bytes_eq word flag ≡ true → has_word flag (word ∷ rest) ≡ true
has_it flag word rest goes_on is = rw goes_on (rw is refl)

loses_it : (flag word : Text) (rest : List Text) → bytes_eq word (codes "--") ≡ false → bytes_eq word flag ≡ true → without_word flag (word ∷ rest) ≡ rest
loses_it flag word rest goes_on is = rw goes_on (rw is refl)

has_later : (flag word : Text) (rest : List Text) → bytes_eq word (codes "--") ≡ false → bytes_eq word flag ≡ false
    → has_word flag (word ∷ rest) ≡ has_word flag rest
has_later flag word rest goes_on other = rw goes_on (rw other refl)

keeps_word : (flag word : Text) (rest : List Text) → bytes_eq word (codes "--") ≡ false → bytes_eq word flag ≡ false
    → without_word flag (word ∷ rest) ≡ word ∷ without_word flag rest
keeps_word flag word rest goes_on other = rw goes_on (rw other refl)

-- at `--` the search ends
pub ends : (flag : Text) (words : List Text) (i : ℕ) (word : Text) → ArePassed flag words i → drop i words ≡ word ∷ drop (i + 1) words
    → bytes_eq word (codes "--") ≡ true → (asks_for flag words ≡ false) × (without_flag flag words ≡ words)
ends flag words i word passed at is = (
  passed.0 ∙ ap (has_word flag) at ∙ has_no_more flag word (drop (i + 1) words) is,
  passed.1 ∙ ap (λ rest. take i words ++ rest) (ap (without_word flag) at ∙ keeps_all flag word (drop (i + 1) words) is ∙ sym at)
      ∙ take-append-drop i words,
)

-- the flag is found
pub found : (flag : Text) (words : List Text) (i : ℕ) (word : Text) → i < length words → ArePassed flag words i → drop i words ≡ word ∷ drop (i + 1) words
    → bytes_eq word (codes "--") ≡ false → bytes_eq word flag ≡ true → IsPlaceOf flag words i
found flag words i word within passed at goes_on is = (
  within,
  passed.0 ∙ ap (has_word flag) at ∙ has_it flag word (drop (i + 1) words) goes_on is,
  passed.1 ∙ ap (λ rest. take i words ++ rest) (ap (without_word flag) at ∙ loses_it flag word (drop (i + 1) words) goes_on is),
)

-- any other word is passed
pub passes : (flag : Text) (words : List Text) (i : ℕ) (word : Text) → i < length words → word ≡ get_or words i word → ArePassed flag words i
    → drop i words ≡ word ∷ drop (i + 1) words → bytes_eq word (codes "--") ≡ false → bytes_eq word flag ≡ false → ArePassed flag words (i + 1)
passes flag words i word within is passed at goes_on other = (
  passed.0 ∙ ap (has_word flag) at ∙ has_later flag word (drop (i + 1) words) goes_on other,
  passed.1 ∙ ap (λ rest. take i words ++ rest) (ap (without_word flag) at ∙ keeps_word flag word (drop (i + 1) words) goes_on other)
      ∙ sym (append_assoc (take i words) (word ∷ []) (without_word flag (drop (i + 1) words)))
      ∙ ap (λ front. front ++ without_word flag (drop (i + 1) words)) (sym (take_more words i word within ∙ ap (λ w. take i words ++ w ∷ []) (sym is))),
)

-- without the word at its place
pub left_by : {S : Type 0} (f : S → Text) (xs ys : List S) (flag : Text) (i : ℕ) → IsPlaceOf flag (map f xs) i → ys ≡ take i xs ++ drop (i + 1) xs
    → map f ys ≡ without_flag flag (map f xs)
left_by f xs ys flag i place is = ap (map f) is ∙ map-append f (take i xs) (drop (i + 1) xs) ∙ ap₂ (λ front rest. front ++ rest) (sym (take-map f i xs)) (sym (drop-map f (i + 1) xs)) ∙ sym place.2

-- The places of words and of faults: for `tokens` and `told_of`.
use Rattle.std.proofs.Common.{◌≡◌, ◌≢◌, ℕ, ◌-◌, ◌<◌, ◌≤◌, ◌⊎◌, Bool, true, List, [], ◌∷◌, ◌++◌, All, length, get_or, inl, inr, refl, sym, subst, arith}
use Rattle.std.proofs.Math.Nat.{eq-or-lt_of_le}
use Rattle.std.proofs.lemmas.Grind.{common_steps}
use Rattle.std.proofs.lemmas.List.Elements.{All-append}
use Rattle.script_core.specs.declared.script.Cause.{Cause}
use Rattle.script_core.specs.declared.script.Cause.TheVariants.{Byte, Word, Count, Number, Process, TooLong, Memory, Tag}
use Rattle.diagnosis.specs.declared.language.Language.{Language}
use Rattle.diagnosis.specs.declared.tokens.Token.{Token}
use Rattle.diagnosis.specs.Places.{BeginsWord, IsOfWord, IsPlaceOf, has_bars}

-- in front of the place is a space, or the word in front ends there
front_of : (bars : Bool) (line : List ℕ) (end place : ℕ) → (end ≡ place) ⊎ (end < place)
    → get_or line place 0 ≢ 32 → (end < place → get_or line (place - 1) 0 ≡ 32)
    → (get_or line end 0 ≢ 32 → (bars ≡ true) × (get_or line end 0 ≢ 124 → get_or line (end - 1) 0 ≡ 124))
    → (bars ≡ true → (get_or line place 0 ≢ 124) × (get_or line (place - 1) 0 ≢ 124)) → get_or line (place - 1) 0 ≡ 32
front_of bars line end place (inr before) no_space spaces ends unless = spaces before
front_of bars line end place (inl same) no_space spaces ends unless =
    let no_space_at : get_or line end 0 ≢ 32 = subst (λ at. get_or line at 0 ≢ 32) (sym same) no_space in
    let parted = ends no_space_at in
    let others = unless parted.0 in
    let no_bar_at : get_or line end 0 ≢ 124 = subst (λ at. get_or line at 0 ≢ 124) (sym same) others.0 in
    absurd (others.1 (subst (λ at. get_or line (at - 1) 0 ≡ 124) same (parted.1 no_bar_at)))

-- a word begins where the spaces end behind another
pub begins_behind : (bars : Bool) (line : List ℕ) (end place : ℕ) → end ≤ place → place < length line
    → get_or line place 0 ≢ 32 → (end < place → get_or line (place - 1) 0 ≡ 32)
    → (end < length line → get_or line end 0 ≢ 32 → (bars ≡ true) × (get_or line end 0 ≢ 124 → get_or line (end - 1) 0 ≡ 124))
    → BeginsWord bars line place
begins_behind bars line end place after within no_space spaces ends = record {
  within = within;
  is_no_space = no_space;
  behind_a_space = λ positive unless. front_of bars line end place (eq-or-lt_of_le after) no_space spaces (ends (omega arith)) unless;
}

-- what holds of one value holds of each of a list of it
All-one : {X : Type 0} (P : X → Type 0) (value : X) → P value → All P (value ∷ [])
All-one P value of = grind (arith, common_steps)

-- one word more, which begins there
pub more_words : (bars : Bool) (line : List ℕ) (tokens more : List Token) (token : Token) → more ≡ tokens ++ token ∷ []
    → BeginsWord bars line token.start → All (λ word. BeginsWord bars line word.start) tokens → All (λ word. BeginsWord bars line word.start) more
more_words bars line tokens more token is begins words =
    let P : Token → Type 0 = λ word. BeginsWord bars line word.start in
    subst (λ (list : List Token). All P list) (sym is) (All-append P tokens (token ∷ []) words (All-one P token begins))

-- the place of a word is one of a fault of words
pub place_of_word : (language : Language) (cause : Cause) (line : List ℕ) (place : ℕ) → cause ≢ TooLong → cause ≢ Byte
    → IsOfWord (has_bars language) line place → IsPlaceOf language cause line place
place_of_word language TooLong line place no_long no_byte of = absurd (no_long refl)
place_of_word language Byte line place no_long no_byte of = absurd (no_byte refl)
place_of_word language Word line place no_long no_byte of = of
place_of_word language Count line place no_long no_byte of = of
place_of_word language Number line place no_long no_byte of = of
place_of_word language Process line place no_long no_byte of = of
place_of_word language (Memory memory) line place no_long no_byte of = of
place_of_word language Tag line place no_long no_byte of = of

-- the place of a fault is in its line, or behind it
pub place_within : (language : Language) (cause : Cause) (line : List ℕ) (place : ℕ) → IsPlaceOf language cause line place → place ≤ length line
place_within language TooLong line place of = omega (arith, of)
place_within language Byte line place of = of.within
place_within language Word line place of = of.within
place_within language Count line place of = of.within
place_within language Number line place of = of.within
place_within language Process line place of = of.within
place_within language (Memory memory) line place of = of.within
place_within language Tag line place of = of.within

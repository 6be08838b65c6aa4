-- Words that spell numbers: for `integer_of`, `natural_of`, `read_descriptor` and others.
use Rattle.script_core.proofs.Common.{rules, ◌≡◌, ◌≢◌, ◌∙◌, ℕ, ◌<◌, ◌≤◌, ◌^◌, ◌==◌, false, cond, List, [], ◌∷◌, length, get_or, codes, decimal, Option, None, Result, Ok, Err, MatchOption, ℤ, pos, FitsSigned, refl, sym, ap, arith, common_steps, digits, signed_decimal, nat_tests, decimal_is_IsNumeral, decimal_injective}
use Rattle.std.proofs.Common.{◌-ℤ◌, neg_ℤ}
use Rattle.std.specs.Option.{SomeIff}
use Rattle.std.specs.Result.{OkIff, result_ok}
use Rattle.std.specs.Int.{w64}
use Rattle.std.specs.Str.Parse.{AllDigits, digits_value, ParsesUnsigned}
use Rattle.std.proofs.lemmas.Str.Parse.{IsNumeralModel, numerals_by_value, tells_digits, digit_at, parse_plain}
use Rattle.std.proofs.lemmas.Int.{ints}
use Rattle.script_core.specs.Numbers.{BeginsPlainly}
use Rattle.std.proofs.lemmas.Fmt.{decimal-digits_value, first_decimal, parse-decimal}

pub digits_model : IsNumeralModel (AllDigits 10) (digits_value 10)
digits_model = numerals_by_value (AllDigits 10) tells_digits

first_of_zero : (1 < length (decimal 0)) → 48 < get_or (decimal 0) 0 0
unfolding digits
first_of_zero h = omega (arith, h)

pub BeginsPlainly-decimal : (n : ℕ) → n < 2 ^ 64 → BeginsPlainly (decimal n)
BeginsPlainly-decimal n small = grind (arith, common_steps, decimal_is_IsNumeral, digit_at, first_of_zero, first_decimal)

plain_zero : (bs : List ℕ) → BeginsPlainly bs → 0 < length bs → get_or bs 0 0 ≡ 48 → length bs ≡ 1
plain_zero bs plain some e = grind (arith, plain.no_leading_zero)

pub natural_from_parse : {E : Type 0} (bs : List ℕ) (r : Result ℕ E) → BeginsPlainly bs → ParsesUnsigned 64 10 bs r
    → MatchOption (result_ok r) ((n : ℕ) → n < 2 ^ 64 → bs ≢ decimal n) (λ n. bs ≡ decimal n)
natural_from_parse {E} bs (Ok x) plain parses =
    let unsigned : get_or bs 0 0 ≢ 43 = λ e. omega (arith, e, plain.at_least) in
    let given = parse_plain digits_model {E = E} 64 bs (Ok x) parses unsigned in
    let spelled = decimal-digits_value digits_model bs given.0.0 given.0.1 (plain_zero bs plain given.0.1) given.0.2 in
    sym spelled ∙ ap decimal (sym given.1)
natural_from_parse bs (Err e) plain parses = λ n small spelled. let same = parse-decimal 64 n bs (Err e) small small spelled parses in cc

-- what is told of a word that is read as a number of 64 bits
abbrev pub IsIntegerOf : List ℕ → Option ℤ → Type 0
IsIntegerOf word r = MatchOption r ((z : ℤ) → FitsSigned w64 z → word ≢ signed_decimal z) (λ z. word ≡ signed_decimal z)

-- a natural number begins with no minus sign
no_minus : (n : ℕ) (rest : List ℕ) → n < 2 ^ 63 → 45 ∷ rest ≡ decimal n → ⊥
no_minus n rest small e =
    let plain = BeginsPlainly-decimal n (omega arith) in
    let first : 45 ≡ get_or (decimal n) 0 0 = ap (λ word. get_or word 0 0) e in
    omega (arith, first, plain.at_least)

pub unsigned_none : (word : List ℕ) → ((rest : List ℕ) → word ≢ 45 ∷ rest) → ((n : ℕ) → n < 2 ^ 64 → word ≢ decimal n) → IsIntegerOf word None
unsigned_none word sign none h3 fits = grind (arith, common_steps)

pub unsigned_some : {E : Type 0} (word : List ℕ) (n : ℕ) (r : Result ℤ E) → ((rest : List ℕ) → word ≢ 45 ∷ rest) → n < 2 ^ 64 → word ≡ decimal n
    → OkIff r (FitsSigned w64 (pos n)) (pos n) → IsIntegerOf word (result_ok r)
unsigned_some word n r h h2 h3 h4 = grind (arith, common_steps, decimal_injective)

pub signed_none : (word digits : List ℕ) → word ≡ 45 ∷ digits → ((n : ℕ) → n < 2 ^ 64 → digits ≢ decimal n) → IsIntegerOf word None
signed_none word digits split none h3 fits is = grind (arith, common_steps, no_minus)

pub signed_zero : (word digits : List ℕ) → word ≡ 45 ∷ digits → digits ≡ decimal 0 → IsIntegerOf word None
signed_zero word digits h h2 h3 h4 h5 = grind (arith, common_steps, no_minus, decimal_injective)

pub signed_some : (word digits : List ℕ) (n : ℕ) (r : Option ℤ) → word ≡ 45 ∷ digits → n < 2 ^ 64 → (n ≡ 0 → ⊥) → digits ≡ decimal n
    → SomeIff r (FitsSigned w64 (pos 0 -ℤ pos n)) (pos 0 -ℤ pos n) → IsIntegerOf word r
signed_some word digits n r h h2 h3 h4 h5 = grind (arith, common_steps, ints, no_minus, decimal_injective)

-- a word spells one natural number
pub one_number : (word : List ℕ) (m n : ℕ) → word ≡ decimal m → word ≡ decimal n → m < 2 ^ 64 → n < 2 ^ 64 → m ≡ n
one_number word m n first second small fits = decimal_injective m n small fits (sym first ∙ second)

-- the number that a text is the spelling of
pub number_in : List ℕ → ℤ
number_in [] = pos 0
number_in (byte ∷ bytes) = cond (byte == 45) (neg_ℤ (pos (digits_value 10 bytes))) (pos (digits_value 10 (byte ∷ bytes)))

pub digits_value-spelled : (n : ℕ) → n < 2 ^ 64 → digits_value 10 (decimal n) ≡ n
digits_value-spelled n small = (decimal_is_IsNumeral n small).1

no_sign : (byte : ℕ) → 48 ≤ byte → (byte == 45) ≡ false
no_sign byte digit = grind (arith, nat_tests)

number_in-plain : (bytes : List ℕ) → 48 ≤ get_or bytes 0 0 → number_in bytes ≡ pos (digits_value 10 bytes)
unfolding number_in
number_in-plain bytes digit = grind (arith, common_steps, no_sign)

pub number_in-zero : number_in (codes "0") ≡ pos 0
unfolding number_in
number_in-zero = refl

pub number_in-spelled : (z : ℤ) → FitsSigned w64 z → number_in (signed_decimal z) ≡ z
unfolding number_in
number_in-spelled z h = search (rules, number_in-plain, BeginsPlainly-decimal, digits_value-spelled)

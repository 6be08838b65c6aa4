-- A line's first words: what they say, the whole line says; for `parse_text` and `Place::parse_head`.
use Rattle.script_core.proofs.Common.{common_steps, ◌≡◌, ℕ, ◌+◌, ◌<◌, ◌≤◌, Bool, true, false, Option, Some, None, IfSome, MatchOption, MatchResult, Result, Ok, Err, List, [], ◌∷◌, length, take, subst, inl, inr, arith, ⊎_elim, MatchBool, bytes_eq, cases_lt, length-take-le, take_all}
use Rattle.script_core.proofs.Common.{Limits, Request, Header, Line, Cause, Word, Argument, Command, AreRefused, command_named, has_count, Reading, CommandGives, RequestGives, ProcessGives, WordsGive, AreSkipped, is_comment, is_empty, limits_of}
use Rattle.std.proofs.Common.{find}
use Rattle.std.specs.List.{AllByRecursion as Each}
use Rattle.script_core.specs.declared.line.Line.TheVariants as lines
use Rattle.script_core.specs.Arguments.{commands}
use Rattle.script_core.specs.HeaderReading.{ValueGives, HeaderGives}

-- one of two facts for another
pub MatchBool-map : (b : Bool) (P Q P' Q' : Type 0) → (P → P') → (Q → Q') → MatchBool b P Q → MatchBool b P' Q'
MatchBool-map b P Q P' Q' f g h = grind (arith, common_steps)

-- of words that are too many for a header line, others that are say the same
many_refused : (argument : Argument) (words others : List (List ℕ)) (cause : Cause) → 1 < length words → 1 < length others
    → AreRefused (argument ∷ []) words cause → AreRefused (argument ∷ []) others cause
many_refused argument words others cause many more refused = grind (arith, common_steps)

many_values : {A B : Type 0} (argument : Argument) (word : A → List ℕ) (said : A → B) (words others : List (List ℕ)) (result : Result B Cause)
    → 1 < length words → 1 < length others → ValueGives argument word said words result → ValueGives argument word said others result
many_values argument word said words others result many more h3 = grind (arith, common_steps, many_refused)

-- where that passes from another line to one with others
pub many_header : {B : Type 0} (header : Header) (at_top : Bool) (said : Header → B) (first : List ℕ) (words others : List (List ℕ)) (P Q : Type 0)
    → (result : Result B Cause) → 1 < length words → 1 < length others → (P → Q)
    → HeaderGives header at_top said first words P result → HeaderGives header at_top said first others Q result
many_header header at_top said first words others P Q result many more f given = grind (arith, common_steps, many_values)

-- what comes of words that were tried as a header line: what the header lines say then, what holds of another line, or a refusal
abbrev ComesOf : {B : Type 0} → (Header → B) → Type 0 → Result B Cause → Result (Option Header) Cause → Type 0
ComesOf {B} said Other result tried = MatchResult tried (λ found. MatchOption found Other (λ header. result ≡ Ok (said header))) (λ cause. result ≡ Err cause)

-- so it is as the header lines give
pub header_gives : {B : Type 0} (header : Header) (at_top : Bool) (said : Header → B) (first : List ℕ) (rest : List (List ℕ)) (Other : Type 0)
    → (tried : Result (Option Header) Cause) (result : Result B Cause) → HeaderGives header at_top (λ more. Some more) first rest (tried ≡ Ok None) tried
    → ComesOf said Other result tried → HeaderGives header at_top said first rest Other result
header_gives header at_top said first rest Other tried result given comes = grind (arith, common_steps)

-- what is so where the words are refused, are a header line, or are another line, is so
pub header_cases : {B : Type 0} (header : Header) (at_top : Bool) (said : Header → B) (first : List ℕ) (rest : List (List ℕ)) (P R : Type 0)
    → (result : Result B Cause) → ((argument : Argument) (cause : Cause) → AreRefused (argument ∷ []) rest cause → result ≡ Err cause → R)
    → ((more : Header) → at_top ≡ true → result ≡ Ok (said more) → R) → (P → R) → HeaderGives header at_top said first rest P result → R
header_cases header at_top said first rest P R result refused more other given = grind (arith, common_steps)

-- the command has six arguments at most
abbrev HasFew : Command → Type 0
HasFew command = length command.required + length command.optional ≤ 6

each_has_few : (limits : Limits) → Each HasFew (commands limits)
each_has_few limits = grind (arith, common_steps)

pub found_has : {X : Type 0} (P : X → Type 0) (test : X → Bool) (xs : List X) → Each P xs → IfSome (find test xs) P
found_has P test [] all = tt
found_has P test (x ∷ xs) all = grind (arith, common_steps, found_has P test xs)

-- it hasn't more
too_many : (command : Command) (count : ℕ) → HasFew command → 6 < count → has_count command count ≡ false
too_many command count few many = grind (arith, common_steps)

-- of arguments that are too many for any command, others that are say the same
many_found : (limits : Limits) (name : List ℕ) (arguments others : List (List ℕ)) (result : Result Request Cause) (found : Option Command)
    → 6 < length arguments → 6 < length others → IfSome found HasFew
    → MatchOption found (result ≡ Err Word) (λ command. CommandGives limits (name ∷ arguments) command arguments result)
    → MatchOption found (result ≡ Err Word) (λ command. CommandGives limits (name ∷ others) command others result)
many_found limits name arguments others result found h h2 h3 h4 = grind (arith, common_steps, too_many)

pub many_arguments : (limits : Limits) (name : List ℕ) (arguments others : List (List ℕ)) (result : Result Request Cause) → 6 < length arguments
    → 6 < length others
    → RequestGives limits (name ∷ arguments) result → RequestGives limits (name ∷ others) result
many_arguments limits name arguments others result many more given =
    many_found limits name arguments others result (command_named limits name) many more (found_has HasFew (λ command. bytes_eq command.name name) (commands limits) (each_has_few limits)) given

many_behind : (limits : Limits) (first name : List ℕ) (arguments others : List (List ℕ)) (result : Result Line Cause) → 6 < length arguments → 6 < length others
    → ProcessGives limits first (name ∷ arguments) result → ProcessGives limits first (name ∷ others) result
many_behind limits first name arguments others result many more (inl given) =
    inl (given.0, given.1, given.2, given.3, many_arguments limits name arguments others given.3 many more given.4, given.5)
many_behind limits first name arguments others result many more (inr refused) = inr refused

-- of words that are too many for any line, others that are say the same behind the same two
many_words : (reading : Reading) (first name : List ℕ) (arguments others : List (List ℕ)) (result : Result Line Cause) → 6 < length arguments
    → 6 < length others
    → WordsGive reading (first ∷ name ∷ arguments) result → WordsGive reading (first ∷ name ∷ others) result
many_words reading first name arguments others result many more given =
    MatchBool-map (is_comment first) _ _ _ _ (λ skipped. skipped)
    (many_header reading.header (is_empty reading.arrivals) lines.Header first (name ∷ arguments) (name ∷ others) _ _ result (omega arith) (omega arith)
    (many_behind (limits_of reading) first name arguments others result many more))
    given

-- a comment says nothing
pub words_skipped : (reading : Reading) (words : List (List ℕ)) → AreSkipped words → WordsGive reading words (Ok lines.Skipped)
words_skipped reading words are = grind (arith, common_steps)

-- a line says what its first nine words say
pub first_words_give : (reading : Reading) (words : List (List ℕ)) (result : Result Line Cause) → WordsGive reading (take 9 words) result
    → WordsGive reading words result
first_words_give reading [] result given = given
first_words_give reading (first ∷ []) result given = given
first_words_give reading (first ∷ name ∷ arguments) result given =
    ⊎_elim
    (λ many. many_words reading first name (take 7 arguments) arguments result (omega (arith, length-take-le 7 arguments (omega arith))) (omega arith) given)
    (λ few. subst (λ l. WordsGive reading (first ∷ name ∷ l) result) (take_all 7 arguments few) given)
    (cases_lt 7 (length arguments))

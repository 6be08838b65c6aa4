-- How a line begins: for `read_head`.
use Rattle.history_text.proofs.Common.{common_steps, ◌≡◌, ℕ, ◌<◌, ◌≤◌, Bool, true, false, Option, None, Some, MatchBool, Result, Ok, Err, List, [], ◌∷◌, length, subst, refl, inl, inr, arith, codes, decimal, Cause, Word, words_of, is_printable, begins_with_hash, line_limit, Command, Action, HistoryLine, RequestIsGiven, SentGives, MaySend, MayAnswer, WordsGive}
use Rattle.std.proofs.Common.{◌+◌, IfSome, MatchOption, MatchResult, take, find, ⊎_elim, bytes_eq}
use Rattle.std.specs.List.{AllByRecursion as Each}
use Rattle.std.proofs.lemmas.Bool.{cases_lt}
use Rattle.std.proofs.lemmas.List.{length-take-le, take_all}
use Rattle.script_core.specs.Arguments.{has_count}
use Rattle.history_text.specs.declared.head.Head.{Head}
use Rattle.history_text.specs.HistoryReading.{requests, AnsweredGives, NamedGives, LineGives, BeginWords, AreFaulty, Begins, IsFaulty}

-- a request has five words at most behind its own
abbrev HasFew : Command → Type 0
HasFew form = length form.required + length form.optional ≤ 5

each_has_few : Each HasFew requests
each_has_few = grind (arith, common_steps)

found_has : {X : Type 0} (P : X → Type 0) (test : X → Bool) (xs : List X) → Each P xs → IfSome (find test xs) P
found_has P test [] all = tt
found_has P test (x ∷ xs) all = grind (arith, common_steps, found_has P test xs)

too_many : (form : Command) (count : ℕ) → HasFew form → 5 < count → has_count form count ≡ false
too_many form count few many = grind (arith, common_steps)

many_found : (id : ℕ) (name : List ℕ) (arguments others : List (List ℕ)) (said : Result HistoryLine Cause) (found : Option Command)
    → 5 < length arguments → 5 < length others → IfSome found HasFew
    → MatchOption found (said ≡ Err Word) (λ form. RequestIsGiven id form name arguments said)
    → MatchOption found (said ≡ Err Word) (λ form. RequestIsGiven id form name others said)
many_found id name arguments others said found h h2 h3 h4 = grind (arith, common_steps, too_many)

-- of words that are too many for any request, others that are say the same
many_sent : (id : ℕ) (name : List ℕ) (arguments others : List (List ℕ)) (said : Result HistoryLine Cause) → 5 < length arguments → 5 < length others
    → SentGives id (name ∷ arguments) said → SentGives id (name ∷ others) said
many_sent id name arguments others said many more given =
    let few = found_has HasFew (λ form. bytes_eq form.name name) requests each_has_few in
    many_found id name arguments others said (find (λ form. bytes_eq form.name name) requests) many more few given

-- so it is with an answer
many_answered : (id : ℕ) (action : Action) (name : List ℕ) (told others : List (List ℕ)) (said : Result HistoryLine Cause)
    → 5 < length told → 5 < length others → AnsweredGives id action (name ∷ told) said → AnsweredGives id action (name ∷ others) said
many_answered id action name told others said many more given = grind (arith, common_steps)

may_send : (id : ℕ) (requested : Option Action) (name : List ℕ) (arguments others : List (List ℕ)) (said : Result HistoryLine Cause)
    → 5 < length arguments → 5 < length others → MaySend id requested (name ∷ arguments) said → MaySend id requested (name ∷ others) said
may_send id None name arguments others said many more given = many_sent id name arguments others said many more given
may_send id (Some action) name arguments others said many more given = given

may_answer : (id : ℕ) (requested : Option Action) (name : List ℕ) (told others : List (List ℕ)) (said : Result HistoryLine Cause)
    → 5 < length told → 5 < length others → MayAnswer id requested (name ∷ told) said → MayAnswer id requested (name ∷ others) said
may_answer id None name told others said many more given = given
may_answer id (Some action) name told others said many more given = many_answered id action name told others said many more given

-- a first word, an ID, a word and too many others
many_named : (Gives : ℕ → List (List ℕ) → Result HistoryLine Cause → Type 0) (id name : List ℕ) (arguments others : List (List ℕ))
    (said : Result HistoryLine Cause) → ((n : ℕ) → Gives n (name ∷ arguments) said → Gives n (name ∷ others) said)
    → NamedGives Gives (id ∷ name ∷ arguments) said → NamedGives Gives (id ∷ name ∷ others) said
many_named Gives id name arguments others said keeps (inl (n, rest, named, given)) =
    let is : id ≡ decimal n = (let are = named.are in cc) in
    let behind : rest ≡ name ∷ arguments = (let are = named.are in cc) in
    inl (
      n,
      name ∷ others,
      record { small = named.small; are = rw is refl; some = λ none. (let bad : name ∷ others ≡ [] = none in cc) },
      keeps n (subst (λ l. Gives n l said) behind given),
    )
many_named Gives id name arguments others said keeps (inr (cause, bad, is)) = inr (cause, bad, is)

many_words : (requested : ℕ → Option Action) (first id name : List ℕ) (arguments others : List (List ℕ)) (said : Result HistoryLine Cause)
    → 5 < length arguments → 5 < length others
    → WordsGive requested (first ∷ id ∷ name ∷ arguments) said → WordsGive requested (first ∷ id ∷ name ∷ others) said
many_words requested first id name arguments others said many more given =
    by (bytes_eq first (codes ">")) (bytes_eq first (codes "<")) given
  where
    Sends : List (List ℕ) → Type 0
    Sends words = NamedGives (λ n. MaySend n (requested n)) (id ∷ name ∷ words) said

    Answers : List (List ℕ) → Type 0
    Answers words = NamedGives (λ n. MayAnswer n (requested n)) (id ∷ name ∷ words) said

    by : (sends answers : Bool) → MatchBool sends (Sends arguments) (MatchBool answers (Answers arguments) (said ≡ Err Word))
        → MatchBool sends (Sends others) (MatchBool answers (Answers others) (said ≡ Err Word))
    by true answers given =
        many_named (λ n. MaySend n (requested n)) id name arguments others said
        (λ n. may_send n (requested n) name arguments others said many more) given
    by false true given =
        many_named (λ n. MayAnswer n (requested n)) id name arguments others said
        (λ n. may_answer n (requested n) name arguments others said many more) given
    by false false given = given

-- a line says what its first nine words say
first_words_give : (requested : ℕ → Option Action) (words : List (List ℕ)) (said : Result HistoryLine Cause) → WordsGive requested (take 9 words) said
    → WordsGive requested words said
first_words_give requested [] said given = given
first_words_give requested (first ∷ []) said given = given
first_words_give requested (first ∷ id ∷ []) said given = given
first_words_give requested (first ∷ id ∷ name ∷ arguments) said given =
    ⊎_elim
    (λ many. many_words requested first id name (take 6 arguments) arguments said (six many) (omega arith) given)
    (λ few. subst (λ l. WordsGive requested (first ∷ id ∷ name ∷ l) said) (take_all 6 arguments few) given)
    (cases_lt 6 (length arguments))
  where
    six : 6 < length arguments → 5 < length (take 6 arguments)
    six many = omega (arith, length-take-le 6 arguments (omega arith))

-- what the words of a line say is what the line says
words_give : (requested : ℕ → Option Action) (line : List ℕ) (said : Result HistoryLine Cause) → length line ≤ line_limit → is_printable line ≡ true
    → begins_with_hash line ≡ false → WordsGive requested (words_of line) said → LineGives requested line said
words_give requested line said h h2 h3 h4 = grind (arith, common_steps)

-- a line begins as its first nine words do
pub begins_so : (line : List ℕ) (words : List (List ℕ)) (result : Result Head Cause) → length line ≤ line_limit → is_printable line ≡ true
    → begins_with_hash line ≡ false → words ≡ take 9 (words_of line) → MatchResult result (BeginWords words) (AreFaulty words)
    → MatchResult result (Begins line) (IsFaulty line)
begins_so line words (Ok head) short printable plain are begin = λ requested said given.
    words_give requested line said short printable plain
    (first_words_give requested (words_of line) said (subst (λ l. WordsGive requested l said) are (begin requested said given)))
begins_so line words (Err cause) short printable plain are faulty = λ requested.
    words_give requested line (Err cause) short printable plain
    (first_words_give requested (words_of line) (Err cause) (subst (λ l. WordsGive requested l (Err cause)) are (faulty requested)))

-- A piece's first words: what they say, the whole piece says; for `read_note` and `read_taken`.
use Rattle.script_core.proofs.Common.{common_steps, ◌≡◌, ℕ, ◌<◌, ◌≤◌, Option, IfSome, MatchOption, MatchResult, Result, Ok, Err, List, [], ◌∷◌, length, take, subst, arith, lit≤, ⊎_elim, ◌⊎◌, cases_lt, length-take-le}
use Rattle.script_core.proofs.Common.{Limits, Reply, Note, Taken, Cause, Word, reply_words, Argument, ErrorWord, Spells, AreRefused, Command, RequestIsTaken, TakenGives, ReplyWordsGive, ReplyGives, WaitGives, ToldGives, NoteGives, RequestGives}
use Rattle.std.proofs.Common.{take_all}
use Rattle.std.specs.List.{AllByRecursion as Each}
use Rattle.script_core.specs.EntryReading.{reply_forms}
use Rattle.script_core.proofs.FirstWordsLemmas.{MatchBool-map, found_has, many_arguments}

-- of words that are more than the arguments expected, others that are say the same
refused_so : (expected : List Argument) (words others : List (List ℕ)) (cause : Cause) → length expected < length words → length expected < length others
    → AreRefused expected words cause → AreRefused expected others cause
refused_so expected words others cause many more refused = grind (arith, common_steps)

length-reply_words : (reply : Reply) → length (reply_words reply) ≤ 5
length-reply_words reply = grind (arith, common_steps)

-- the reply has four arguments at most
abbrev HasFour : Command → Type 0
HasFour form = length form.required ≤ 4

each_has_four : Each HasFour reply_forms
each_has_four = (lit≤ tt, (lit≤ tt, (lit≤ tt, (lit≤ tt, tt))))

many_found : (name : List ℕ) (arguments others : List (List ℕ)) (result : Result Reply Cause) (found : Option Command)
    → 6 < length arguments → 6 < length others → IfSome found HasFour
    → MatchOption found ((Spells ErrorWord name × ReplyWordsGive [] name arguments result) ⊎ ((¬ (Spells ErrorWord name)) × (result ≡ Err Word)))
    (λ form. ReplyWordsGive form.required name arguments result)
    → MatchOption found ((Spells ErrorWord name × ReplyWordsGive [] name others result) ⊎ ((¬ (Spells ErrorWord name)) × (result ≡ Err Word)))
    (λ form. ReplyWordsGive form.required name others result)
many_found name arguments others result found h h2 h3 h4 = grind (arith, common_steps, refused_so, length-reply_words)

many_reply : (name : List ℕ) (arguments others : List (List ℕ)) (result : Result Reply Cause) → 6 < length arguments → 6 < length others
    → ReplyGives name arguments result → ReplyGives name others result
many_reply name arguments others result many more given = grind (arith, common_steps, many_found, found_has, each_has_four)

many_wait : (p n : ℕ) (words others : List (List ℕ)) (result : Result Note Cause) → 6 < length words → 6 < length others
    → WaitGives p n words result → WaitGives p n others result
many_wait p n words others result h h2 h3 = grind (arith, common_steps)

many_told : (p n : ℕ) (name : List ℕ) (arguments others : List (List ℕ)) (result : Result Note Cause) → 6 < length arguments → 6 < length others
    → ToldGives p n (name ∷ arguments) result → ToldGives p n (name ∷ others) result
many_told p n name arguments others result many more given = grind (arith, common_steps, MatchBool-map, many_wait, many_reply)

many_tagged : (tagged : Result (ℕ × ℕ) Cause) (name : List ℕ) (arguments others : List (List ℕ)) (result : Result Note Cause) → 6 < length arguments
    → 6 < length others
    → MatchResult tagged (λ pair. ToldGives pair.0 pair.1 (name ∷ arguments) result) (λ cause. result ≡ Err cause)
    → MatchResult tagged (λ pair. ToldGives pair.0 pair.1 (name ∷ others) result) (λ cause. result ≡ Err cause)
many_tagged tagged name arguments others result many more given = grind (arith, common_steps, many_told)

-- a note says what its first nine words say
pub note_first_words : (limits : Limits) (words : List (List ℕ)) (result : Result Note Cause) → NoteGives limits (take 9 words) result
    → NoteGives limits words result
note_first_words limits [] result given = given
note_first_words limits (first ∷ []) result given = given
note_first_words limits (first ∷ name ∷ arguments) result given =
    ⊎_elim
    (λ many.
    (given.0, given.1, many_tagged given.0 name (take 7 arguments) arguments result (omega (arith, length-take-le 7 arguments (omega arith))) (omega arith) given.2))
    (λ few. subst (λ l. NoteGives limits (first ∷ name ∷ l) result) (take_all 7 arguments few) given)
    (cases_lt 7 (length arguments))

many_taken : (limits : Limits) (tagged : Result (ℕ × ℕ) Cause) (name : List ℕ) (arguments others : List (List ℕ)) (result : Result Taken Cause)
    → 6 < length arguments → 6 < length others
    → MatchResult tagged (λ pair. (next : _) × RequestGives limits (name ∷ arguments) next
    × RequestIsTaken pair.0 pair.1 next result) (λ cause. result ≡ Err cause)
    → MatchResult tagged (λ pair. (next : _) × RequestGives limits (name ∷ others) next × RequestIsTaken pair.0 pair.1 next result) (λ cause. result
    ≡ Err cause)
many_taken limits (Ok pair) name arguments others result many more given =
    (given.0, many_arguments limits name arguments others given.0 many more given.1, given.2)
many_taken limits (Err cause) name arguments others result many more given = given

-- and so does a request behind its tag
pub taken_first_words : (limits : Limits) (words : List (List ℕ)) (result : Result Taken Cause) → TakenGives limits (take 9 words) result
    → TakenGives limits words result
taken_first_words limits [] result given = given
taken_first_words limits (first ∷ []) result given = given
taken_first_words limits (first ∷ name ∷ arguments) result given =
    ⊎_elim
    (λ many.
    (given.0, given.1, many_taken limits given.0 name (take 7 arguments) arguments result (omega (arith, length-take-le 7 arguments (omega arith))) (omega arith) given.2))
    (λ few. subst (λ l. TakenGives limits (first ∷ name ∷ l) result) (take_all 7 arguments few) given)
    (cases_lt 7 (length arguments))

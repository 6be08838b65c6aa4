-- A line, and the pieces of an entry's line, are never refused for want of memory: for `ScriptReader::read_line`, `read_notes` and
-- `read_pieces`.
use Rattle.script_core.proofs.Common.{arith, ◌≡◌, ℕ, ◌∙◌, sym, subst, inl, inr, List, [], ◌∷◌, length, Option, Some, None, Result, Ok, Err, MatchOption, MatchResult, ◌⊎◌, common_steps}
use Rattle.script_core.proofs.Common.{Limits, Request, Reply, Note, Answer, Taken, Line, Cause, Word, Count, Argument, ErrorWord, Spells, IsFirstBad, AreRefused, Command, command_named, has_count, Reading, limits_of, is_comment, is_empty, ArgumentsGive, CommandGives, RequestGives, ArrivalGives, ProcessGives, WordsGive, LineGives, IsOfScript, RequestIsTaken, TakenGives, ReplyWordsGive, WaitGives, ToldGives, NoteGives}
use Rattle.script_core.specs.declared.line.Line.TheVariants as lines
use Rattle.script_core.specs.declared.script.Cause.TheVariants.{Memory, Tag}
use Rattle.script_core.specs.Arguments.{cause_of}
use Rattle.script_core.specs.EntryReading.{TagGives}
use Rattle.script_core.proofs.FirstWordsLemmas.{header_cases}
use Rattle.script_core.proofs.HeaderLemmas.{MatchBool-join}

-- not refused for want of memory
IsSaid : {X : Type 0} → Result X Cause → Type 0
IsSaid (Ok x) = Unit {0}
IsSaid (Err cause) = IsOfScript cause

said_by : {X : Type 0} (expected result : Result X Cause) → IsSaid expected → result ≡ expected → IsSaid result
said_by expected result is e = subst IsSaid (sym e) is

of_argument : (argument : Argument) → IsOfScript (cause_of argument)
of_argument argument h h2 = grind (arith, common_steps)

of_first_bad : (arguments : List Argument) (words : List (List ℕ)) (cause : Cause) → IsFirstBad arguments words cause → IsOfScript cause
of_first_bad [] words cause bad memory e = absurd bad
of_first_bad (argument ∷ arguments) [] cause bad memory e = absurd bad
of_first_bad (argument ∷ arguments) (word ∷ words) cause (inl good) memory e = of_first_bad arguments words cause good.1 memory e
of_first_bad (argument ∷ arguments) (word ∷ words) cause (inr bad) memory e = of_argument argument memory (sym bad.1 ∙ e)

of_count : (cause : Cause) → cause ≡ Count → IsOfScript cause
of_count cause is memory e = absurd (let other : Count ≡ Memory memory = sym is ∙ e in cc)

pub of_refused : (arguments : List Argument) (words : List (List ℕ)) (cause : Cause) → AreRefused arguments words cause → IsOfScript cause
of_refused arguments words cause refused = grind (arith, common_steps, MatchBool-join, of_first_bad, of_count)

of_arguments : (limits : Limits) (words : List (List ℕ)) (command : Command) (arguments : List (List ℕ)) (result : Result Request Cause)
    → ArgumentsGive limits words command arguments result → IsSaid result
unfolding IsSaid
of_arguments limits words command arguments result h = grind (arith, common_steps, said_by, of_first_bad)

of_command : (limits : Limits) (words arguments : List (List ℕ)) (result : Result Request Cause) (command : Option Command)
    → MatchOption command (result ≡ Err Word) (λ command. CommandGives limits words command arguments result) → IsSaid result
unfolding IsSaid
of_command limits words arguments result None is = said_by (Err Word) result (λ memory e. cc) is
of_command limits words arguments result (Some command) gives =
    MatchBool-join (has_count command (length arguments)) _ _ (IsSaid result) (of_arguments limits words command arguments result) (said_by (Err Count) result (λ memory e. cc)) gives

of_request : (limits : Limits) (words : List (List ℕ)) (result : Result Request Cause) → RequestGives limits words result → IsSaid result
unfolding IsSaid
of_request limits [] result is = said_by (Err Count) result (λ memory e. cc) is
of_request limits (name ∷ arguments) result gives = of_command limits (name ∷ arguments) arguments result (command_named limits name) gives

of_arrival : (p : ℕ) (next : Result Request Cause) (result : Result Line Cause) → IsSaid next → ArrivalGives p next result → IsSaid result
unfolding IsSaid
of_arrival p next result said is = grind (arith, common_steps, said_by)

of_process : (limits : Limits) (first : List ℕ) (rest : List (List ℕ)) (result : Result Line Cause) → ProcessGives limits first rest result → IsSaid result
unfolding IsSaid
of_process limits first rest result h = grind (arith, common_steps, of_arrival, of_request, said_by)

of_words : (reading : Reading) (words : List (List ℕ)) (result : Result Line Cause) → WordsGive reading words result → IsSaid result
unfolding IsSaid
of_words reading [] result is = said_by (Ok lines.Skipped) result tt is
of_words reading (first ∷ rest) result gives =
    MatchBool-join (is_comment first) _ _ (IsSaid result) (said_by (Ok lines.Skipped) result tt)
    (header_cases reading.header (is_empty reading.arrivals) lines.Header first rest _ (IsSaid result) result
    (λ argument cause refused is. said_by (Err cause) result (of_refused (argument ∷ []) rest cause refused) is)
    (λ more top is. said_by (Ok (lines.Header more)) result tt is) (of_process (limits_of reading) first rest result))
    gives

of_line : (reading : Reading) (line : List ℕ) (result : Result Line Cause) → LineGives reading line result → IsSaid result
unfolding IsSaid
of_line reading line result gives = grind (arith, common_steps, MatchBool-join, said_by, of_words)

-- no line is refused for want of memory
pub never_memory : (reading : Reading) (line : List ℕ) (cause : Cause) → LineGives reading line (Err cause) → IsOfScript cause
unfolding IsSaid
never_memory reading line cause gives = of_line reading line (Err cause) gives

of_tag : (limits : Limits) (word : List ℕ) (cause : Cause) → TagGives limits word (Err cause) → IsOfScript cause
of_tag limits word cause gives memory e = absurd (let other : Tag ≡ Memory memory = sym gives.1 ∙ e in cc)

of_request_taken : (p n : ℕ) (next : Result Request Cause) (result : Result Taken Cause) → IsSaid next → RequestIsTaken p n next result → IsSaid result
unfolding IsSaid
of_request_taken p n next result said is = grind (arith, common_steps, said_by)

of_tagged : (limits : Limits) (word : List ℕ) (rest : List (List ℕ)) (tagged : Result (ℕ × ℕ) Cause) (result : Result Taken Cause) → TagGives limits word tagged
    → MatchResult tagged (λ pair. (next : Result Request Cause) × RequestGives limits rest next
    × RequestIsTaken pair.0 pair.1 next result) (λ cause. result ≡ Err cause)
    → IsSaid result
unfolding IsSaid
of_tagged limits word rest tagged result tag given = grind (arith, common_steps, of_request_taken, of_request, said_by, of_tag)

of_taken : (limits : Limits) (words : List (List ℕ)) (result : Result Taken Cause) → TakenGives limits words result → IsSaid result
unfolding IsSaid
of_taken limits words result is = grind (arith, common_steps, said_by, of_tagged)

of_reply_words : (expected : List Argument) (name : List ℕ) (arguments : List (List ℕ)) (result : Result Reply Cause)
    → ReplyWordsGive expected name arguments result → IsSaid result
unfolding IsSaid
of_reply_words expected name arguments result h = grind (arith, common_steps, said_by, of_refused)

of_found : (name : List ℕ) (arguments : List (List ℕ)) (found : Option Command) (result : Result Reply Cause)
    → MatchOption found ((Spells ErrorWord name × ReplyWordsGive [] name arguments result) ⊎ ((¬ (Spells ErrorWord name)) × (result ≡ Err Word)))
    (λ form. ReplyWordsGive form.required name arguments result)
    → IsSaid result
unfolding IsSaid
of_found name arguments None result (inl given) = of_reply_words [] name arguments result given.1
of_found name arguments None result (inr given) = said_by (Err Word) result (λ memory e. cc) given.1
of_found name arguments (Some form) result given = of_reply_words form.required name arguments result given

of_answer : (p n : ℕ) (next : Result Reply Cause) (result : Result Note Cause) → IsSaid next
    → MatchResult next (λ reply. result ≡ Ok (Answer p n reply)) (λ cause. result ≡ Err cause) → IsSaid result
unfolding IsSaid
of_answer p n next result said is = grind (arith, common_steps, said_by)

of_wait : (p n : ℕ) (words : List (List ℕ)) (result : Result Note Cause) → WaitGives p n words result → IsSaid result
unfolding IsSaid
of_wait p n words result is = grind (arith, common_steps, said_by)

of_told : (p n : ℕ) (words : List (List ℕ)) (result : Result Note Cause) → ToldGives p n words result → IsSaid result
unfolding IsSaid
of_told p n words result h = grind (arith, common_steps, said_by, MatchBool-join, IsSaid, of_wait, of_answer, of_found)

of_noted : (limits : Limits) (word : List ℕ) (rest : List (List ℕ)) (tagged : Result (ℕ × ℕ) Cause) (result : Result Note Cause) → TagGives limits word tagged
    → MatchResult tagged (λ pair. ToldGives pair.0 pair.1 rest result) (λ cause. result ≡ Err cause) → IsSaid result
unfolding IsSaid
of_noted limits word rest tagged result tag given = grind (arith, common_steps, of_told, said_by, of_tag)

of_note : (limits : Limits) (words : List (List ℕ)) (result : Result Note Cause) → NoteGives limits words result → IsSaid result
unfolding IsSaid
of_note limits words result is = grind (arith, common_steps, said_by, of_noted)

-- no request behind its tag is refused for want of memory
pub taken_never_memory : (limits : Limits) (words : List (List ℕ)) (cause : Cause) → TakenGives limits words (Err cause) → IsOfScript cause
unfolding IsSaid
taken_never_memory limits words cause gives = of_taken limits words (Err cause) gives

-- and no note is
pub note_never_memory : (limits : Limits) (words : List (List ℕ)) (cause : Cause) → NoteGives limits words (Err cause) → IsOfScript cause
unfolding IsSaid
note_never_memory limits words cause gives = of_note limits words (Err cause) gives

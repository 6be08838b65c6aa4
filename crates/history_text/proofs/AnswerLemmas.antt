-- The words of an answer: for `read_named` and `read_held_words`.
use Rattle.history_text.proofs.Common.{common_steps, ◌≡◌, ℕ, true, false, Option, List, [], ◌∷◌, Result, Ok, Err, MatchBool, codes, inr, arith, Cause, Mode, Span, Number, mode_word, Action, Answer, Held, HistoryLine, told_words, owner_word, span_words, is_turned_answer, HasSmallOwner, HasSmallBytes, TellsSmallNumbers, AnswerIsGiven, bytes_eq-Decides}
use Rattle.std.proofs.Common.{MatchResult, ap}
use Rattle.script_core.specs.Arguments.{AreRefused}
use Rattle.history_text.specs.declared.line.HistoryLine.TheVariants as lines
use Rattle.history_text.specs.HistoryText.{answer_word, is_turned_span}
use Rattle.history_text.specs.HistoryReading.{ToldGives, has_answer, told_count}

-- an answer that nothing may stand behind
pub alone_given : (id : ℕ) (answer : Answer) (told : List (List ℕ)) (result : Result HistoryLine Cause) → told_words answer ≡ []
    → told_count (answer_word answer) ≡ 0 → TellsSmallNumbers answer → is_turned_answer answer ≡ false
    → MatchResult result (λ said. (said ≡ lines.Answered id answer) × (told ≡ [])) (AreRefused [] told)
    → AnswerIsGiven id (answer_word answer) told result
alone_given id answer told result h h2 h3 h4 h5 = grind (arith, common_steps)

-- each answer of a request has one of seven words
pub one_of_seven : (action : Action) (name : List ℕ) → has_answer action name ≡ true → (name ≡ codes "ok" → ⊥) → (name ≡ codes "busy" → ⊥)
    → (name ≡ codes "EINTR" → ⊥) → (name ≡ codes "EDEADLK" → ⊥) → (name ≡ codes "free" → ⊥) → (name ≡ codes "held" → ⊥)
    → (name ≡ codes "error" → ⊥) → ⊥
one_of_seven action name has h h2 h3 h4 h5 h6 h7 = grind (arith, common_steps, bytes_eq-Decides)

-- words that are those of a lock in the way, which may have turned bytes
pub held_given : (id : ℕ) (words : List (List ℕ)) (owner : Option ℕ) (mode : Mode) (span : Span) (result : Result HistoryLine Cause)
    → words ≡ owner_word owner ∷ mode_word mode ∷ span_words span → HasSmallOwner owner → HasSmallBytes span
    → MatchBool (is_turned_span span) (result ≡ Err Number) (result ≡ Ok (lines.Answered id (Held owner mode span)))
    → ToldGives id (codes "held" ∷ words) words result
held_given id words owner mode span result are small_owner small_bytes given =
    inr (Held owner mode span, (small_owner, small_bytes), ap (λ ws. codes "held" ∷ ws) are, given)

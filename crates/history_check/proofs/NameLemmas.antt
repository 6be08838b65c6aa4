-- The ID of what a line says: for `HistoryCheck::end_line` and `HistoryCheck::go_on`.
use Rattle.std.proofs.Common.{◌≡◌, ℕ, true, false, Bool, Option, Some, None, Result, Ok, Err, List, [], ◌∷◌, refl, ap, subst, ◌∙◌, inl, inr, length, ◌==◌}
use Rattle.std.specs.Bool.{MatchBool}
use Rattle.std.specs.Prelude.{MatchOption, codes, find, bytes_eq, nat_lt}
use Rattle.script_core.specs.declared.script.Cause.{Cause}
use Rattle.script_core.specs.declared.script.Cause.TheVariants.{Byte, Count, Number, Tag, TooLong, Word}
use Rattle.script_core.specs.Arguments.{Command, has_count}
use Rattle.script_core.specs.Words.{begins_with_hash, is_printable, line_limit, words_of}
use Rattle.history_core.specs.declared.request.Action.{Action}
use Rattle.history_core.specs.declared.request.Answer.{Answer}
use Rattle.history_core.specs.declared.request.Request.{Request}
use Rattle.history_text.specs.declared.line.HistoryLine.{HistoryLine as TextLine}
use Rattle.history_text.specs.declared.line.HistoryLine.TheVariants as texts
use Rattle.history_text.specs.HistoryText.{is_turned_action, is_turned_answer}
use Rattle.history_text.specs.HistoryReading.{AnsweredGives, AnswerIsGiven, ArgumentsGive, LineGives, MayAnswer, MaySend, NamedGives, RequestIsGiven, SentGives, TextGives, ToldGives, WordsGive, has_answer, requests, told_count}
use Rattle.history_check.specs.Checked.{IsNamed}

-- both cases lead there
either : (P Q R : Type 0) (b : Bool) → (P → R) → (Q → R) → MatchBool b P Q → R
either P Q R true at_true at_false is = at_true is
either P Q R false at_true at_false is = at_false is

-- what a line says
abbrev says : TextLine → Result TextLine Cause
says said = Ok said

-- a line with this fault
abbrev fails : Cause → Result TextLine Cause
fails cause = Err cause

-- what is said is no fault
no_fault : {R : Type 0} (said : TextLine) (cause : Cause) → says said ≡ fails cause → R
no_fault said cause is = absurd (cc)

skipped : (requested : ℕ → Option Action) (said : TextLine) → says said ≡ says texts.Skipped → IsNamed requested said
skipped requested said is =
    let same : texts.Skipped ≡ said = cc in
    subst (IsNamed requested) same tt

sent : (requested : ℕ → Option Action) (id file : ℕ) (request : Request) (said : TextLine) → requested id ≡ None → request.id ≡ id
    → says said ≡ says (texts.Sent file request) → IsNamed requested said
sent requested id file request said free named is =
    let same : texts.Sent file request ≡ said = cc in
    subst (IsNamed requested) same (ap requested named ∙ free)

is_some_action : (action : Action) (none : Option Action) → none ≡ Some action → none ≡ None → ⊥
is_some_action action none some is = cc

answered : (requested : ℕ → Option Action) (id : ℕ) (action : Action) (answer : Answer) (said : TextLine) → requested id ≡ Some action
    → says said ≡ says (texts.Answered id answer) → IsNamed requested said
answered requested id action answer said held is =
    let same : texts.Answered id answer ≡ said = cc in
    subst (IsNamed requested) same (λ none. is_some_action action (requested id) held none)

request_named : (requested : ℕ → Option Action) (id : ℕ) (words : List (List ℕ)) (form : Command) (arguments : List (List ℕ)) (said : TextLine)
    → requested id ≡ None → ArgumentsGive id words form arguments (says said) → IsNamed requested said
request_named requested id words form arguments said free is = elim is [
  | inl bad ↦ no_fault said bad.0 bad.2
  | inr good ↦ elim good.4 [
    | inl are ↦
        either (says said ≡ fails Number) (says said ≡ says (texts.Sent good.0 good.1)) (IsNamed requested said) (is_turned_action good.1.action)
        (no_fault said Number) (sent requested id good.0 good.1 said free good.2) are.1
    | inr turned ↦ no_fault said Word turned.2
  ]
]

given_form : (requested : ℕ → Option Action) (id : ℕ) (form : Command) (name : List ℕ) (arguments : List (List ℕ)) (said : TextLine)
    → requested id ≡ None → RequestIsGiven id form name arguments (says said) → IsNamed requested said
given_form requested id form name arguments said free is =
    either (ArgumentsGive id (name ∷ arguments) form arguments (says said)) (says said ≡ fails Count) (IsNamed requested said)
    (has_count form (length arguments)) (request_named requested id (name ∷ arguments) form arguments said free) (no_fault said Count) is

any_form : (requested : ℕ → Option Action) (id : ℕ) (name : List ℕ) (arguments : List (List ℕ)) (said : TextLine) (form : Option Command)
    → requested id ≡ None → MatchOption form (says said ≡ fails Word) (λ f. RequestIsGiven id f name arguments (says said)) → IsNamed requested said
any_form requested id name arguments said None free is = no_fault said Word is
any_form requested id name arguments said (Some form) free is = given_form requested id form name arguments said free is

sent_named : (requested : ℕ → Option Action) (id : ℕ) (words : List (List ℕ)) (said : TextLine) → requested id ≡ None → SentGives id words (says said)
    → IsNamed requested said
sent_named requested id [] said free is = no_fault said Count is
sent_named requested id (name ∷ arguments) said free is =
    any_form requested id name arguments said (find (λ form. bytes_eq form.name name) requests) free is

may_send : (requested : ℕ → Option Action) (id : ℕ) (words : List (List ℕ)) (said : TextLine) (o : Option Action) → requested id ≡ o
    → MaySend id o words (says said) → IsNamed requested said
may_send requested id words said None free is = sent_named requested id words said free is
may_send requested id words said (Some action) held is = no_fault said Tag is

told_named : (requested : ℕ → Option Action) (id : ℕ) (action : Action) (words told : List (List ℕ)) (said : TextLine) → requested id ≡ Some action
    → ToldGives id words told (says said) → IsNamed requested said
told_named requested id action words told said held is = elim is [
  | inl bad ↦ no_fault said bad.0 bad.2
  | inr good ↦
      either (says said ≡ fails Number) (says said ≡ says (texts.Answered id good.0)) (IsNamed requested said) (is_turned_answer good.0)
      (no_fault said Number) (answered requested id action good.0 said held) good.3
]

given_answer : (requested : ℕ → Option Action) (id : ℕ) (action : Action) (name : List ℕ) (told : List (List ℕ)) (said : TextLine)
    → requested id ≡ Some action → AnswerIsGiven id name told (says said) → IsNamed requested said
given_answer requested id action name told said held is =
    either (ToldGives id (name ∷ told) told (says said)) (says said ≡ fails Count) (IsNamed requested said) (length told == told_count name)
    (told_named requested id action (name ∷ told) told said held) (no_fault said Count) is

answered_named : (requested : ℕ → Option Action) (id : ℕ) (action : Action) (words : List (List ℕ)) (said : TextLine) → requested id ≡ Some action
    → AnsweredGives id action words (says said) → IsNamed requested said
answered_named requested id action [] said held is = no_fault said Count is
answered_named requested id action (name ∷ told) said held is =
    either (AnswerIsGiven id name told (says said)) (says said ≡ fails Word) (IsNamed requested said) (has_answer action name)
    (given_answer requested id action name told said held) (no_fault said Word) is

may_answer : (requested : ℕ → Option Action) (id : ℕ) (words : List (List ℕ)) (said : TextLine) (o : Option Action) → requested id ≡ o
    → MayAnswer id o words (says said) → IsNamed requested said
may_answer requested id words said None free is = no_fault said Tag is
may_answer requested id words said (Some action) held is = answered_named requested id action words said held is

named : (requested : ℕ → Option Action) (Gives : ℕ → List (List ℕ) → Result TextLine Cause → Type 0) (words : List (List ℕ)) (said : TextLine)
    → ((id : ℕ) (others : List (List ℕ)) → Gives id others (says said) → IsNamed requested said) → NamedGives Gives words (says said)
    → IsNamed requested said
named requested Gives words said each is = elim is [
  | inl good ↦ each good.0 good.1 good.3
  | inr bad ↦ no_fault said bad.0 bad.2
]

-- what stands behind `>`, and behind `<`
abbrev Sends : (ℕ → Option Action) → ℕ → List (List ℕ) → Result TextLine Cause → Type 0
Sends requested id words said = MaySend id (requested id) words said

abbrev Answers : (ℕ → Option Action) → ℕ → List (List ℕ) → Result TextLine Cause → Type 0
Answers requested id words said = MayAnswer id (requested id) words said

answer_line : (requested : ℕ → Option Action) (first : List ℕ) (words : List (List ℕ)) (said : TextLine)
    → MatchBool (bytes_eq first (codes "<")) (NamedGives (Answers requested) words (says said)) (says said ≡ fails Word) → IsNamed requested said
answer_line requested first words said is =
    either (NamedGives (Answers requested) words (says said)) (says said ≡ fails Word) (IsNamed requested said) (bytes_eq first (codes "<"))
    (named requested (Answers requested) words said (λ id others given. may_answer requested id others said (requested id) refl given))
    (no_fault said Word) is

words_named : (requested : ℕ → Option Action) (words : List (List ℕ)) (said : TextLine) → WordsGive requested words (says said) → IsNamed requested said
words_named requested [] said is = skipped requested said is
words_named requested (first ∷ words) said is =
    either (NamedGives (Sends requested) words (says said))
    (MatchBool (bytes_eq first (codes "<")) (NamedGives (Answers requested) words (says said)) (says said ≡ fails Word)) (IsNamed requested said)
    (bytes_eq first (codes ">"))
    (named requested (Sends requested) words said (λ id others given. may_send requested id others said (requested id) refl given))
    (answer_line requested first words said) is

text_named : (requested : ℕ → Option Action) (text : List ℕ) (said : TextLine) → TextGives requested text (says said) → IsNamed requested said
text_named requested text said is =
    either (says said ≡ says texts.Skipped) (WordsGive requested (words_of text) (says said)) (IsNamed requested said) (begins_with_hash text)
    (skipped requested said) (words_named requested (words_of text) said) is

short_named : (requested : ℕ → Option Action) (line : List ℕ) (said : TextLine)
    → MatchBool (is_printable line) (TextGives requested line (says said)) (says said ≡ fails Byte) → IsNamed requested said
short_named requested line said is =
    either (TextGives requested line (says said)) (says said ≡ fails Byte) (IsNamed requested said) (is_printable line)
    (text_named requested line said) (no_fault said Byte) is

-- an ID that a line sends is free, and one that it answers is open
pub said_is_named : (requested : ℕ → Option Action) (line : List ℕ) (said : TextLine) → LineGives requested line (Ok said) → IsNamed requested said
said_is_named requested line said is =
    either (says said ≡ fails TooLong) (MatchBool (is_printable line) (TextGives requested line (says said)) (says said ≡ fails Byte))
    (IsNamed requested said) (nat_lt line_limit (length line)) (no_fault said TooLong) (short_named requested line said) is

-- A line has one reading: for `lines_have_one_reading`.
use Rattle.history_text.proofs.Common.{common_steps, rules, ◌≡◌, ℕ, ◌<◌, ◌^◌, Bool, true, false, Option, Some, None, MatchBool, Result, Ok, Err, List, [], ◌∷◌, length, codes, decimal, inl, inr, refl, sym, subst, arith, bytes_eq-Decides}
use Rattle.history_text.proofs.Common.{Mode, Span, Cause, Word, Number, words_of, is_printable, begins_with_hash, line_limit, mode_word, Command, Action, Flock, FlockUnlock, Close, Gone, Answer, Done, Busy, Interrupted, Deadlock, Free, Held, Error, HistoryLine, span_words, HasSmallBytes, request_word, action_words, is_turned_action, AsksForSmallBytes, owner_word, told_words, is_turned_answer, HasSmallOwner, TellsSmallNumbers, flock_request, whole_request, ArgumentsGive, RequestIsGiven, SentGives, AnswerIsGiven, MaySend, MayAnswer, WordsGive}
use Rattle.std.proofs.Common.{◌∙◌, suc, cond, nat_lt, MatchOption, ◌++◌, ◌==◌, find, get_or, unwrap_or, ap, bytes_eq}
use Rattle.std.specs.Str.Parse.{AllDigits, digits_value}
use Rattle.std.proofs.lemmas.Fmt.{decimal_is_IsNumeral, decimal_injective}
use Rattle.std.proofs.lemmas.Str.Parse.{digit_from_value}
use Rattle.std.proofs.lemmas.Bool.{false_from_ne_true}
use Rattle.range_core.specs.declared.Mode.TheVariants.{Read, Write}
use Rattle.script_core.specs.declared.script.Cause.TheVariants.{Byte, Count, TooLong, Tag}
use Rattle.script_core.specs.Arguments.{Argument, UnsignedNumber, ModeWord, OpWord, NbWord, Spells, IsFirstBad, has_count}
use Rattle.history_core.specs.declared.request.Request.{Request}
use Rattle.history_core.specs.declared.request.Action.TheVariants.{Set, Wait, Get, Unlock, FlockWait}
use Rattle.history_text.specs.declared.line.HistoryLine.TheVariants as lines
use Rattle.history_text.specs.HistoryText.{operation_word, HasSmallNumbers, answer_words}
use Rattle.history_text.specs.HistoryReading.{lock_request, unlock_request, requests, WordsGiveRequest, IsOwner, IsFirstBadOfHeld, ToldGives, AnsweredGives, has_answer, told_count, AreNamed, AreNotNamed, NamedGives, TextGives, LinesHaveOneReading}

-- ---- one of two choices

same_value : {X : Type 0} (value a b : X) → a ≡ value → b ≡ value → a ≡ b
same_value value a b first second = first ∙ sym second

-- a choice by a test is settled where both sides are
MatchBool-unique : {X : Type 0} (P Q : X → Type 0) (test : Bool) → ((a b : X) → P a → P b → a ≡ b) → ((a b : X) → Q a → Q b → a ≡ b)
    → (a b : X) → MatchBool test (P a) (Q a) → MatchBool test (P b) (Q b) → a ≡ b
MatchBool-unique P Q true here there a b first second = here a b first second
MatchBool-unique P Q false here there a b first second = there a b first second

-- the first bad argument has one cause
IsFirstBad-unique : (arguments : List Argument) (words : List (List ℕ)) (a b : Cause) → IsFirstBad arguments words a
    → IsFirstBad arguments words b → a ≡ b
IsFirstBad-unique [] words a b first second = absurd first
IsFirstBad-unique (argument ∷ arguments) [] a b first second = absurd first
IsFirstBad-unique (argument ∷ arguments) (word ∷ words) a b (inl first) (inl second) = IsFirstBad-unique arguments words a b first.1 second.1
IsFirstBad-unique (argument ∷ arguments) (word ∷ words) a b (inl first) (inr second) = absurd (second.0 first.0)
IsFirstBad-unique (argument ∷ arguments) (word ∷ words) a b (inr first) (inl second) = absurd (first.0 second.0)
IsFirstBad-unique (argument ∷ arguments) (word ∷ words) a b (inr first) (inr second) = first.1 ∙ sym second.1

-- a word that spells its argument isn't the first bad one
good_then : (argument : Argument) (arguments : List Argument) (word : List ℕ) (words : List (List ℕ)) (cause : Cause) → Spells argument word
    → IsFirstBad (argument ∷ arguments) (word ∷ words) cause → IsFirstBad arguments words cause
good_then argument arguments word words cause good (inl bad) = bad.1
good_then argument arguments word words cause good (inr bad) = absurd (bad.0 good)

good_number : (n : ℕ) (arguments : List Argument) (words : List (List ℕ)) (cause : Cause) → n < 2 ^ 64
    → IsFirstBad (UnsignedNumber ∷ arguments) (decimal n ∷ words) cause → IsFirstBad arguments words cause
good_number n arguments words cause small bad = good_then UnsignedNumber arguments (decimal n) words cause (n, small, refl) bad

good_span : (span : Span) (cause : Cause) → HasSmallBytes span → IsFirstBad (UnsignedNumber ∷ UnsignedNumber ∷ []) (span_words span) cause → ⊥
good_span span cause small bad =
    good_number span.last [] [] cause small.1 (good_number span.first (UnsignedNumber ∷ []) (decimal span.last ∷ []) cause small.0 bad)

good_mode : (mode : Mode) (arguments : List Argument) (words : List (List ℕ)) (cause : Cause)
    → IsFirstBad (ModeWord ∷ arguments) (mode_word mode ∷ words) cause → IsFirstBad arguments words cause
good_mode mode arguments words cause bad = good_then ModeWord arguments (mode_word mode) words cause (mode, refl) bad

operation_spelled : (mode : Option Mode) → Spells OpWord (operation_word mode)
operation_spelled (Some Read) = search rules
operation_spelled (Some Write) = search rules
operation_spelled None = search rules

good_operation : (mode : Option Mode) (arguments : List Argument) (words : List (List ℕ)) (cause : Cause)
    → IsFirstBad (OpWord ∷ arguments) (operation_word mode ∷ words) cause → IsFirstBad arguments words cause
good_operation mode arguments words cause bad = good_then OpWord arguments (operation_word mode) words cause (operation_spelled mode) bad

good_nb : (cause : Cause) → IsFirstBad (NbWord ∷ []) (codes "nb" ∷ []) cause → ⊥
good_nb cause bad = good_then NbWord [] (codes "nb") [] cause refl bad

-- ---- the words of a request, read back

mode_in : List ℕ → Mode
mode_in word = cond (bytes_eq word (codes "r")) Read Write

operation_in : List ℕ → Option Mode
operation_in word = cond (bytes_eq word (codes "sh")) (Some Read) (cond (bytes_eq word (codes "ex")) (Some Write) None)

unfoldable number_at : ℕ → List (List ℕ) → ℕ
number_at place words = digits_value 10 (get_or words place [])

number_in-decimal : (n : ℕ) → n < 2 ^ 64 → digits_value 10 (decimal n) ≡ n
number_in-decimal n small = (decimal_is_IsNumeral n small).1

mode_in-word : (mode : Mode) → mode_in (mode_word mode) ≡ mode
unfolding mode_in
mode_in-word mode = search (rules)

operation_in-word : (mode : Option Mode) → operation_in (operation_word mode) ≡ mode
unfolding operation_in
operation_in-word mode = grind (arith, common_steps)

-- the line of a request, unless its bytes are turned
unfoldable checked : ℕ → ℕ → ℕ → Action → Result HistoryLine Cause
checked id file owner action = cond (is_turned_action action) (Err Number) (Ok (lines.Sent file (record { id = id; owner = owner; action = action })))

-- what an operation of flock says, with `nb` or without
unfoldable flock_said : ℕ → ℕ → ℕ → Option Mode → Bool → Result HistoryLine Cause
flock_said id file owner (Some mode) true = checked id file owner (Flock mode)
flock_said id file owner (Some mode) false = checked id file owner (FlockWait mode)
flock_said id file owner None true = Err Word
flock_said id file owner None false = checked id file owner FlockUnlock

unfoldable span_at : ℕ → List (List ℕ) → Span
span_at place words = record { first = number_at place words; last = number_at (suc place) words }

-- what words say that are those of a request
unfoldable said : ℕ → List (List ℕ) → Result HistoryLine Cause
said id words =
    let name = get_or words 0 [] in
    let file = number_at 1 words in
    let owner = number_at 2 words in
    let mode = mode_in (get_or words 3 []) in
    cond (bytes_eq name (codes "set")) (checked id file owner (Set mode (span_at 4 words)))
    (cond (bytes_eq name (codes "wait")) (checked id file owner (Wait mode (span_at 4 words)))
    (cond (bytes_eq name (codes "get")) (checked id file owner (Get mode (span_at 4 words)))
    (cond (bytes_eq name (codes "unlock")) (checked id file owner (Unlock (span_at 3 words)))
    (cond (bytes_eq name (codes "flock")) (flock_said id file owner (operation_in (get_or words 3 [])) (nat_lt 4 (length words)))
    (cond (bytes_eq name (codes "close")) (checked id file owner Close) (checked id file owner Gone))))))

-- the words of a request say that request, or that its bytes are turned
action_said : (id file owner : ℕ) (action : Action) → file < 2 ^ 64 → owner < 2 ^ 64 → AsksForSmallBytes action
    → said id (request_word action ∷ decimal file ∷ decimal owner ∷ action_words action) ≡ checked id file owner action
unfolding said number_at span_at flock_said
action_said id file owner (Set mode span) small_file small_owner small = λ i.
    checked id (number_in-decimal file small_file i) (number_in-decimal owner small_owner i)
    (Set (mode_in-word mode i) (record { first = number_in-decimal span.first small.0 i; last = number_in-decimal span.last small.1 i }))
action_said id file owner (Wait mode span) small_file small_owner small = λ i.
    checked id (number_in-decimal file small_file i) (number_in-decimal owner small_owner i)
    (Wait (mode_in-word mode i) (record { first = number_in-decimal span.first small.0 i; last = number_in-decimal span.last small.1 i }))
action_said id file owner (Get mode span) small_file small_owner small = λ i.
    checked id (number_in-decimal file small_file i) (number_in-decimal owner small_owner i)
    (Get (mode_in-word mode i) (record { first = number_in-decimal span.first small.0 i; last = number_in-decimal span.last small.1 i }))
action_said id file owner (Unlock span) small_file small_owner small = λ i.
    checked id (number_in-decimal file small_file i) (number_in-decimal owner small_owner i)
    (Unlock (record { first = number_in-decimal span.first small.0 i; last = number_in-decimal span.last small.1 i }))
action_said id file owner (Flock mode) small_file small_owner small = λ i.
    flock_said id (number_in-decimal file small_file i) (number_in-decimal owner small_owner i) (operation_in-word (Some mode) i) true
action_said id file owner (FlockWait mode) small_file small_owner small = λ i.
    flock_said id (number_in-decimal file small_file i) (number_in-decimal owner small_owner i) (operation_in-word (Some mode) i) false
action_said id file owner FlockUnlock small_file small_owner small = λ i.
    flock_said id (number_in-decimal file small_file i) (number_in-decimal owner small_owner i) (operation_in-word None i) false
action_said id file owner Close small_file small_owner small = λ i.
    checked id (number_in-decimal file small_file i) (number_in-decimal owner small_owner i) Close
action_said id file owner Gone small_file small_owner small = λ i.
    checked id (number_in-decimal file small_file i) (number_in-decimal owner small_owner i) Gone

-- `nb` behind `un` says that this word is none
nb_said : (id file owner : ℕ) → file < 2 ^ 64 → owner < 2 ^ 64
    → said id (codes "flock" ∷ decimal file ∷ decimal owner ∷ codes "un" ∷ codes "nb" ∷ []) ≡ Err Word
unfolding said number_at flock_said
nb_said id file owner small_file small_owner = λ i.
    flock_said id (number_in-decimal file small_file i) (number_in-decimal owner small_owner i) (operation_in-word None i) true

chosen : {X : Type 0} (test : Bool) (x y r : X) → MatchBool test (r ≡ x) (r ≡ y) → r ≡ cond test x y
chosen true x y r is = is
chosen false x y r is = is

checked_is : (file : ℕ) (request : Request) (result : Result HistoryLine Cause)
    → MatchBool (is_turned_action request.action) (result ≡ Err Number) (result ≡ Ok (lines.Sent file request))
    → result ≡ checked request.id file request.owner request.action
unfolding checked
checked_is file request result given = chosen (is_turned_action request.action) (Err Number) (Ok (lines.Sent file request)) result given

-- the words of a request and `nb`, where it is the removal of a flock lock
nb_words : (words : List (List ℕ)) (file owner : ℕ) (action : Action) → action ≡ FlockUnlock
    → words ≡ request_word action ∷ decimal file ∷ decimal owner ∷ (action_words action ++ codes "nb" ∷ [])
    → words ≡ codes "flock" ∷ decimal file ∷ decimal owner ∷ codes "un" ∷ codes "nb" ∷ []
nb_words words file owner action is are =
    are ∙ ap (λ a. request_word a ∷ decimal file ∷ decimal owner ∷ (action_words a ++ codes "nb" ∷ [])) is

-- what words say together is what they are read back as
said_so : (id : ℕ) (words : List (List ℕ)) (file : ℕ) (request : Request) (result : Result HistoryLine Cause) → request.id ≡ id
    → HasSmallNumbers file request → WordsGiveRequest words file request result → result ≡ said id words
said_so id words file request result own small (inl (are, given)) =
    checked_is file request result given
    ∙ (sym (action_said request.id file request.owner request.action small.small_file small.small_owner small.small_bytes)
    ∙ (λ i. said (own i) (sym are i)))
said_so id words file request result own small (inr (unlocks, are, is)) =
    is ∙ (sym (nb_said id file request.owner small.small_file small.small_owner)
    ∙ ap (said id) (sym (nb_words words file request.owner request.action unlocks are)))

-- the form of a request
form_of : Action → Command
form_of (Set mode span) = lock_request (codes "set")
form_of (Wait mode span) = lock_request (codes "wait")
form_of (Get mode span) = lock_request (codes "get")
form_of (Unlock span) = unlock_request
form_of (Flock mode) = flock_request
form_of (FlockWait mode) = flock_request
form_of FlockUnlock = flock_request
form_of Close = whole_request (codes "close")
form_of Gone = whole_request (codes "gone")

form_named : (action : Action) → find (λ form. bytes_eq form.name (request_word action)) requests ≡ Some (form_of action)
unfolding form_of
form_named (Set mode span) = refl
form_named (Wait mode span) = refl
form_named (Get mode span) = refl
form_named (Unlock span) = refl
form_named (Flock mode) = refl
form_named (FlockWait mode) = refl
form_named FlockUnlock = refl
form_named Close = refl
form_named Gone = refl

form_is : (name : List ℕ) (action : Action) (form : Command) → name ≡ request_word action
    → find (λ form. bytes_eq form.name name) requests ≡ Some form → form_of action ≡ form
form_is name action form is found =
    ap (λ o. unwrap_or o (form_of action)) (sym (form_named action) ∙ (ap (λ n. find (λ form. bytes_eq form.name n) requests) (sym is) ∙ found))

-- what a form may have behind its word
unfoldable places_of : Command → List Argument
places_of form = form.required ++ form.optional

good_places : (file owner : ℕ) (arguments : List Argument) (words : List (List ℕ)) (cause : Cause) → file < 2 ^ 64 → owner < 2 ^ 64
    → IsFirstBad (UnsignedNumber ∷ UnsignedNumber ∷ arguments) (decimal file ∷ decimal owner ∷ words) cause → IsFirstBad arguments words cause
good_places file owner arguments words cause small_file small_owner bad =
    good_number owner arguments words cause small_owner (good_number file (UnsignedNumber ∷ arguments) (decimal owner ∷ words) cause small_file bad)

good_lock : (file owner : ℕ) (mode : Mode) (span : Span) (cause : Cause) → file < 2 ^ 64 → owner < 2 ^ 64 → HasSmallBytes span
    → IsFirstBad (UnsignedNumber ∷ UnsignedNumber ∷ ModeWord ∷ UnsignedNumber ∷ UnsignedNumber ∷ [])
    (decimal file ∷ decimal owner ∷ mode_word mode ∷ span_words span) cause → ⊥
good_lock file owner mode span cause small_file small_owner small bad =
    good_span span cause small
    (good_mode mode (UnsignedNumber ∷ UnsignedNumber ∷ []) (span_words span) cause
    (good_places file owner (ModeWord ∷ UnsignedNumber ∷ UnsignedNumber ∷ []) (mode_word mode ∷ span_words span) cause small_file small_owner bad))

good_flock : (file owner : ℕ) (mode : Option Mode) (words : List (List ℕ)) (cause : Cause) → file < 2 ^ 64 → owner < 2 ^ 64
    → IsFirstBad (UnsignedNumber ∷ UnsignedNumber ∷ OpWord ∷ NbWord ∷ []) (decimal file ∷ decimal owner ∷ operation_word mode ∷ words) cause
    → IsFirstBad (NbWord ∷ []) words cause
good_flock file owner mode words cause small_file small_owner bad =
    good_operation mode (NbWord ∷ []) words cause
    (good_places file owner (OpWord ∷ NbWord ∷ []) (operation_word mode ∷ words) cause small_file small_owner bad)

-- none of the words of a request is bad
good_action : (file owner : ℕ) (action : Action) (cause : Cause) → file < 2 ^ 64 → owner < 2 ^ 64 → AsksForSmallBytes action
    → IsFirstBad (places_of (form_of action)) (decimal file ∷ decimal owner ∷ action_words action) cause → ⊥
unfolding form_of places_of
good_action file owner (Set mode span) cause small_file small_owner small bad = good_lock file owner mode span cause small_file small_owner small bad
good_action file owner (Wait mode span) cause small_file small_owner small bad = good_lock file owner mode span cause small_file small_owner small bad
good_action file owner (Get mode span) cause small_file small_owner small bad = good_lock file owner mode span cause small_file small_owner small bad
good_action file owner (Unlock span) cause small_file small_owner small bad =
    good_span span cause small (good_places file owner (UnsignedNumber ∷ UnsignedNumber ∷ []) (span_words span) cause small_file small_owner bad)
good_action file owner (Flock mode) cause small_file small_owner small bad =
    good_nb cause (good_flock file owner (Some mode) (codes "nb" ∷ []) cause small_file small_owner bad)
good_action file owner (FlockWait mode) cause small_file small_owner small bad = good_flock file owner (Some mode) [] cause small_file small_owner bad
good_action file owner FlockUnlock cause small_file small_owner small bad = good_flock file owner None [] cause small_file small_owner bad
good_action file owner Close cause small_file small_owner small bad = good_places file owner [] [] cause small_file small_owner bad
good_action file owner Gone cause small_file small_owner small bad = good_places file owner [] [] cause small_file small_owner bad

-- nor is `nb` behind `un` one by one
good_un_nb : (file owner : ℕ) (cause : Cause) → file < 2 ^ 64 → owner < 2 ^ 64
    → IsFirstBad (places_of (form_of FlockUnlock)) (decimal file ∷ decimal owner ∷ codes "un" ∷ codes "nb" ∷ []) cause → ⊥
unfolding form_of places_of
good_un_nb file owner cause small_file small_owner bad =
    good_nb cause (good_flock file owner None (codes "nb" ∷ []) cause small_file small_owner bad)

-- so of words that say something together none is bad
no_bad : (form : Command) (name : List ℕ) (arguments : List (List ℕ)) (file : ℕ) (request : Request) (result : Result HistoryLine Cause)
    (cause : Cause) → find (λ form. bytes_eq form.name name) requests ≡ Some form → HasSmallNumbers file request
    → WordsGiveRequest (name ∷ arguments) file request result → IsFirstBad (places_of form) arguments cause → ⊥
no_bad form name arguments file request result cause found small (inl (are, given)) bad =
    let is : name ≡ request_word request.action = cc in
    let rest : arguments ≡ decimal file ∷ decimal request.owner ∷ action_words request.action = cc in
    let same = form_is name request.action form is found in
    good_action file request.owner request.action cause small.small_file small.small_owner small.small_bytes
    (subst (λ f. IsFirstBad (places_of f) (decimal file ∷ decimal request.owner ∷ action_words request.action) cause) (sym same)
    (subst (λ l. IsFirstBad (places_of form) l cause) rest bad))
no_bad form name arguments file request result cause found small (inr (unlocks, are, given)) bad =
    let spelled = nb_words (name ∷ arguments) file request.owner request.action unlocks are in
    let is : name ≡ codes "flock" = cc in
    let rest : arguments ≡ decimal file ∷ decimal request.owner ∷ codes "un" ∷ codes "nb" ∷ [] = cc in
    let same = form_is name FlockUnlock form is found in
    good_un_nb file request.owner cause small.small_file small.small_owner
    (subst (λ f. IsFirstBad (places_of f) (decimal file ∷ decimal request.owner ∷ codes "un" ∷ codes "nb" ∷ []) cause) (sym same)
    (subst (λ l. IsFirstBad (places_of form) l cause) rest bad))

ArgumentsGive-unique : (id : ℕ) (form : Command) (name : List ℕ) (arguments : List (List ℕ))
    → find (λ form. bytes_eq form.name name) requests ≡ Some form → (a b : Result HistoryLine Cause)
    → ArgumentsGive id (name ∷ arguments) form arguments a → ArgumentsGive id (name ∷ arguments) form arguments b → a ≡ b
unfolding places_of
ArgumentsGive-unique id form name arguments found a b (inl (cause, bad, is)) (inl (other, bad', is')) =
    is ∙ (ap Err (IsFirstBad-unique (form.required ++ form.optional) arguments cause other bad bad') ∙ sym is')
ArgumentsGive-unique id form name arguments found a b (inl (cause, bad, is)) (inr (file, request, own, small, given)) =
    absurd (no_bad form name arguments file request b cause found small given bad)
ArgumentsGive-unique id form name arguments found a b (inr (file, request, own, small, given)) (inl (cause, bad, is)) =
    absurd (no_bad form name arguments file request a cause found small given bad)
ArgumentsGive-unique id form name arguments found a b (inr (file, request, own, small, given)) (inr (file', request', own', small', given')) =
    said_so id (name ∷ arguments) file request a own small given ∙ sym (said_so id (name ∷ arguments) file' request' b own' small' given')

found_unique : (id : ℕ) (name : List ℕ) (arguments : List (List ℕ)) (found : Option Command)
    → find (λ form. bytes_eq form.name name) requests ≡ found → (a b : Result HistoryLine Cause)
    → MatchOption found (a ≡ Err Word) (λ form. RequestIsGiven id form name arguments a)
    → MatchOption found (b ≡ Err Word) (λ form. RequestIsGiven id form name arguments b) → a ≡ b
found_unique id name arguments None found a b first second = same_value (Err Word) a b first second
found_unique id name arguments (Some form) found a b first second =
    MatchBool-unique (ArgumentsGive id (name ∷ arguments) form arguments) (λ r. r ≡ Err Count) (has_count form (length arguments))
    (ArgumentsGive-unique id form name arguments found) (same_value (Err Count)) a b first second

SentGives-unique : (id : ℕ) (words : List (List ℕ)) (a b : Result HistoryLine Cause) → SentGives id words a → SentGives id words b → a ≡ b
SentGives-unique id [] a b first second = same_value (Err Count) a b first second
SentGives-unique id (name ∷ arguments) a b first second =
    found_unique id name arguments (find (λ form. bytes_eq form.name name) requests) refl a b first second

-- ---- the words of an answer, read back

not_sign : (n : ℕ) → n < 2 ^ 64 → decimal n ≡ codes "-" → ⊥
not_sign n small is =
    let digits : AllDigits 10 (codes "-") = subst (AllDigits 10) is (decimal_is_IsNumeral n small).0.1 in
    omega (arith, digit_from_value 45 digits.0)

owner_in : List ℕ → Option ℕ
owner_in word = cond (bytes_eq word (codes "-")) None (Some (digits_value 10 word))

owner_in-word : (owner : Option ℕ) → HasSmallOwner owner → owner_in (owner_word owner) ≡ owner
unfolding owner_in
owner_in-word None small = refl
owner_in-word (Some n) small =
    let differs : bytes_eq (decimal n) (codes "-") ≡ false =
    false_from_ne_true (bytes_eq (decimal n) (codes "-")) (λ same. not_sign n small ((bytes_eq-Decides (decimal n) (codes "-")).0 same)) in
    rw (differs, number_in-decimal n small) refl

owner_spelled : (owner : Option ℕ) → HasSmallOwner owner → IsOwner (owner_word owner)
owner_spelled None small = inl refl
owner_spelled (Some n) small = inr (n, small, refl)

-- the line of an answer, unless its bytes are turned
unfoldable checked_answer : ℕ → Answer → Result HistoryLine Cause
checked_answer id answer = cond (is_turned_answer answer) (Err Number) (Ok (lines.Answered id answer))

unfoldable told : ℕ → List (List ℕ) → Result HistoryLine Cause
told id words =
    let name = get_or words 0 [] in
    cond (bytes_eq name (codes "ok")) (checked_answer id Done)
    (cond (bytes_eq name (codes "busy")) (checked_answer id Busy)
    (cond (bytes_eq name (codes "EINTR")) (checked_answer id Interrupted)
    (cond (bytes_eq name (codes "EDEADLK")) (checked_answer id Deadlock)
    (cond (bytes_eq name (codes "free")) (checked_answer id Free)
    (cond (bytes_eq name (codes "held")) (checked_answer id (Held (owner_in (get_or words 1 [])) (mode_in (get_or words 2 [])) (span_at 3 words)))
    (checked_answer id Error))))))

answer_told : (id : ℕ) (answer : Answer) → TellsSmallNumbers answer → told id (answer_words answer) ≡ checked_answer id answer
unfolding told number_at span_at
answer_told id Done small = refl
answer_told id Busy small = refl
answer_told id Interrupted small = refl
answer_told id Deadlock small = refl
answer_told id Free small = refl
answer_told id (Held owner mode span) (small, few) = λ i.
    checked_answer id
    (Held (owner_in-word owner small i) (mode_in-word mode i)
    (record { first = number_in-decimal span.first few.0 i; last = number_in-decimal span.last few.1 i }))
answer_told id Error small = refl

checked_answer_is : (id : ℕ) (answer : Answer) (result : Result HistoryLine Cause)
    → MatchBool (is_turned_answer answer) (result ≡ Err Number) (result ≡ Ok (lines.Answered id answer)) → result ≡ checked_answer id answer
unfolding checked_answer
checked_answer_is id answer result given = chosen (is_turned_answer answer) (Err Number) (Ok (lines.Answered id answer)) result given

told_so : (id : ℕ) (words : List (List ℕ)) (answer : Answer) (result : Result HistoryLine Cause) → TellsSmallNumbers answer
    → words ≡ answer_words answer
    → MatchBool (is_turned_answer answer) (result ≡ Err Number) (result ≡ Ok (lines.Answered id answer)) → result ≡ told id words
told_so id words answer result small are given =
    checked_answer_is id answer result given ∙ (sym (answer_told id answer small) ∙ ap (told id) (sym are))

IsFirstBadOfHeld-unique : (words : List (List ℕ)) (a b : Cause) → IsFirstBadOfHeld words a → IsFirstBadOfHeld words b → a ≡ b
IsFirstBadOfHeld-unique [] a b first second = absurd first
IsFirstBadOfHeld-unique (owner ∷ words) a b (inl first) (inl second) =
    IsFirstBad-unique (ModeWord ∷ UnsignedNumber ∷ UnsignedNumber ∷ []) words a b first.1 second.1
IsFirstBadOfHeld-unique (owner ∷ words) a b (inl first) (inr second) = absurd (second.0 first.0)
IsFirstBadOfHeld-unique (owner ∷ words) a b (inr first) (inl second) = absurd (first.0 second.0)
IsFirstBadOfHeld-unique (owner ∷ words) a b (inr first) (inr second) = first.1 ∙ sym second.1

good_told : (answer : Answer) (cause : Cause) → TellsSmallNumbers answer → IsFirstBadOfHeld (told_words answer) cause → ⊥
good_told Done cause small bad = bad
good_told Busy cause small bad = bad
good_told Interrupted cause small bad = bad
good_told Deadlock cause small bad = bad
good_told Free cause small bad = bad
good_told (Held owner mode span) cause small (inl bad) =
    good_span span cause small.1 (good_mode mode (UnsignedNumber ∷ UnsignedNumber ∷ []) (span_words span) cause bad.1)
good_told (Held owner mode span) cause small (inr bad) = bad.0 (owner_spelled owner small.0)
good_told Error cause small bad = bad

no_bad_told : (name : List ℕ) (words : List (List ℕ)) (answer : Answer) (cause : Cause) → TellsSmallNumbers answer
    → name ∷ words ≡ answer_words answer → IsFirstBadOfHeld words cause → ⊥
no_bad_told name words answer cause small are bad =
    let rest : words ≡ told_words answer = cc in
    good_told answer cause small (subst (λ l. IsFirstBadOfHeld l cause) rest bad)

ToldGives-unique : (id : ℕ) (name : List ℕ) (words : List (List ℕ)) (a b : Result HistoryLine Cause) → ToldGives id (name ∷ words) words a
    → ToldGives id (name ∷ words) words b → a ≡ b
ToldGives-unique id name words a b (inl (cause, bad, is)) (inl (other, bad', is')) =
    is ∙ (ap Err (IsFirstBadOfHeld-unique words cause other bad bad') ∙ sym is')
ToldGives-unique id name words a b (inl (cause, bad, is)) (inr (answer, small, are, given)) =
    absurd (no_bad_told name words answer cause small are bad)
ToldGives-unique id name words a b (inr (answer, small, are, given)) (inl (cause, bad, is)) =
    absurd (no_bad_told name words answer cause small are bad)
ToldGives-unique id name words a b (inr (answer, small, are, given)) (inr (answer', small', are', given')) =
    told_so id (name ∷ words) answer a small are given ∙ sym (told_so id (name ∷ words) answer' b small' are' given')

AnsweredGives-unique : (id : ℕ) (action : Action) (words : List (List ℕ)) (a b : Result HistoryLine Cause) → AnsweredGives id action words a
    → AnsweredGives id action words b → a ≡ b
AnsweredGives-unique id action [] a b first second = same_value (Err Count) a b first second
AnsweredGives-unique id action (name ∷ words) a b first second =
    MatchBool-unique (AnswerIsGiven id name words) (λ r. r ≡ Err Word) (has_answer action name)
    (MatchBool-unique (ToldGives id (name ∷ words) words) (λ r. r ≡ Err Count) (length words == told_count name)
    (ToldGives-unique id name words) (same_value (Err Count)))
    (same_value (Err Word)) a b first second

-- ---- a line

MaySend-unique : (id : ℕ) (requested : Option Action) (words : List (List ℕ)) (a b : Result HistoryLine Cause) → MaySend id requested words a
    → MaySend id requested words b → a ≡ b
MaySend-unique id None words a b first second = SentGives-unique id words a b first second
MaySend-unique id (Some action) words a b first second = same_value (Err Tag) a b first second

MayAnswer-unique : (id : ℕ) (requested : Option Action) (words : List (List ℕ)) (a b : Result HistoryLine Cause) → MayAnswer id requested words a
    → MayAnswer id requested words b → a ≡ b
MayAnswer-unique id None words a b first second = same_value (Err Tag) a b first second
MayAnswer-unique id (Some action) words a b first second = AnsweredGives-unique id action words a b first second

-- words that are named have an ID
not_both : (words : List (List ℕ)) (id : ℕ) (others : List (List ℕ)) (cause : Cause) → AreNamed words id others → AreNotNamed words cause → ⊥
not_both [] id others cause named not = let are : [] ≡ decimal id ∷ others = named.are in cc
not_both (word ∷ []) id others cause named not =
    named.some (let are : word ∷ [] ≡ decimal id ∷ others = named.are in cc)
not_both (word ∷ next ∷ words) id others cause named not =
    not.0 (id, named.small, (let are : word ∷ next ∷ words ≡ decimal id ∷ others = named.are in cc))

AreNotNamed-unique : (words : List (List ℕ)) (a b : Cause) → AreNotNamed words a → AreNotNamed words b → a ≡ b
AreNotNamed-unique [] a b first second = first ∙ sym second
AreNotNamed-unique (word ∷ []) a b first second = first ∙ sym second
AreNotNamed-unique (word ∷ next ∷ words) a b first second = first.1 ∙ sym second.1

NamedGives-unique : (Gives : ℕ → List (List ℕ) → Result HistoryLine Cause → Type 0)
    → ((id : ℕ) (words : List (List ℕ)) (a b : Result HistoryLine Cause) → Gives id words a → Gives id words b → a ≡ b)
    → (words : List (List ℕ)) (a b : Result HistoryLine Cause) → NamedGives Gives words a → NamedGives Gives words b → a ≡ b
NamedGives-unique Gives unique words a b (inl (id, others, named, given)) (inl (id', others', named', given')) =
    let are : decimal id ∷ others ≡ decimal id' ∷ others' = sym named.are ∙ named'.are in
    let spelled : decimal id ≡ decimal id' = cc in
    let rest : others ≡ others' = cc in
    let same : id ≡ id' = decimal_injective id id' named.small named'.small spelled in
    unique id' others' a b (subst (λ l. Gives id' l a) rest (subst (λ n. Gives n others a) same given)) given'
NamedGives-unique Gives unique words a b (inl (id, others, named, given)) (inr (cause, not, is)) = absurd (not_both words id others cause named not)
NamedGives-unique Gives unique words a b (inr (cause, not, is)) (inl (id, others, named, given)) = absurd (not_both words id others cause named not)
NamedGives-unique Gives unique words a b (inr (cause, not, is)) (inr (other, not', is')) =
    is ∙ (ap Err (AreNotNamed-unique words cause other not not') ∙ sym is')

WordsGive-unique : (requested : ℕ → Option Action) (words : List (List ℕ)) (a b : Result HistoryLine Cause) → WordsGive requested words a
    → WordsGive requested words b → a ≡ b
WordsGive-unique requested [] a b first second = same_value (Ok lines.Skipped) a b first second
WordsGive-unique requested (word ∷ words) a b first second =
    let Sends : Result HistoryLine Cause → Type 0 = NamedGives (λ id. MaySend id (requested id)) words in
    let Answers : Result HistoryLine Cause → Type 0 = NamedGives (λ id. MayAnswer id (requested id)) words in
    let Other : Result HistoryLine Cause → Type 0 = (λ r. MatchBool (bytes_eq word (codes "<")) (Answers r) (r ≡ Err Word)) in
    MatchBool-unique Sends Other (bytes_eq word (codes ">"))
    (NamedGives-unique (λ id. MaySend id (requested id)) (λ id. MaySend-unique id (requested id)) words)
    (MatchBool-unique Answers (λ r. r ≡ Err Word) (bytes_eq word (codes "<"))
    (NamedGives-unique (λ id. MayAnswer id (requested id)) (λ id. MayAnswer-unique id (requested id)) words) (same_value (Err Word)))
    a b first second

-- a line says one thing at most
pub one_reading : LinesHaveOneReading
one_reading requested line a b first second =
    let Text : Result HistoryLine Cause → Type 0 = TextGives requested line in
    let Printable : Result HistoryLine Cause → Type 0 = (λ r. MatchBool (is_printable line) (Text r) (r ≡ Err Byte)) in
    MatchBool-unique (λ r. r ≡ Err TooLong) Printable (nat_lt line_limit (length line)) (same_value (Err TooLong))
    (MatchBool-unique Text (λ r. r ≡ Err Byte) (is_printable line)
    (MatchBool-unique (λ r. r ≡ Ok lines.Skipped) (WordsGive requested (words_of line)) (begins_with_hash line) (same_value (Ok lines.Skipped))
    (WordsGive-unique requested (words_of line)))
    (same_value (Err Byte)))
    a b first second

-- What is written behind an ID is read back: for `requests_are_read_back` and `answers_are_read_back`.
use Rattle.history_text.proofs.Common.{common_steps, ◌≡◌, ℕ, ◌^◌, ◌<◌, ◌≤◌, Bool, true, false, Option, Some, None, List, [], ◌∷◌, length, codes, decimal, Ok, inl, inr, refl, sym, subst, arith}
use Rattle.history_text.proofs.Common.{Mode, Span, words_of, is_printable, begins_with_hash, line_limit, mode_word, Command, Action, Flock, FlockUnlock, Close, Gone, Answer, Done, Busy, Interrupted, Deadlock, Free, Held, Error, HistoryLine, span_words, HasSmallBytes, request_word, action_words, is_turned_action, AsksForSmallBytes, owner_word, told_words, is_turned_answer, HasSmallOwner, TellsSmallNumbers, ArgumentsGive, flock_request, whole_request, SentGives, AnswerIsGiven, MaySend, MayAnswer, WordsGive}
use Rattle.std.proofs.Common.{◌+◌, ◌==◌, nat_le, nat_lt, not, ◌&&◌, ◌++◌, filter, tests, lit<, lit≤, length-append, append_assoc}
use Rattle.std.specs.Str.Parse.{AllDigits}
use Rattle.std.specs.List.{list_all, slice_split, join_with_byte}
use Rattle.std.proofs.lemmas.Fmt.{decimal_is_IsNumeral, length-decimal-le}
use Rattle.std.proofs.lemmas.Str.Parse.{digit_from_value}
use Rattle.std.proofs.lemmas.Bool.{le-ltb}
use Rattle.std.proofs.lemmas.Bool.Decides.{nat_tests}
use Rattle.range_core.specs.declared.Mode.TheVariants.{Read, Write}
use Rattle.history_core.specs.declared.request.Request.{Request}
use Rattle.history_core.specs.declared.request.Action.TheVariants.{Set, Wait, Get, Unlock, FlockWait}
use Rattle.history_text.specs.declared.line.HistoryLine.TheVariants as lines
use Rattle.history_text.specs.HistoryText.{operation_word, request_words, HasSmallNumbers, answer_word, answer_words}
use Rattle.history_text.specs.HistoryReading.{lock_request, unlock_request, AreNamed, LineGives, RequestsAreReadBack, AnswersAreReadBack}
use Rattle.history_text.proofs.RequestLemmas.{request_given}

-- ---- words in a line

-- each byte is one that the words of a history have: printable, and no space
unfoldable AreVisible : List ℕ → Type 0
AreVisible [] = Unit {0}
AreVisible (byte ∷ bytes) = (33 ≤ byte) × (byte ≤ 122) × AreVisible bytes

-- one visible byte or more
record IsWord (word : List ℕ) : Type 0 where
  some : 0 < length word
  visible : AreVisible word

unfoldable AreWords : List (List ℕ) → Type 0
AreWords [] = Unit {0}
AreWords (word ∷ words) = IsWord word × AreWords words

-- whether the bytes are a word
abbrev is_word : List ℕ → Bool
is_word word = nat_lt 0 (length word) && list_all (λ byte. nat_le 33 byte && nat_le byte 122) word

AreVisible-tested : (bytes : List ℕ) → list_all (λ byte. nat_le 33 byte && nat_le byte 122) bytes ≡ true → AreVisible bytes
unfolding AreVisible
AreVisible-tested [] tested = tt
AreVisible-tested (byte ∷ bytes) tested = grind (arith, common_steps, AreVisible-tested bytes)

IsWord-tested : (word : List ℕ) → is_word word ≡ true → IsWord word
IsWord-tested word tested = record { some = grind (arith, tests); visible = AreVisible-tested word (grind (arith, tests)) }

AreVisible-digits : (bytes : List ℕ) → AllDigits 10 bytes → AreVisible bytes
unfolding AreVisible
AreVisible-digits [] digits = tt
AreVisible-digits (byte ∷ bytes) digits = grind (arith, common_steps, digit_from_value, AreVisible-digits bytes)

IsWord-decimal : (n : ℕ) → n < 2 ^ 64 → IsWord (decimal n)
IsWord-decimal n small =
    let numeral = (decimal_is_IsNumeral n small).0 in
    record { some = numeral.0; visible = AreVisible-digits (decimal n) numeral.1 }

not_space : (byte : ℕ) → 33 ≤ byte → (byte == 32) ≡ false
not_space byte visible = grind (arith, nat_tests)

slice_split-word : (word : List ℕ) → AreVisible word → slice_split (λ byte. byte == 32) word ≡ word ∷ []
unfolding AreVisible
slice_split-word [] visible = refl
slice_split-word (byte ∷ bytes) visible = rw (not_space byte visible.0, slice_split-word bytes visible.2) refl

slice_split-words : (word rest : List ℕ) → AreVisible word
    → slice_split (λ byte. byte == 32) (word ++ 32 ∷ rest) ≡ word ∷ slice_split (λ byte. byte == 32) rest
unfolding AreVisible
slice_split-words [] rest visible = refl
slice_split-words (byte ∷ bytes) rest visible = rw (not_space byte visible.0, slice_split-words bytes rest visible.2) refl

slice_split-join : (word : List ℕ) (words : List (List ℕ)) → AreWords (word ∷ words)
    → slice_split (λ byte. byte == 32) (join_with_byte 32 (word ∷ words)) ≡ word ∷ words
unfolding AreWords
slice_split-join word [] are = slice_split-word word are.0.visible
slice_split-join word (next ∷ words) are = grind (arith, common_steps, slice_split-words, slice_split-join next words)

not_empty : (n : ℕ) → 0 < n → not (n == 0) ≡ true
not_empty n some = grind (arith, nat_tests)

filter-words : (words : List (List ℕ)) → AreWords words → filter (λ word. not (length word == 0)) words ≡ words
unfolding AreWords
filter-words [] are = refl
filter-words (word ∷ words) are = rw (not_empty (length word) are.0.some, filter-words words are.1) refl

-- words with one space between each two are the words of their line
words_of-join : (word : List ℕ) (words : List (List ℕ)) → AreWords (word ∷ words) → words_of (join_with_byte 32 (word ∷ words)) ≡ word ∷ words
words_of-join word words are = grind (arith, common_steps, slice_split-join, filter-words)

printable_byte : (byte : ℕ) → 33 ≤ byte → byte ≤ 122 → (nat_le 32 byte && nat_le byte 126) ≡ true
printable_byte byte low high = grind (arith, nat_tests)

is_printable-word : (word : List ℕ) → AreVisible word → is_printable word ≡ true
unfolding AreVisible
is_printable-word [] visible = refl
is_printable-word (byte ∷ bytes) visible = rw (printable_byte byte visible.0 visible.1) (is_printable-word bytes visible.2)

is_printable-words : (word rest : List ℕ) → AreVisible word → is_printable rest ≡ true → is_printable (word ++ 32 ∷ rest) ≡ true
unfolding AreVisible
is_printable-words [] rest visible printable = printable
is_printable-words (byte ∷ bytes) rest visible printable =
    rw (printable_byte byte visible.0 visible.1) (is_printable-words bytes rest visible.2 printable)

is_printable-join : (word : List ℕ) (words : List (List ℕ)) → AreWords (word ∷ words)
    → is_printable (join_with_byte 32 (word ∷ words)) ≡ true
unfolding AreWords
is_printable-join word [] are = is_printable-word word are.0.visible
is_printable-join word (next ∷ words) are =
    is_printable-words word (join_with_byte 32 (next ∷ words)) are.0.visible (is_printable-join next words are.1)

-- how many bytes further words take, each behind its space
unfoldable more_length : List (List ℕ) → ℕ
more_length [] = 0
more_length (word ∷ words) = 1 + length word + more_length words

length-join : (word : List ℕ) (words : List (List ℕ)) → length (join_with_byte 32 (word ∷ words)) ≡ length word + more_length words
unfolding more_length
length-join word [] = omega arith
length-join word (next ∷ words) = omega (arith, length-append word (32 ∷ join_with_byte 32 (next ∷ words)), length-join next words)

-- ---- the words of a request and of an answer

length-number : (n : ℕ) → n < 2 ^ 64 → length (decimal n) ≤ 20
length-number n small = length-decimal-le 20 n (lit< tt) (omega (arith, small)) small

IsWord-mode_word : (mode : Mode) → IsWord (mode_word mode)
IsWord-mode_word Read = IsWord-tested (mode_word Read) refl
IsWord-mode_word Write = IsWord-tested (mode_word Write) refl

IsWord-operation_word : (mode : Option Mode) → IsWord (operation_word mode)
IsWord-operation_word (Some Read) = IsWord-tested (codes "sh") refl
IsWord-operation_word (Some Write) = IsWord-tested (codes "ex") refl
IsWord-operation_word None = IsWord-tested (codes "un") refl

IsWord-request_word : (action : Action) → IsWord (request_word action)
IsWord-request_word (Set mode span) = IsWord-tested (codes "set") refl
IsWord-request_word (Wait mode span) = IsWord-tested (codes "wait") refl
IsWord-request_word (Get mode span) = IsWord-tested (codes "get") refl
IsWord-request_word (Unlock span) = IsWord-tested (codes "unlock") refl
IsWord-request_word (Flock mode) = IsWord-tested (codes "flock") refl
IsWord-request_word (FlockWait mode) = IsWord-tested (codes "flock") refl
IsWord-request_word FlockUnlock = IsWord-tested (codes "flock") refl
IsWord-request_word Close = IsWord-tested (codes "close") refl
IsWord-request_word Gone = IsWord-tested (codes "gone") refl

AreWords-span_words : (span : Span) → HasSmallBytes span → AreWords (span_words span)
unfolding AreWords
AreWords-span_words span small = (IsWord-decimal span.first small.0, (IsWord-decimal span.last small.1, tt))

AreWords-action_words : (action : Action) → AsksForSmallBytes action → AreWords (action_words action)
unfolding AreWords
AreWords-action_words (Set mode span) small = (IsWord-mode_word mode, AreWords-span_words span small)
AreWords-action_words (Wait mode span) small = (IsWord-mode_word mode, AreWords-span_words span small)
AreWords-action_words (Get mode span) small = (IsWord-mode_word mode, AreWords-span_words span small)
AreWords-action_words (Unlock span) small = AreWords-span_words span small
AreWords-action_words (Flock mode) small = (IsWord-operation_word (Some mode), (IsWord-tested (codes "nb") refl, tt))
AreWords-action_words (FlockWait mode) small = (IsWord-operation_word (Some mode), tt)
AreWords-action_words FlockUnlock small = (IsWord-operation_word None, tt)
AreWords-action_words Close small = tt
AreWords-action_words Gone small = tt

AreWords-request_words : (file : ℕ) (request : Request) → HasSmallNumbers file request → AreWords (request_words file request)
unfolding AreWords
AreWords-request_words file request small = (
  IsWord-request_word request.action,
  (IsWord-decimal file small.small_file, (IsWord-decimal request.owner small.small_owner, AreWords-action_words request.action small.small_bytes)),
)

IsWord-answer_word : (answer : Answer) → IsWord (answer_word answer)
IsWord-answer_word Done = IsWord-tested (codes "ok") refl
IsWord-answer_word Busy = IsWord-tested (codes "busy") refl
IsWord-answer_word Interrupted = IsWord-tested (codes "EINTR") refl
IsWord-answer_word Deadlock = IsWord-tested (codes "EDEADLK") refl
IsWord-answer_word Free = IsWord-tested (codes "free") refl
IsWord-answer_word (Held owner mode span) = IsWord-tested (codes "held") refl
IsWord-answer_word Error = IsWord-tested (codes "error") refl

IsWord-owner_word : (owner : Option ℕ) → HasSmallOwner owner → IsWord (owner_word owner)
IsWord-owner_word (Some owner) small = IsWord-decimal owner small
IsWord-owner_word None small = IsWord-tested (codes "-") refl

AreWords-told_words : (answer : Answer) → TellsSmallNumbers answer → AreWords (told_words answer)
unfolding AreWords
AreWords-told_words Done small = tt
AreWords-told_words Busy small = tt
AreWords-told_words Interrupted small = tt
AreWords-told_words Deadlock small = tt
AreWords-told_words Free small = tt
AreWords-told_words (Held owner mode span) small = (IsWord-owner_word owner small.0, (IsWord-mode_word mode, AreWords-span_words span small.1))
AreWords-told_words Error small = tt

AreWords-answer_words : (answer : Answer) → TellsSmallNumbers answer → AreWords (answer_words answer)
unfolding AreWords
AreWords-answer_words answer small = (IsWord-answer_word answer, AreWords-told_words answer small)

length-request_word : (action : Action) → length (request_word action) ≤ 6
length-request_word action = grind (arith, common_steps)

length-answer_word : (answer : Answer) → length (answer_word answer) ≤ 7
length-answer_word answer = grind (arith, common_steps)

length-mode_word : (mode : Mode) → length (mode_word mode) ≤ 1
length-mode_word mode = grind (arith, common_steps)

length-owner_word : (owner : Option ℕ) → HasSmallOwner owner → length (owner_word owner) ≤ 20
length-owner_word (Some owner) small = length-number owner small
length-owner_word None small = lit≤ tt

length-operation_word : (mode : Option Mode) → length (operation_word mode) ≤ 2
length-operation_word (Some Read) = lit≤ tt
length-operation_word (Some Write) = lit≤ tt
length-operation_word None = lit≤ tt

more_length-span_words : (span : Span) → HasSmallBytes span → more_length (span_words span) ≤ 42
unfolding more_length
more_length-span_words span small = omega (arith, length-number span.first small.0, length-number span.last small.1)

more_length-action_words : (action : Action) → AsksForSmallBytes action → more_length (action_words action) ≤ 44
unfolding more_length
more_length-action_words (Set mode span) small = omega (arith, length-mode_word mode, more_length-span_words span small)
more_length-action_words (Wait mode span) small = omega (arith, length-mode_word mode, more_length-span_words span small)
more_length-action_words (Get mode span) small = omega (arith, length-mode_word mode, more_length-span_words span small)
more_length-action_words (Unlock span) small = omega (arith, more_length-span_words span small)
more_length-action_words (Flock mode) small = omega (arith, length-operation_word (Some mode))
more_length-action_words (FlockWait mode) small = omega (arith, length-operation_word (Some mode))
more_length-action_words FlockUnlock small = lit≤ tt
more_length-action_words Close small = lit≤ tt
more_length-action_words Gone small = lit≤ tt

more_length-request_words : (file : ℕ) (request : Request) → HasSmallNumbers file request → more_length (request_words file request) ≤ 93
unfolding more_length
more_length-request_words file request small =
    let file_length = length-number file small.small_file in
    let owner_length = length-number request.owner small.small_owner in
    omega (arith, length-request_word request.action, file_length, owner_length, more_length-action_words request.action small.small_bytes)

more_length-told_words : (answer : Answer) → TellsSmallNumbers answer → more_length (told_words answer) ≤ 65
unfolding more_length
more_length-told_words Done small = lit≤ tt
more_length-told_words Busy small = lit≤ tt
more_length-told_words Interrupted small = lit≤ tt
more_length-told_words Deadlock small = lit≤ tt
more_length-told_words Free small = lit≤ tt
more_length-told_words (Held owner mode span) small =
    omega (arith, length-owner_word owner small.0, length-mode_word mode, more_length-span_words span small.1)
more_length-told_words Error small = lit≤ tt

more_length-answer_words : (answer : Answer) → TellsSmallNumbers answer → more_length (answer_words answer) ≤ 73
unfolding more_length
more_length-answer_words answer small = omega (arith, length-answer_word answer, more_length-told_words answer small)

-- ---- a line of them

-- words that say something, behind a sign and an ID, say it as a line
line_gives : (requested : ℕ → Option Action) (sign id : List ℕ) (words : List (List ℕ)) (said : HistoryLine) → length sign ≡ 1 → length id ≤ 20
    → more_length words ≤ 93
    → AreWords (sign ∷ id ∷ words) → begins_with_hash (join_with_byte 32 (sign ∷ id ∷ words)) ≡ false
    → WordsGive requested (sign ∷ id ∷ words) (Ok said) → LineGives requested (join_with_byte 32 (sign ∷ id ∷ words)) (Ok said)
unfolding more_length
line_gives requested sign id words said one short few are plain given =
    let line = join_with_byte 32 (sign ∷ id ∷ words) in
    let fits : length line ≤ line_limit = omega (arith, length-join sign (id ∷ words)) in
    let long : nat_lt line_limit (length line) ≡ false = le-ltb line_limit (length line) fits in
    rw (long, is_printable-join sign (id ∷ words) are, plain, words_of-join sign (id ∷ words) are) given

-- the words of a request with its bytes in order give it
sent_as : (id : ℕ) (form : Command) (arguments : List (List ℕ)) (file owner : ℕ) (action : Action) → file < 2 ^ 64 → owner < 2 ^ 64
    → AsksForSmallBytes action → is_turned_action action ≡ false
    → ArgumentsGive id (request_word action ∷ decimal file ∷ decimal owner ∷ action_words action) form arguments
    (Ok (lines.Sent file (record { id = id; owner = owner; action = action })))
sent_as id form arguments file owner action small_file small_owner small straight =
    request_given id form _ arguments file owner action _ refl small_file small_owner small (rw straight refl)

-- the words of a request are read as it
sent_by : (id file owner : ℕ) (action : Action) → file < 2 ^ 64 → owner < 2 ^ 64 → AsksForSmallBytes action → is_turned_action action ≡ false
    → SentGives id (request_word action ∷ decimal file ∷ decimal owner ∷ action_words action)
    (Ok (lines.Sent file (record { id = id; owner = owner; action = action })))
sent_by id file owner (Set mode span) small_file small_owner small straight =
    sent_as id (lock_request (codes "set")) (decimal file ∷ decimal owner ∷ mode_word mode ∷ span_words span)
    file owner (Set mode span) small_file small_owner small straight
sent_by id file owner (Wait mode span) small_file small_owner small straight =
    sent_as id (lock_request (codes "wait")) (decimal file ∷ decimal owner ∷ mode_word mode ∷ span_words span)
    file owner (Wait mode span) small_file small_owner small straight
sent_by id file owner (Get mode span) small_file small_owner small straight =
    sent_as id (lock_request (codes "get")) (decimal file ∷ decimal owner ∷ mode_word mode ∷ span_words span)
    file owner (Get mode span) small_file small_owner small straight
sent_by id file owner (Unlock span) small_file small_owner small straight =
    sent_as id unlock_request (decimal file ∷ decimal owner ∷ span_words span) file owner (Unlock span) small_file small_owner small straight
sent_by id file owner (Flock mode) small_file small_owner small straight =
    sent_as id flock_request (decimal file ∷ decimal owner ∷ operation_word (Some mode) ∷ codes "nb" ∷ [])
    file owner (Flock mode) small_file small_owner small straight
sent_by id file owner (FlockWait mode) small_file small_owner small straight =
    sent_as id flock_request (decimal file ∷ decimal owner ∷ operation_word (Some mode) ∷ [])
    file owner (FlockWait mode) small_file small_owner small straight
sent_by id file owner FlockUnlock small_file small_owner small straight =
    sent_as id flock_request (decimal file ∷ decimal owner ∷ operation_word None ∷ []) file owner FlockUnlock small_file small_owner small straight
sent_by id file owner Close small_file small_owner small straight =
    sent_as id (whole_request (codes "close")) (decimal file ∷ decimal owner ∷ []) file owner Close small_file small_owner small straight
sent_by id file owner Gone small_file small_owner small straight =
    sent_as id (whole_request (codes "gone")) (decimal file ∷ decimal owner ∷ []) file owner Gone small_file small_owner small straight

-- the words of an answer are read as it
told_by : (id : ℕ) (answer : Answer) → TellsSmallNumbers answer → is_turned_answer answer ≡ false
    → AnswerIsGiven id (answer_word answer) (told_words answer) (Ok (lines.Answered id answer))
told_by id Done small straight = inr (Done, small, refl, refl)
told_by id Busy small straight = inr (Busy, small, refl, refl)
told_by id Interrupted small straight = inr (Interrupted, small, refl, refl)
told_by id Deadlock small straight = inr (Deadlock, small, refl, refl)
told_by id Free small straight = inr (Free, small, refl, refl)
told_by id (Held owner mode span) small straight = inr (Held owner mode span, small, refl, rw straight refl)
told_by id Error small straight = inr (Error, small, refl, refl)

-- a sign, an ID and words in one text
join_sign : (sign : ℕ) (id word : List ℕ) (words : List (List ℕ))
    → (sign ∷ 32 ∷ []) ++ id ++ codes " " ++ join_with_byte 32 (word ∷ words) ≡ join_with_byte 32 ((sign ∷ []) ∷ id ∷ word ∷ words)
join_sign sign id word words = grind (arith, common_steps, append_assoc)

named : (id : ℕ) (word : List ℕ) (words : List (List ℕ)) → id < 2 ^ 64 → AreNamed (decimal id ∷ word ∷ words) id (word ∷ words)
named id word words small = record { small = small; are = refl; some = λ none. (let bad : word ∷ words ≡ [] = none in cc) }

-- what is written of a request is read back
pub requests_back : RequestsAreReadBack
unfolding AreWords
requests_back requested file request small_id small straight free =
    let id = request.id in
    let words = request_words file request in
    let short = more_length-request_words file request small in
    let are : AreWords (codes ">" ∷ decimal id ∷ words) =
    (IsWord-tested (codes ">") refl, (IsWord-decimal id small_id, AreWords-request_words file request small)) in
    let given : MaySend id (requested id) words (Ok (lines.Sent file request)) =
    rw free (sent_by id file request.owner request.action small.small_file small.small_owner small.small_bytes straight) in
    subst (λ line. LineGives requested line (Ok (lines.Sent file request)))
    (sym (join_sign 62 (decimal id) (request_word request.action) (decimal file ∷ decimal request.owner ∷ action_words request.action)))
    (line_gives requested (codes ">") (decimal id) words (lines.Sent file request) refl (length-number id small_id) short are refl
    (inl (id, words, named id (request_word request.action) _ small_id, given)))

-- what is written of an answer is read back
pub answers_back : AnswersAreReadBack
unfolding AreWords
answers_back requested id action answer small_id small straight sent has =
    let words = answer_words answer in
    let are : AreWords (codes "<" ∷ decimal id ∷ words) =
    (IsWord-tested (codes "<") refl, (IsWord-decimal id small_id, AreWords-answer_words answer small)) in
    let short : more_length words ≤ 93 = omega (arith, more_length-answer_words answer small) in
    let given : MayAnswer id (requested id) words (Ok (lines.Answered id answer)) = rw (sent, has) (told_by id answer small straight) in
    subst (λ line. LineGives requested line (Ok (lines.Answered id answer)))
    (sym (join_sign 60 (decimal id) (answer_word answer) (told_words answer)))
    (line_gives requested (codes "<") (decimal id) words (lines.Answered id answer) refl (length-number id small_id) short are refl
    (inl (id, words, named id (answer_word answer) (told_words answer) small_id, given)))

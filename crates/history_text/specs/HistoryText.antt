-- The words of the requests and the answers of a history (this project's choice).
use Rattle.std.specs.Prelude.{ℕ, ◌^◌, ◌<◌, ⊤, Bool, false, nat_lt, Option, Some, None, List, [], ◌∷◌, codes, decimal}
use Rattle.std.specs.List.{join_with_byte}
use Rattle.range_core.specs.declared.Mode.{Mode}
use Rattle.range_core.specs.declared.Mode.TheVariants.{Read, Write}
use Rattle.range_core.specs.declared.Span.{Span}
use Rattle.script_core.specs.RequestText.{mode_word}
use Rattle.history_core.specs.declared.request.Request.{Request}
use Rattle.history_core.specs.declared.request.Action.{Action}
use Rattle.history_core.specs.declared.request.Action.TheVariants.{Set, Wait, Get, Unlock, Flock, FlockWait, FlockUnlock, Close, Gone}
use Rattle.history_core.specs.declared.request.Answer.{Answer}
use Rattle.history_core.specs.declared.request.Answer.TheVariants.{Done, Busy, Interrupted, Deadlock, Free, Held, Error}

-- the first byte and the last one
abbrev pub span_words : Span → List (List ℕ)
span_words span = decimal span.first ∷ decimal span.last ∷ []

-- whether the first byte is above the last one
abbrev pub is_turned_span : Span → Bool
is_turned_span span = nat_lt span.last span.first

-- the bytes have numbers of 64 bits
abbrev pub HasSmallBytes : Span → Type 0
HasSmallBytes span = (span.first < 2 ^ 64) × (span.last < 2 ^ 64)

-- the word of the operation of flock behind which its owner has a lock of this mode, or none
abbrev pub operation_word : Option Mode → List ℕ
operation_word (Some Read) = codes "sh"
operation_word (Some Write) = codes "ex"
operation_word None = codes "un"

-- the word of a request
abbrev pub request_word : Action → List ℕ
request_word (Set mode span) = codes "set"
request_word (Wait mode span) = codes "wait"
request_word (Get mode span) = codes "get"
request_word (Unlock span) = codes "unlock"
request_word (Flock mode) = codes "flock"
request_word (FlockWait mode) = codes "flock"
request_word FlockUnlock = codes "flock"
request_word Close = codes "close"
request_word Gone = codes "gone"

-- the words of a request behind its file and its owner
abbrev pub action_words : Action → List (List ℕ)
action_words (Set mode span) = mode_word mode ∷ span_words span
action_words (Wait mode span) = mode_word mode ∷ span_words span
action_words (Get mode span) = mode_word mode ∷ span_words span
action_words (Unlock span) = span_words span
action_words (Flock mode) = operation_word (Some mode) ∷ codes "nb" ∷ []
action_words (FlockWait mode) = operation_word (Some mode) ∷ []
action_words FlockUnlock = operation_word None ∷ []
action_words Close = []
action_words Gone = []

-- the words of a request on this file
abbrev pub request_words : ℕ → Request → List (List ℕ)
request_words file request = request_word request.action ∷ decimal file ∷ decimal request.owner ∷ action_words request.action

-- the words of a request with one space between each two
abbrev pub request_text : ℕ → Request → List ℕ
request_text file request = join_with_byte 32 (request_words file request)

-- whether the request is for bytes of which the first is above the last one
abbrev pub is_turned_action : Action → Bool
is_turned_action (Set mode span) = is_turned_span span
is_turned_action (Wait mode span) = is_turned_span span
is_turned_action (Get mode span) = is_turned_span span
is_turned_action (Unlock span) = is_turned_span span
is_turned_action other = false

-- the bytes that are asked for have numbers of 64 bits
abbrev pub AsksForSmallBytes : Action → Type 0
AsksForSmallBytes (Set mode span) = HasSmallBytes span
AsksForSmallBytes (Wait mode span) = HasSmallBytes span
AsksForSmallBytes (Get mode span) = HasSmallBytes span
AsksForSmallBytes (Unlock span) = HasSmallBytes span
AsksForSmallBytes other = ⊤

-- the numbers that stand behind the word of a request have 64 bits
pub record HasSmallNumbers (file : ℕ) (request : Request) : Type 0 where
  pub small_file : file < 2 ^ 64
  pub small_owner : request.owner < 2 ^ 64
  pub small_bytes : AsksForSmallBytes request.action

-- the word of an answer
abbrev pub answer_word : Answer → List ℕ
answer_word Done = codes "ok"
answer_word Busy = codes "busy"
answer_word Interrupted = codes "EINTR"
answer_word Deadlock = codes "EDEADLK"
answer_word Free = codes "free"
answer_word (Held owner mode span) = codes "held"
answer_word Error = codes "error"

-- the word of the owner of a lock, which is `-` where the system doesn't tell whose it was
abbrev pub owner_word : Option ℕ → List ℕ
owner_word (Some owner) = decimal owner
owner_word None = codes "-"

-- the words behind the word of an answer: those of the lock that was in the way
abbrev pub told_words : Answer → List (List ℕ)
told_words (Held owner mode span) = owner_word owner ∷ mode_word mode ∷ span_words span
told_words other = []

-- the words of an answer
abbrev pub answer_words : Answer → List (List ℕ)
answer_words answer = answer_word answer ∷ told_words answer

-- the words of an answer with one space between each two
abbrev pub answer_text : Answer → List ℕ
answer_text answer = join_with_byte 32 (answer_words answer)

-- whether the lock that was in the way has a first byte above its last one
abbrev pub is_turned_answer : Answer → Bool
is_turned_answer (Held owner mode span) = is_turned_span span
is_turned_answer other = false

-- the owner, where it is told, has a number of 64 bits
abbrev pub HasSmallOwner : Option ℕ → Type 0
HasSmallOwner (Some owner) = owner < 2 ^ 64
HasSmallOwner None = ⊤

-- the numbers of an answer have 64 bits
abbrev pub TellsSmallNumbers : Answer → Type 0
TellsSmallNumbers (Held owner mode span) = HasSmallOwner owner × HasSmallBytes span
TellsSmallNumbers other = ⊤

-- the words of the answers that a request may have (POSIX.1-2017 fcntl, RETURN VALUE and ERRORS; flock(2), ERRORS; this project's choice of
-- words): `error` is a failure for another reason, which a death can't have
abbrev pub answers : Action → List (List ℕ)
answers (Set mode span) = codes "ok" ∷ codes "busy" ∷ codes "error" ∷ []
answers (Wait mode span) = codes "ok" ∷ codes "EINTR" ∷ codes "EDEADLK" ∷ codes "error" ∷ []
answers (Get mode span) = codes "free" ∷ codes "held" ∷ codes "error" ∷ []
answers (Unlock span) = codes "ok" ∷ codes "error" ∷ []
answers (Flock mode) = codes "ok" ∷ codes "busy" ∷ codes "error" ∷ []
answers (FlockWait mode) = codes "ok" ∷ codes "EINTR" ∷ codes "error" ∷ []
answers FlockUnlock = codes "ok" ∷ codes "error" ∷ []
answers Close = codes "ok" ∷ codes "error" ∷ []
answers Gone = codes "ok" ∷ []

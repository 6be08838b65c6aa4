-- How a line of a history is read, and its first fault (this project's choice).
use Rattle.std.specs.Prelude.{◌≡◌, ◌≢◌, ℕ, ◌^◌, ◌<◌, ◌==◌, ◌⊎◌, Bool, true, false, nat_lt, if◌then◌else◌, option_and_then, MatchBool, MatchOption, Option, Some, None, Result, Ok, Err, List, [], ◌∷◌, ◌++◌, length, find, codes, decimal, bytes_eq}
use Rattle.std.specs.List.{list_any}
use Rattle.range_core.specs.Facts.{MatchFact}
use Rattle.script_core.specs.declared.script.Cause.{Cause}
use Rattle.script_core.specs.declared.script.Cause.TheVariants.{Byte, Word, Count, Number, TooLong, Tag}
use Rattle.script_core.specs.Words.{texts, words_of, is_printable, begins_with_hash, line_limit}
use Rattle.script_core.specs.Arguments.{UnsignedNumber, ModeWord, OpWord, NbWord, Spells, IsBad, IsFirstBad, Command, plain_command, has_count}
use Rattle.history_core.specs.declared.request.Request.{Request}
use Rattle.history_core.specs.declared.request.Action.{Action}
use Rattle.history_core.specs.declared.request.Action.TheVariants.{FlockUnlock}
use Rattle.history_core.specs.declared.request.Answer.{Answer}
use Rattle.history_text.specs.declared.line.HistoryLine.{HistoryLine}
use Rattle.history_text.specs.declared.line.HistoryLine.TheVariants as lines
use Rattle.history_text.specs.declared.head.Head.{Head}
use Rattle.history_text.specs.declared.head.Head.TheVariants as heads
use Rattle.history_text.specs.HistoryText.{request_words, is_turned_action, HasSmallNumbers, request_text, answers, answer_word, answer_words, is_turned_answer, TellsSmallNumbers, answer_text}

-- a request for a byte lock: file, owner, mode, first and last byte
abbrev pub lock_request : List ℕ → Command
lock_request name = plain_command name (UnsignedNumber ∷ UnsignedNumber ∷ ModeWord ∷ UnsignedNumber ∷ UnsignedNumber ∷ [])

-- unlock: file, owner, first and last byte
abbrev pub unlock_request : Command
unlock_request = plain_command (codes "unlock") (UnsignedNumber ∷ UnsignedNumber ∷ UnsignedNumber ∷ UnsignedNumber ∷ [])

-- flock: file, owner and operation, and then `nb` or nothing
abbrev pub flock_request : Command
flock_request = record { name = codes "flock"; required = UnsignedNumber ∷ UnsignedNumber ∷ OpWord ∷ []; optional = NbWord ∷ [] }

-- a request on all that the owner has on a file
abbrev pub whole_request : List ℕ → Command
whole_request name = plain_command name (UnsignedNumber ∷ UnsignedNumber ∷ [])

-- all requests
abbrev pub requests : List Command
requests =
    lock_request (codes "set") ∷ lock_request (codes "wait") ∷ lock_request (codes "get") ∷ unlock_request ∷ flock_request
    ∷ whole_request (codes "close") ∷ whole_request (codes "gone") ∷ []

-- words each of which may stand in its place: they are those of the request, and its bytes may be turned, or `nb` stands behind `un`
abbrev pub WordsGiveRequest : List (List ℕ) → ℕ → Request → Result HistoryLine Cause → Type 0
WordsGiveRequest words file request said =
    ((words ≡ request_words file request) × MatchBool (is_turned_action request.action) (said ≡ Err Number) (said ≡ Ok (lines.Sent file request)))
    ⊎ ((request.action ≡ FlockUnlock) × (words ≡ request_words file request ++ codes "nb" ∷ []) × (said ≡ Err Word))

-- a request with as many words as it has: the first bad one from the left is told, or else what they say together
abbrev pub ArgumentsGive : ℕ → List (List ℕ) → Command → List (List ℕ) → Result HistoryLine Cause → Type 0
ArgumentsGive id words form arguments said =
    ((cause : Cause) × IsFirstBad (form.required ++ form.optional) arguments cause × (said ≡ Err cause))
    ⊎ ((file : ℕ) × (request : Request) × (request.id ≡ id) × HasSmallNumbers file request × WordsGiveRequest words file request said)

-- a request with the words behind its own: a wrong number of them, or these words
abbrev pub RequestIsGiven : ℕ → Command → List ℕ → List (List ℕ) → Result HistoryLine Cause → Type 0
RequestIsGiven id form name arguments said =
    MatchBool (has_count form (length arguments)) (ArgumentsGive id (name ∷ arguments) form arguments said) (said ≡ Err Count)

-- what follows the ID of a request that is sent: a word that is none, or a request
abbrev pub SentGives : ℕ → List (List ℕ) → Result HistoryLine Cause → Type 0
SentGives id [] said = said ≡ Err Count
SentGives id (name ∷ arguments) said =
    MatchOption (find (λ form. bytes_eq form.name name) requests) (said ≡ Err Word) (λ form. RequestIsGiven id form name arguments said)

-- the word is an owner's number, or `-` where the system doesn't tell whose the lock was
abbrev pub IsOwner : List ℕ → Type 0
IsOwner word = (word ≡ codes "-") ⊎ Spells UnsignedNumber word

-- the word is no owner
abbrev pub IsNoOwner : List ℕ → Cause → Type 0
IsNoOwner word cause = (¬ IsOwner word) × (cause ≡ Number)

-- the first bad one of the words behind `held`: owner, mode, first and last byte
abbrev pub IsFirstBadOfHeld : List (List ℕ) → Cause → Type 0
IsFirstBadOfHeld [] cause = ⊥
IsFirstBadOfHeld (owner ∷ words) cause =
    MatchFact (IsOwner owner) (IsFirstBad (ModeWord ∷ UnsignedNumber ∷ UnsignedNumber ∷ []) words cause) (cause ≡ Number)

-- how many words stand behind the word of an answer
abbrev pub told_count : List ℕ → ℕ
told_count name = if bytes_eq name (codes "held") then 4 else 0

-- an answer with as many words as it has: the first bad one from the left is told, or else what they say together
abbrev pub ToldGives : ℕ → List (List ℕ) → List (List ℕ) → Result HistoryLine Cause → Type 0
ToldGives id words told said =
    ((cause : Cause) × IsFirstBadOfHeld told cause × (said ≡ Err cause))
    ⊎ ((answer : Answer) × TellsSmallNumbers answer × (words ≡ answer_words answer)
    × MatchBool (is_turned_answer answer) (said ≡ Err Number) (said ≡ Ok (lines.Answered id answer)))

-- an answer with the words behind its own: a wrong number of them, or these words
abbrev pub AnswerIsGiven : ℕ → List ℕ → List (List ℕ) → Result HistoryLine Cause → Type 0
AnswerIsGiven id name told said =
    MatchBool (length told == told_count name) (ToldGives id (name ∷ told) told said) (said ≡ Err Count)

-- whether the request may have an answer of this word
abbrev pub has_answer : Action → List ℕ → Bool
has_answer action name = list_any (λ word. bytes_eq word name) (answers action)

-- what follows the ID of a request that is answered: a word that isn't one of its answers, or an answer
abbrev pub AnsweredGives : ℕ → Action → List (List ℕ) → Result HistoryLine Cause → Type 0
AnsweredGives id action [] said = said ≡ Err Count
AnsweredGives id action (name ∷ told) said = MatchBool (has_answer action name) (AnswerIsGiven id name told said) (said ≡ Err Word)

-- a request is sent, by an ID that is free
abbrev pub MaySend : ℕ → Option Action → List (List ℕ) → Result HistoryLine Cause → Type 0
MaySend id None words said = SentGives id words said
MaySend id (Some action) words said = said ≡ Err Tag

-- a request is answered, by an ID that is open
abbrev pub MayAnswer : ℕ → Option Action → List (List ℕ) → Result HistoryLine Cause → Type 0
MayAnswer id None words said = said ≡ Err Tag
MayAnswer id (Some action) words said = AnsweredGives id action words said

-- what a line that begins so says, where this is what the open request of its ID asks for
abbrev pub HeadGives : Head → Option Action → Result HistoryLine Cause → Type 0
HeadGives heads.Skipped open_request said = said ≡ Ok lines.Skipped
HeadGives (heads.Sent id words) open_request said = MaySend id open_request (texts words.now) said
HeadGives (heads.Answered id words) open_request said = MayAnswer id open_request (texts words.now) said

-- the ID of a line that begins so, unless it says nothing
abbrev pub id_of : Head → Option ℕ
id_of heads.Skipped = None
id_of (heads.Sent id words) = Some id
id_of (heads.Answered id words) = Some id

-- the words behind the first word are an ID and others
pub record AreNamed (words : List (List ℕ)) (id : ℕ) (others : List (List ℕ)) : Type 0 where
  pub small : id < 2 ^ 64
  pub are : words ≡ decimal id ∷ others
  pub some : others ≢ []

-- the words behind the first word are too few, or the first of them is no ID
abbrev pub AreNotNamed : List (List ℕ) → Cause → Type 0
AreNotNamed [] cause = cause ≡ Count
AreNotNamed (id ∷ []) cause = cause ≡ Count
AreNotNamed (id ∷ word ∷ words) cause = IsBad UnsignedNumber id cause

-- what follows the first word: no ID, or an ID and what is said of it
abbrev pub NamedGives : (ℕ → List (List ℕ) → Result HistoryLine Cause → Type 0) → List (List ℕ) → Result HistoryLine Cause → Type 0
NamedGives Gives words said =
    ((id : ℕ) × (others : List (List ℕ)) × AreNamed words id others × Gives id others said)
    ⊎ ((cause : Cause) × AreNotNamed words cause × (said ≡ Err cause))

-- the words of a line, where each open ID has what its request asks for: none, which is skipped, or a request or an answer
abbrev pub WordsGive : (ℕ → Option Action) → List (List ℕ) → Result HistoryLine Cause → Type 0
WordsGive requested [] said = said ≡ Ok lines.Skipped
WordsGive requested (first ∷ words) said =
    MatchBool (bytes_eq first (codes ">")) (NamedGives (λ id. MaySend id (requested id)) words said)
    (MatchBool (bytes_eq first (codes "<")) (NamedGives (λ id. MayAnswer id (requested id)) words said) (said ≡ Err Word))

-- the text of a line: a comment, which is skipped, or words
abbrev pub TextGives : (ℕ → Option Action) → List ℕ → Result HistoryLine Cause → Type 0
TextGives requested text said = MatchBool (begins_with_hash text) (said ≡ Ok lines.Skipped) (WordsGive requested (words_of text) said)

-- a line: too long, with a byte that isn't printable, or text
abbrev pub LineGives : (ℕ → Option Action) → List ℕ → Result HistoryLine Cause → Type 0
LineGives requested line said =
    MatchBool (nat_lt line_limit (length line)) (said ≡ Err TooLong)
    (MatchBool (is_printable line) (TextGives requested line said) (said ≡ Err Byte))

-- what words that begin so say is what they say, whatever is open
abbrev pub BeginWords : List (List ℕ) → Head → Type 0
BeginWords words head = (requested : ℕ → Option Action) (said : Result HistoryLine Cause)
    → HeadGives head (option_and_then requested (id_of head)) said → WordsGive requested words said

-- the words have this fault, whatever is open
abbrev pub AreFaulty : List (List ℕ) → Cause → Type 0
AreFaulty words cause = (requested : ℕ → Option Action) → WordsGive requested words (Err cause)

-- what a line that begins so says is what the line says, whatever is open
abbrev pub Begins : List ℕ → Head → Type 0
Begins line head = (requested : ℕ → Option Action) (said : Result HistoryLine Cause)
    → HeadGives head (option_and_then requested (id_of head)) said → LineGives requested line said

-- the line has this fault, whatever is open
abbrev pub IsFaulty : List ℕ → Cause → Type 0
IsFaulty line cause = (requested : ℕ → Option Action) → LineGives requested line (Err cause)

-- a line says one thing at most
abbrev pub LinesHaveOneReading : Type 0
LinesHaveOneReading = (requested : ℕ → Option Action) (line : List ℕ) (a b : Result HistoryLine Cause)
    → LineGives requested line a → LineGives requested line b → a ≡ b

-- a request that is written behind `>` and its ID is read as that request, where the ID is free
abbrev pub RequestsAreReadBack : Type 0
RequestsAreReadBack = (requested : ℕ → Option Action) (file : ℕ) (request : Request)
    → request.id < 2 ^ 64 → HasSmallNumbers file request → is_turned_action request.action ≡ false → requested request.id ≡ None
    → LineGives requested (codes "> " ++ decimal request.id ++ codes " " ++ request_text file request) (Ok (lines.Sent file request))

-- an answer that is written behind `<` and its ID is read as that answer, where the open request of the ID may have it
abbrev pub AnswersAreReadBack : Type 0
AnswersAreReadBack = (requested : ℕ → Option Action) (id : ℕ) (action : Action) (answer : Answer)
    → id < 2 ^ 64 → TellsSmallNumbers answer → is_turned_answer answer ≡ false → requested id ≡ Some action
    → has_answer action (answer_word answer) ≡ true
    → LineGives requested (codes "< " ++ decimal id ++ codes " " ++ answer_text answer) (Ok (lines.Answered id answer))

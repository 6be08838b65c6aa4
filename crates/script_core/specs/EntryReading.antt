-- How the line of an entry is read, and its first fault (this project's choice).
use Rattle.std.specs.Prelude.{◌≡◌, ℕ, ◌^◌, ◌<◌, ◌≤◌, ◌==◌, ◌⊎◌, ⊤, true, nat_lt, MatchBool, MatchOption, MatchResult, FitsSigned, Option, Result, Ok, Err, List, [], ◌∷◌, ◌++◌, All, length, find, codes, bytes_eq}
use Rattle.std.specs.Int.{w64}
use Rattle.std.specs.List.{slice_split}
use Rattle.range_core.specs.Facts.{MatchFact}
use Rattle.fd_table.specs.declared.Limits.{Limits}
use Rattle.lock_manager.specs.declared.request.Request.{Request}
use Rattle.lock_manager.specs.declared.request.Reply.{Reply}
use Rattle.lock_manager.specs.declared.request.Reply.TheVariants as replies
use Rattle.lock_manager.specs.declared.request.Note.{Note}
use Rattle.lock_manager.specs.declared.request.Note.TheVariants.{Answer, Waits}
use Rattle.session_core.specs.Event.{Event}
use Rattle.script_core.specs.declared.entry.Taken.{Taken}
use Rattle.script_core.specs.declared.script.Cause.{Cause}
use Rattle.script_core.specs.declared.script.Cause.TheVariants.{Byte, Word, Count, TooLong, Tag}
use Rattle.script_core.specs.Words.{words_of, is_printable}
use Rattle.script_core.specs.EntryText.{reply_words, tag, entry_text}
use Rattle.script_core.specs.Arguments.{Argument, DescriptorNumber, AnyNumber, UnsignedNumber, ModeWord, ErrorWord, Spells, AreRefused, Command, plain_command}
use Rattle.script_core.specs.ScriptText.{IsDescriptor, IsProcess, IsWritable}
use Rattle.script_core.specs.Reading.{RequestGives}

-- how many bytes the line of an entry may have, without its line feed: one with a note to each of 64 processes has 6285 at most
abbrev pub entry_limit : ℕ
entry_limit = 8192

-- the pieces of a line: what stands before, between and behind its bars
abbrev pub pieces_of : List ℕ → List (List ℕ)
pieces_of line = slice_split (λ byte. byte == 124) line

-- the word is the tag of this request: its process is one of these limits, and its number has at most 64 bits
abbrev pub IsTag : Limits → List ℕ → ℕ → ℕ → Type 0
IsTag limits word p n = IsProcess limits p × (n < 2 ^ 64) × (word ≡ tag p n)

-- a word that should be a tag: it is that of a request, or no tag
abbrev pub TagGives : Limits → List ℕ → Result (ℕ × ℕ) Cause → Type 0
TagGives limits word result =
    MatchResult result (λ pair. IsTag limits word pair.0 pair.1) (λ cause. ((p n : ℕ) → ¬ (IsTag limits word p n)) × (cause ≡ Tag))

-- what follows the tag of a request that was taken: a fault of the request is the piece's
abbrev pub RequestIsTaken : ℕ → ℕ → Result Request Cause → Result Taken Cause → Type 0
RequestIsTaken p n (Ok request) result = result ≡ Ok (record { p = p; n = n; request = request })
RequestIsTaken p n (Err cause) result = result ≡ Err cause

-- the words of the first piece: a tag, and the request
abbrev pub TakenGives : Limits → List (List ℕ) → Result Taken Cause → Type 0
TakenGives limits [] result = result ≡ Err Count
TakenGives limits (first ∷ rest) result =
    (tagged : Result (ℕ × ℕ) Cause) × TagGives limits first tagged
    × MatchResult tagged (λ pair. (next : Result Request Cause) × RequestGives limits rest next × RequestIsTaken pair.0 pair.1 next result)
    (λ cause. result ≡ Err cause)

-- the numbers of the reply are such as its fields may hold
abbrev pub IsWritableReply : Reply → Type 0
IsWritableReply replies.Ok = ⊤
IsWritableReply (replies.Fd fd) = IsDescriptor fd
IsWritableReply replies.Free = ⊤
IsWritableReply (replies.Held mode start len pid) = (start < 2 ^ 64) × (len < 2 ^ 64) × FitsSigned w64 pid
IsWritableReply (replies.Err error) = ⊤

-- the words are this reply
abbrev pub IsReply : List (List ℕ) → Reply → Type 0
IsReply words reply = (words ≡ reply_words reply) × IsWritableReply reply

-- the replies with arguments, and those without but for the errors
abbrev pub reply_forms : List Command
reply_forms =
    plain_command (codes "ok") [] ∷ plain_command (codes "fd") (DescriptorNumber ∷ []) ∷ plain_command (codes "free") []
    ∷ plain_command (codes "held") (ModeWord ∷ UnsignedNumber ∷ UnsignedNumber ∷ AnyNumber ∷ []) ∷ []

-- the reply of this word, if it is one of these
abbrev pub reply_named : List ℕ → Option Command
reply_named word = find (λ form. bytes_eq form.name word) reply_forms

-- the words of a reply that has these arguments: they are refused, or else the words are a reply
abbrev pub ReplyWordsGive : List Argument → List ℕ → List (List ℕ) → Result Reply Cause → Type 0
ReplyWordsGive expected name arguments result =
    ((cause : Cause) × AreRefused expected arguments cause × (result ≡ Err cause))
    ⊎ ((reply : Reply) × IsReply (name ∷ arguments) reply × (result ≡ Ok reply))

-- a word and what follows it: a reply, an error, or a word that is neither
abbrev pub ReplyGives : List ℕ → List (List ℕ) → Result Reply Cause → Type 0
ReplyGives name arguments result =
    MatchOption (reply_named name) (MatchFact (Spells ErrorWord name) (ReplyWordsGive [] name arguments result) (result ≡ Err Word))
    (λ form. ReplyWordsGive form.required name arguments result)

-- what follows `waits`: nothing
abbrev pub WaitGives : ℕ → ℕ → List (List ℕ) → Result Note Cause → Type 0
WaitGives p n [] result = result ≡ Ok (Waits p n)
WaitGives p n (word ∷ words) result = result ≡ Err Count

-- what follows the tag of a note: nothing, that the request waits, or its reply
abbrev pub ToldGives : ℕ → ℕ → List (List ℕ) → Result Note Cause → Type 0
ToldGives p n [] result = result ≡ Err Count
ToldGives p n (name ∷ arguments) result =
    MatchBool (bytes_eq name (codes "waits")) (WaitGives p n arguments result)
    ((next : Result Reply Cause) × ReplyGives name arguments next
    × MatchResult next (λ reply. result ≡ Ok (Answer p n reply)) (λ cause. result ≡ Err cause))

-- the words of a further piece: a tag, and what is told of its request
abbrev pub NoteGives : Limits → List (List ℕ) → Result Note Cause → Type 0
NoteGives limits [] result = result ≡ Err Count
NoteGives limits (first ∷ rest) result =
    (tagged : Result (ℕ × ℕ) Cause) × TagGives limits first tagged
    × MatchResult tagged (λ pair. ToldGives pair.0 pair.1 rest result) (λ cause. result ≡ Err cause)

-- the pieces behind these notes: each is a note, and the first fault is told
abbrev pub NotesGive : Limits → List Note → List (List ℕ) → Result (List Note) Cause → Type 0
NotesGive limits notes [] result = result ≡ Ok notes
NotesGive limits notes (piece ∷ pieces) result =
    (next : Result Note Cause) × NoteGives limits (words_of piece) next
    × MatchResult next (λ note. NotesGive limits (notes ++ note ∷ []) pieces result) (λ cause. result ≡ Err cause)

-- what was taken, with its notes: a fault of the notes is the line's
abbrev pub EventGives : Taken → Result (List Note) Cause → Result Event Cause → Type 0
EventGives taken (Ok notes) result = result ≡ Ok (record { p = taken.p; n = taken.n; request = taken.request; notes = notes })
EventGives taken (Err cause) result = result ≡ Err cause

-- the pieces of a line: a request that was taken, and then each note (a line has a piece)
abbrev pub PiecesGive : Limits → List (List ℕ) → Result Event Cause → Type 0
PiecesGive limits [] result = result ≡ Err Count
PiecesGive limits (piece ∷ pieces) result =
    (next : Result Taken Cause) × TakenGives limits (words_of piece) next
    × MatchResult next (λ taken. (notes : Result (List Note) Cause) × NotesGive limits [] pieces notes × EventGives taken notes result)
    (λ cause. result ≡ Err cause)

-- the line of an entry: too long, with a byte that isn't printable, or pieces
abbrev pub EntryGives : Limits → List ℕ → Result Event Cause → Type 0
EntryGives limits line result =
    MatchBool (nat_lt entry_limit (length line)) (result ≡ Err TooLong)
    (MatchBool (is_printable line) (PiecesGive limits (pieces_of line) result) (result ≡ Err Byte))

-- the first of the pieces is a note
abbrev pub BeginWithNote : Limits → List (List ℕ) → Type 0
BeginWithNote limits [] = ⊥
BeginWithNote limits (piece ∷ pieces) = (note : Note) × NoteGives limits (words_of piece) (Ok note)

-- the pieces are a request that was taken, a note, and others
abbrev pub HaveNote : Limits → List (List ℕ) → Type 0
HaveNote limits [] = ⊥
HaveNote limits (piece ∷ pieces) = (taken : Taken) × TakenGives limits (words_of piece) (Ok taken) × BeginWithNote limits pieces

-- the line is one that can be read, and has a note to keep
pub record HasNote (limits : Limits) (line : List ℕ) : Type 0 where
  pub fits : length line ≤ entry_limit
  pub printable : is_printable line ≡ true
  pub note : HaveNote limits (pieces_of line)

-- under these limits the line is read in one way at most
abbrev pub HasOneEntry : Limits → List ℕ → Type 0
HasOneEntry limits line = (a b : Result Event Cause) → EntryGives limits line a → EntryGives limits line b → a ≡ b

-- the note's numbers are such as a line of these limits may have
abbrev pub IsWritableNote : Limits → Note → Type 0
IsWritableNote limits (Answer p n reply) = IsProcess limits p × (n < 2 ^ 64) × IsWritableReply reply
IsWritableNote limits (Waits p n) = IsProcess limits p × (n < 2 ^ 64)

-- the event's numbers are such as a line of these limits may have, and there is no more than a note for each of 64 processes
pub record IsWritableEvent (limits : Limits) (event : Event) : Type 0 where
  pub process : IsProcess limits event.p
  pub number : event.n < 2 ^ 64
  pub request : IsWritable limits event.request
  pub notes : All (IsWritableNote limits) event.notes
  pub few : length event.notes ≤ 64

-- the text that is written of the event is read as the event, wherever the limits have its numbers
abbrev pub IsEntryReadBack : Event → Type 0
IsEntryReadBack event = (limits : Limits) → IsWritableEvent limits event → EntryGives limits (entry_text event) (Ok event)

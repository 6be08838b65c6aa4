-- The line of an entry is read in one way: for `parse_entry`, `read_notes`, `read_pieces` and `tag_of`.
use Rattle.script_core.proofs.Common.{arith, rules, ◌≡◌, ◌≢◌, ℕ, ◌+◌, ◌<◌, ◌^◌, ◌==◌, true, false, cond, List, [], ◌∷◌, ◌++◌, length, take, drop, get_or, codes, decimal, Option, Some, None, MatchOption, MatchResult, Result, Ok, Err, Bor, ◌⊎◌, inl, inr, refl, sym, ap, ◌∙◌, subst, lit<, ne_eqb, append_assoc, add-one, All, bytes_eq, common_steps, slice_split, decimal_injective, decimal_is_IsNumeral, take-append-drop, slice_split_none}
use Rattle.script_core.proofs.Common.{Mode, Limits, Errno, EBADF, EINVAL, Request, Reply, Note, Answer, Event, Taken, Cause, Word, Count, texts, words_of, mode_word, reply_words, tag, Argument, AnyNumber, ErrorWord, Spells, AreRefused, Command, RequestGives, pieces_of, RequestIsTaken, TakenGives, IsWritableReply, ReplyWordsGive, ReplyGives, WaitGives, ToldGives, NoteGives, NotesGive}
use Rattle.std.proofs.Common.{drop-cons}
use Rattle.std.proofs.lemmas.Grind.{get_or_default_zero}
use Rattle.std.proofs.lemmas.List.{map-append}
use Rattle.std.proofs.lemmas.List.Splits.{slice_split_at}
use Rattle.std.proofs.lemmas.Str.Parse.{digit_at}
use Rattle.std.proofs.lemmas.Str.Pattern.{IsSplitOnceResult, split_parts, split_after}
use Rattle.range_core.specs.declared.Mode.TheVariants as modes
use Rattle.lock_manager.specs.declared.request.Errno.TheVariants.{EOVERFLOW, EAGAIN, EDEADLK, EINTR, EMFILE, ESRCH}
use Rattle.lock_manager.specs.declared.request.Reply.TheVariants as replies
use Rattle.script_core.specs.EntryText.{error_name}
use Rattle.script_core.specs.Arguments.{DescriptorNumber, UnsignedNumber, ModeWord}
use Rattle.script_core.specs.EntryReading.{IsTag, TagGives, IsReply, reply_named, EventGives, PiecesGive, HasOneEntry, BeginWithNote}
use Rattle.script_core.proofs.NumberLemmas.{digits_value-spelled, number_in-spelled}
use Rattle.script_core.proofs.ReadingLemmas.{MatchBool-unique, same_value, small_process, natural_at, number_at, AllSpell, not_bad, AreRefused-unique, RequestGives-unique}

-- no byte is this one
abbrev pub Lacks : ℕ → List ℕ → Type 0
Lacks byte bytes = (i : ℕ) → i < length bytes → get_or bytes i 0 ≢ byte

each_differs : (byte : ℕ) (bytes : List ℕ) → Lacks byte bytes → All (λ b. (b == byte) ≡ false) bytes
each_differs byte bytes lacks k d within = ne_eqb (get_or bytes k d) byte (λ e. lacks k within (sym (get_or_default_zero bytes k d within) ∙ e))

-- bytes without this one are their only part
pub one_part : (byte : ℕ) (bytes : List ℕ) → Lacks byte bytes → slice_split (λ b. b == byte) bytes ≡ bytes ∷ []
one_part byte bytes lacks = slice_split_none (λ b. b == byte) bytes (each_differs byte bytes lacks)

-- and before it they are the first part
pub first_part : (byte : ℕ) (bytes rest : List ℕ) → Lacks byte bytes → (byte == byte) ≡ true
    → slice_split (λ b. b == byte) (bytes ++ byte ∷ rest) ≡ bytes ∷ slice_split (λ b. b == byte) rest
first_part byte bytes rest lacks same = slice_split_at (λ b. b == byte) bytes byte rest (each_differs byte bytes lacks) same

-- a line that is cut at its first bar is its first piece and what follows
pub split_pieces : (text : List ℕ) (r : Option (Bor (List ℕ) × Bor (List ℕ))) → IsSplitOnceResult 124 text r
    → MatchOption r (pieces_of text ≡ text ∷ []) (λ x. pieces_of text ≡ x.0.now ∷ pieces_of x.1.now)
split_pieces text None split = one_part 124 text (split_parts 124 text None split (lit< tt))
split_pieces text (Some x) split =
    let parts = split_parts 124 text (Some x) split (lit< tt) in
    ap pieces_of parts.0 ∙ first_part 124 x.0.now x.1.now parts.1 refl

-- a number has no `#`
pub plain_number : (n : ℕ) → n < 2 ^ 64 → Lacks 35 (decimal n)
plain_number n small i within e = search (rules, digit_at, decimal_is_IsNumeral)

pub tag_is : (p n : ℕ) → tag p n ≡ decimal p ++ 35 ∷ decimal n
tag_is p n = append_assoc (decimal p) (codes "#") (decimal n)

tag_parts : (p n : ℕ) → p < 2 ^ 64 → n < 2 ^ 64 → slice_split (λ b. b == 35) (tag p n) ≡ decimal p ∷ decimal n ∷ []
tag_parts p n few small =
    ap (slice_split (λ b. b == 35)) (tag_is p n) ∙ first_part 35 (decimal p) (decimal n) (plain_number p few) refl
    ∙ ap (λ l. decimal p ∷ l) (one_part 35 (decimal n) (plain_number n small))

-- a word that is cut at its first `#` is the tag of no request but the one of its two parts
pub tag_cut : (limits : Limits) (word : List ℕ) (r : Option (Bor (List ℕ) × Bor (List ℕ))) → IsSplitOnceResult 35 word r
    → (p n : ℕ) → IsTag limits word p n → MatchOption r ⊥ (λ x. (x.0.now ≡ decimal p) × (x.1.now ≡ decimal n))
tag_cut limits word r split p n is =
    split_after 35 word (decimal p) (decimal n) r split (lit< tt) (is.2 ∙ tag_is p n) (plain_number p (small_process limits p is.0))

-- a word is the tag of one request
IsTag-unique : (limits : Limits) (word : List ℕ) (a b : ℕ × ℕ) → IsTag limits word a.0 a.1 → IsTag limits word b.0 b.1 → a ≡ b
IsTag-unique limits word a b first second =
    let few = small_process limits a.0 first.0 in
    let less = small_process limits b.0 second.0 in
    let parts = sym (tag_parts a.0 a.1 few first.1) ∙ ap (slice_split (λ b. b == 35)) (sym first.2 ∙ second.2) ∙ tag_parts b.0 b.1 less second.1 in
    let process : a.0 ≡ b.0 = decimal_injective a.0 b.0 few less (ap (λ l. get_or l 0 []) parts) in
    let number : a.1 ≡ b.1 = decimal_injective a.1 b.1 first.1 second.1 (ap (λ l. get_or l 1 []) parts) in
    (λ i. (process i, number i))

TagGives-unique : (limits : Limits) (word : List ℕ) (a b : Result (ℕ × ℕ) Cause) → TagGives limits word a → TagGives limits word b → a ≡ b
TagGives-unique limits word a b h h2 = search (rules, IsTag-unique)

RequestIsTaken-unique : (p n : ℕ) (next : Result Request Cause) (a b : Result Taken Cause) → RequestIsTaken p n next a → RequestIsTaken p n next b → a ≡ b
RequestIsTaken-unique p n next a b first second = grind (arith, common_steps)

-- what follows a word that should be a tag
abbrev TaggedGives : Limits → List (List ℕ) → Result (ℕ × ℕ) Cause → Result Taken Cause → Type 0
TaggedGives limits rest tagged result =
    MatchResult tagged (λ pair. (next : Result Request Cause) × RequestGives limits rest next × RequestIsTaken pair.0 pair.1 next result) (λ cause. result ≡ Err cause)

TaggedGives-unique : (limits : Limits) (rest : List (List ℕ)) (tagged : Result (ℕ × ℕ) Cause) (a b : Result Taken Cause)
    → TaggedGives limits rest tagged a → TaggedGives limits rest tagged b → a ≡ b
TaggedGives-unique limits rest tagged a b h h2 = search (rules, RequestGives-unique, RequestIsTaken-unique)

TakenGives-unique : (limits : Limits) (words : List (List ℕ)) (a b : Result Taken Cause) → TakenGives limits words a → TakenGives limits words b → a ≡ b
TakenGives-unique limits words a b h h2 = search (rules, same_value, TagGives-unique, TaggedGives-unique)

-- the word of a mode or the name of an error, read back
mode_in : List ℕ → Mode
mode_in word = cond (bytes_eq word (codes "r")) modes.Read modes.Write

error_in : List ℕ → Errno
error_in word =
    cond (bytes_eq word (codes "EBADF")) EBADF
    (cond (bytes_eq word (codes "EINVAL")) EINVAL
    (cond (bytes_eq word (codes "EOVERFLOW")) EOVERFLOW
    (cond (bytes_eq word (codes "EAGAIN")) EAGAIN
    (cond (bytes_eq word (codes "EDEADLK")) EDEADLK
    (cond (bytes_eq word (codes "EINTR")) EINTR
    (cond (bytes_eq word (codes "EMFILE")) EMFILE ESRCH))))))

-- the reply that the words say, read back from them
reply_in : List (List ℕ) → Reply
reply_in words =
    let name = get_or words 0 [] in
    cond (bytes_eq name (codes "ok")) replies.Ok
    (cond (bytes_eq name (codes "fd")) (replies.Fd (natural_at 1 words))
    (cond (bytes_eq name (codes "free")) replies.Free
    (cond (bytes_eq name (codes "held")) (replies.Held (mode_in (get_or words 1 [])) (natural_at 2 words) (natural_at 3 words) (number_at 4 words)) (replies.Err (error_in name)))))

mode_in-word : (mode : Mode) → mode_in (mode_word mode) ≡ mode
unfolding mode_in
mode_in-word mode = grind (arith, common_steps)

error_read : (error : Errno) → reply_in (error_name error ∷ []) ≡ replies.Err error
unfolding reply_in error_in
error_read error = search (rules)

reply_read : (reply : Reply) → IsWritableReply reply → reply_in (reply_words reply) ≡ reply
unfolding reply_in natural_at number_at
reply_read reply h = search (rules, digits_value-spelled, mode_in-word, number_in-spelled, error_read)

IsReply-unique : (words : List (List ℕ)) (a b : Reply) → IsReply words a → IsReply words b → a ≡ b
IsReply-unique words a b first second = grind (arith, common_steps, reply_read, reply_in)

-- the arguments that a reply has
reply_arguments : Reply → List Argument
reply_arguments replies.Ok = []
reply_arguments (replies.Fd fd) = DescriptorNumber ∷ []
reply_arguments replies.Free = []
reply_arguments (replies.Held mode start len pid) = ModeWord ∷ UnsignedNumber ∷ UnsignedNumber ∷ AnyNumber ∷ []
reply_arguments (replies.Err error) = []

-- these are expected behind a word: those of the reply of this word, and none behind an error
abbrev AreExpected : Option Command → List Argument → Type 0
AreExpected found arguments = MatchOption found (arguments ≡ []) (λ form. arguments ≡ form.required)

reply_expected : (reply : Reply) → AreExpected (reply_named (get_or (reply_words reply) 0 [])) (reply_arguments reply)
unfolding reply_arguments
reply_expected reply = search (rules)

-- the words of a reply aren't refused
reply_spelled : (reply : Reply) → IsWritableReply reply → (cause : Cause) → AreRefused (reply_arguments reply) (drop 1 (reply_words reply)) cause → ⊥
unfolding reply_arguments AllSpell
reply_spelled reply h cause h2 = search (rules, not_bad)

not_refused : (expected : List Argument) (name : List ℕ) (arguments : List (List ℕ)) (reply : Reply) (cause : Cause) → reply_arguments reply ≡ expected
    → IsReply (name ∷ arguments) reply → AreRefused expected arguments cause → ⊥
not_refused expected name arguments reply cause are is refused =
    reply_spelled reply is.1 cause
    (subst (λ words. AreRefused (reply_arguments reply) (drop 1 words) cause) is.0 (subst (λ l. AreRefused l arguments cause) (sym are) refused))

ReplyWordsGive-unique : (expected : List Argument) (name : List ℕ) (arguments : List (List ℕ))
    → ((reply : Reply) → IsReply (name ∷ arguments) reply → reply_arguments reply ≡ expected)
    → (a b : Result Reply Cause) → ReplyWordsGive expected name arguments a → ReplyWordsGive expected name arguments b → a ≡ b
ReplyWordsGive-unique expected name arguments has a b (inl first) (inl second) = grind (arith, common_steps, AreRefused-unique)
ReplyWordsGive-unique expected name arguments has a b (inl first) (inr second) =
    absurd (not_refused expected name arguments second.0 first.0 (has second.0 second.1) second.1 first.1)
ReplyWordsGive-unique expected name arguments has a b (inr first) (inl second) =
    absurd (not_refused expected name arguments first.0 second.0 (has first.0 first.1) first.1 second.1)
ReplyWordsGive-unique expected name arguments has a b (inr first) (inr second) =
    first.2 ∙ ap Ok (IsReply-unique (name ∷ arguments) first.0 second.0 first.1 second.1) ∙ sym second.2

-- what is expected behind the word of a reply is what it has
has_expected : (name : List ℕ) (arguments : List (List ℕ)) (found : Option Command) → reply_named name ≡ found
    → (reply : Reply) → IsReply (name ∷ arguments) reply → AreExpected found (reply_arguments reply)
has_expected name arguments found named reply is =
    subst (λ o. AreExpected o (reply_arguments reply)) (ap (λ words. reply_named (get_or words 0 [])) (sym is.0) ∙ named) (reply_expected reply)

-- a word and what follows it, where this was found by the word
abbrev FoundGives : List ℕ → List (List ℕ) → Option Command → Result Reply Cause → Type 0
FoundGives name arguments found result =
    MatchOption found ((Spells ErrorWord name × ReplyWordsGive [] name arguments result) ⊎ ((¬ (Spells ErrorWord name)) × (result ≡ Err Word)))
    (λ form. ReplyWordsGive form.required name arguments result)

FoundGives-unique : (name : List ℕ) (arguments : List (List ℕ)) (found : Option Command) → reply_named name ≡ found
    → (a b : Result Reply Cause) → FoundGives name arguments found a → FoundGives name arguments found b → a ≡ b
FoundGives-unique name arguments None named a b (inl first) (inl second) =
    ReplyWordsGive-unique [] name arguments (has_expected name arguments None named) a b first.1 second.1
FoundGives-unique name arguments None named a b (inl first) (inr second) = absurd (second.0 first.0)
FoundGives-unique name arguments None named a b (inr first) (inl second) = absurd (first.0 second.0)
FoundGives-unique name arguments None named a b (inr first) (inr second) = first.1 ∙ sym second.1
FoundGives-unique name arguments (Some form) named a b first second =
    ReplyWordsGive-unique form.required name arguments (has_expected name arguments (Some form) named) a b first second

-- a note with this reply
abbrev AnswerGives : ℕ → ℕ → Result Reply Cause → Result Note Cause → Type 0
AnswerGives p n next result = MatchResult next (λ reply. result ≡ Ok (Answer p n reply)) (λ cause. result ≡ Err cause)

AnswerGives-unique : (p n : ℕ) (next : Result Reply Cause) (a b : Result Note Cause) → AnswerGives p n next a → AnswerGives p n next b → a ≡ b
AnswerGives-unique p n next a b first second = grind (arith, common_steps)

WaitGives-unique : (p n : ℕ) (words : List (List ℕ)) (a b : Result Note Cause) → WaitGives p n words a → WaitGives p n words b → a ≡ b
WaitGives-unique p n words a b first second = grind (arith, common_steps)

-- a word that isn't `waits`, with what follows it
abbrev RepliedGives : ℕ → ℕ → List ℕ → List (List ℕ) → Result Note Cause → Type 0
RepliedGives p n name arguments result = (next : Result Reply Cause) × ReplyGives name arguments next × AnswerGives p n next result

RepliedGives-unique : (p n : ℕ) (name : List ℕ) (arguments : List (List ℕ)) (a b : Result Note Cause)
    → RepliedGives p n name arguments a → RepliedGives p n name arguments b → a ≡ b
RepliedGives-unique p n name arguments a b first second = search (rules, FoundGives-unique, AnswerGives-unique)

ToldGives-unique : (p n : ℕ) (words : List (List ℕ)) (a b : Result Note Cause) → ToldGives p n words a → ToldGives p n words b → a ≡ b
ToldGives-unique p n [] a b first second = same_value (Err Count) a b first second
ToldGives-unique p n (name ∷ arguments) a b first second =
    MatchBool-unique (WaitGives p n arguments) (RepliedGives p n name arguments) (bytes_eq name (codes "waits")) (WaitGives-unique p n arguments) (RepliedGives-unique p n name arguments)
    a b first second

-- what is told behind a word that should be a tag
abbrev TaggedTells : List (List ℕ) → Result (ℕ × ℕ) Cause → Result Note Cause → Type 0
TaggedTells rest tagged result = MatchResult tagged (λ pair. ToldGives pair.0 pair.1 rest result) (λ cause. result ≡ Err cause)

TaggedTells-unique : (rest : List (List ℕ)) (tagged : Result (ℕ × ℕ) Cause) (a b : Result Note Cause) → TaggedTells rest tagged a
    → TaggedTells rest tagged b → a ≡ b
TaggedTells-unique rest tagged a b first second = grind (arith, common_steps, ToldGives-unique)

NoteGives-unique : (limits : Limits) (words : List (List ℕ)) (a b : Result Note Cause) → NoteGives limits words a → NoteGives limits words b → a ≡ b
NoteGives-unique limits words a b h h2 = search (rules, same_value, TagGives-unique, TaggedTells-unique)

-- the pieces behind one that gives this
abbrev LaterNotesGive : Limits → List Note → List (List ℕ) → Result Note Cause → Result (List Note) Cause → Type 0
LaterNotesGive limits notes pieces next result = MatchResult next (λ note. NotesGive limits (notes ++ note ∷ []) pieces result) (λ cause. result ≡ Err cause)

later_unique : (limits : Limits) (notes : List Note) (pieces : List (List ℕ))
    → ((more : List Note) (a b : Result (List Note) Cause) → NotesGive limits more pieces a → NotesGive limits more pieces b → a ≡ b)
    → (next : Result Note Cause) (a b : Result (List Note) Cause) → LaterNotesGive limits notes pieces next a
    → LaterNotesGive limits notes pieces next b → a ≡ b
later_unique limits notes pieces later next a b first second = grind (arith, common_steps)

NotesGive-unique : (limits : Limits) (notes : List Note) (pieces : List (List ℕ)) (a b : Result (List Note) Cause)
    → NotesGive limits notes pieces a → NotesGive limits notes pieces b → a ≡ b
NotesGive-unique limits notes [] a b first second = same_value (Ok notes) a b first second
NotesGive-unique limits notes (piece ∷ pieces) a b first second =
    let next : first.0 ≡ second.0 = NoteGives-unique limits (words_of piece) first.0 second.0 first.1 second.1 in
    later_unique limits notes pieces (λ more. NotesGive-unique limits more pieces) second.0 a b (subst (λ next. LaterNotesGive limits notes pieces next a) next first.2) second.2

EventGives-unique : (taken : Taken) (notes : Result (List Note) Cause) (a b : Result Event Cause) → EventGives taken notes a → EventGives taken notes b → a ≡ b
EventGives-unique taken notes a b first second = grind (arith, common_steps)

-- the pieces behind a first one that gives this
abbrev BehindGives : Limits → List (List ℕ) → Result Taken Cause → Result Event Cause → Type 0
BehindGives limits pieces next result =
    MatchResult next (λ taken. (notes : Result (List Note) Cause) × NotesGive limits [] pieces notes × EventGives taken notes result) (λ cause. result ≡ Err cause)

BehindGives-unique : (limits : Limits) (pieces : List (List ℕ)) (next : Result Taken Cause) (a b : Result Event Cause)
    → BehindGives limits pieces next a → BehindGives limits pieces next b → a ≡ b
BehindGives-unique limits pieces next a b h h2 = search (rules, NotesGive-unique, EventGives-unique)

pub PiecesGive-unique : (limits : Limits) (pieces : List (List ℕ)) (a b : Result Event Cause) → PiecesGive limits pieces a → PiecesGive limits pieces b → a ≡ b
PiecesGive-unique limits pieces a b h h2 = search (rules, same_value, TakenGives-unique, BehindGives-unique)

-- two readings of the same line are equal
pub one_entry : (limits : Limits) (line : List ℕ) → HasOneEntry limits line
one_entry limits line = search (rules, MatchBool-unique, same_value, PiecesGive-unique)

-- behind notes that were read, the later pieces go on
pub notes_then : (limits : Limits) (start : List Note) (pieces : List (List ℕ)) (notes : List Note) (more : List (List ℕ)) (result : Result (List Note) Cause)
    → NotesGive limits start pieces (Ok notes) → NotesGive limits notes more result → NotesGive limits start (pieces ++ more) result
notes_then limits start [] notes more result read later = grind (arith, common_steps)
notes_then limits start (piece ∷ pieces) notes more result read later =
    (read.0, read.1, then (λ note rest. notes_then limits (start ++ note ∷ []) pieces notes more result rest later) read.0 read.2)
  where
    then : ((note : Note) → NotesGive limits (start ++ note ∷ []) pieces (Ok notes) → NotesGive limits (start ++ note ∷ []) (pieces ++ more) result)
        → (next : Result Note Cause) → LaterNotesGive limits start pieces next (Ok notes) → LaterNotesGive limits start (pieces ++ more) next result
    then deeper (Ok note) rest = deeper note rest
    then deeper (Err cause) rest = absurd (let other : Ok notes ≡ Err cause = rest in cc)

-- the pieces are those that were read, the one at hand and the later ones
pub cut_at_piece : (all read : List (List ℕ)) (count : ℕ) (piece : List ℕ) → read ≡ take count all → count < length all → piece ≡ get_or all count piece
    → all ≡ read ++ piece ∷ drop (count + 1) all
cut_at_piece all read count piece h h2 h3 = search (rules, add-one, drop-cons, take-append-drop)

-- the piece at hand is a note, so the pieces so far are notes
pub notes_one : (limits : Limits) (read : List (Bor (List ℕ))) (piece : Bor (List ℕ)) (notes items : List Note) (note : Note) → items ≡ notes ++ note ∷ []
    → NotesGive limits [] (texts read) (Ok notes) → NoteGives limits (words_of piece.now) (Ok note)
    → NotesGive limits [] (texts (read ++ piece ∷ [])) (Ok items)
notes_one limits read piece notes items note are given one = search (rules, map-append, notes_then)

-- the piece at hand is none, so its fault is that of all pieces
pub notes_fault : (limits : Limits) (all : List (List ℕ)) (read : List (Bor (List ℕ))) (piece : Bor (List ℕ)) (notes : List Note) (cause : Cause)
    → texts read ≡ take (length read) all → (length read < length all) × (piece.now ≡ get_or all (length read) piece.now)
    → NotesGive limits [] (texts read) (Ok notes) → NoteGives limits (words_of piece.now) (Err cause) → NotesGive limits [] all (Err cause)
notes_fault limits all read piece notes cause so_far turn given fault =
    subst (λ pieces. NotesGive limits [] pieces (Err cause)) (sym (cut_at_piece all (texts read) (length read) piece.now so_far turn.0 turn.1))
    (notes_then limits [] (texts read) notes (piece.now ∷ drop (length read + 1) all) (Err cause) given (Err cause, fault, refl))

-- behind notes, what begins with one
notes_begin : (limits : Limits) (start : List Note) (pieces : List (List ℕ)) (notes : List Note) (more : List (List ℕ))
    → NotesGive limits start pieces (Ok notes)
    → BeginWithNote limits more → BeginWithNote limits (pieces ++ more)
notes_begin limits start [] notes more read later = later
notes_begin limits start (piece ∷ pieces) notes more read later = begin read.0 read.1 read.2
  where
    begin : (next : Result Note Cause) → NoteGives limits (words_of piece) next → LaterNotesGive limits start pieces next (Ok notes)
        → BeginWithNote limits (piece ∷ (pieces ++ more))
    begin (Ok note) one rest = (note, one)
    begin (Err cause) one rest = absurd (let other : Ok notes ≡ Err cause = rest in cc)

-- the piece at hand is a note, so the pieces begin with one
pub notes_wanted : (limits : Limits) (all : List (List ℕ)) (read : List (Bor (List ℕ))) (piece : Bor (List ℕ)) (notes : List Note) (note : Note)
    → texts read ≡ take (length read) all → (length read < length all) × (piece.now ≡ get_or all (length read) piece.now)
    → NotesGive limits [] (texts read) (Ok notes) → NoteGives limits (words_of piece.now) (Ok note) → BeginWithNote limits all
notes_wanted limits all read piece notes note so_far turn given one = search (rules, cut_at_piece, notes_begin)

-- The line that is written of an entry is read as that entry: for `write_entry`.
use Rattle.script_core.proofs.Common.{All-head, All-tail, common_steps, ◌≡◌, ℕ, ◌*◌, ◌^◌, ◌<◌, ◌≤◌, ◌==◌, ◌&&◌, nat_le, true, false, not, List, [], ◌∷◌, ◌++◌, length, filter, flat_map, codes, decimal, Ok, inr, refl, sym, ap, ◌∙◌, subst, arith, lit<, lit≤, length-append, append_assoc, append-nil, All, bytes_eq, slice_split, join_with_byte, list_all, length-decimal-le, le-ltb, nat_tests}
use Rattle.script_core.proofs.Common.{Mode, Limits, Errno, EBADF, EINVAL, Reply, Note, Answer, Event, words_of, is_printable, mode_word, request_words, reply_words, tag, note_text, IsProcess, IsWritable, entry_limit, pieces_of, TakenGives, IsWritableReply, ReplyGives, ToldGives, NoteGives, NotesGive, IsWritableNote}
use Rattle.range_core.specs.declared.Mode.TheVariants as modes
use Rattle.lock_manager.specs.declared.request.Errno.TheVariants.{EOVERFLOW, EAGAIN, EDEADLK, EINTR, EMFILE, ESRCH}
use Rattle.lock_manager.specs.declared.request.Reply.TheVariants as replies
use Rattle.lock_manager.specs.declared.request.Note.TheVariants.{Waits}
use Rattle.script_core.specs.EntryText.{error_name, reply_text}
use Rattle.script_core.specs.EntryReading.{PiecesGive, EntryGives, IsEntryReadBack}
use Rattle.script_core.proofs.RoundTripLemmas.{AreVisible, IsWord, AreWords, IsWord-tested, IsWord-decimal, IsWord-process, IsWord-descriptor, IsWord-signed_decimal, AreWords-request_words, slice_split-words, words_of-join, not_empty, more_length, length-join, length-process, length-descriptor, length-signed_decimal, more_length-request_words, gives_request, join_cons}

-- each byte is a space or one that words have
unfoldable pub AreSpoken : List ℕ → Type 0
AreSpoken [] = Unit {0}
AreSpoken (byte ∷ bytes) = (32 ≤ byte) × (byte ≤ 122) × AreSpoken bytes

pub AreSpoken-append : (bytes more : List ℕ) → AreSpoken bytes → AreSpoken more → AreSpoken (bytes ++ more)
unfolding AreSpoken
AreSpoken-append [] more are rest = rest
AreSpoken-append (byte ∷ bytes) more are rest = (are.0, are.1, AreSpoken-append bytes more are.2 rest)

pub AreSpoken-word : (word : List ℕ) → AreVisible word → AreSpoken word
unfolding AreSpoken AreVisible
AreSpoken-word [] visible = tt
AreSpoken-word (byte ∷ bytes) visible = (omega (arith, visible.0), visible.1, AreSpoken-word bytes visible.2)

AreSpoken-space : (bytes : List ℕ) → AreSpoken bytes → AreSpoken (32 ∷ bytes)
unfolding AreSpoken
AreSpoken-space bytes are = (lit≤ tt, lit≤ tt, are)

AreSpoken-join : (word : List ℕ) (words : List (List ℕ)) → AreWords (word ∷ words) → AreSpoken (join_with_byte 32 (word ∷ words))
unfolding AreWords
AreSpoken-join word [] are = AreSpoken-word word are.0.visible
AreSpoken-join word (next ∷ words) are = grind (arith, common_steps, AreSpoken-append, AreSpoken-word, AreSpoken-space, AreSpoken-join next words)

-- a space behind such bytes
AreSpoken-end : (bytes : List ℕ) → AreSpoken bytes → AreSpoken (bytes ++ 32 ∷ [])
unfolding AreSpoken
AreSpoken-end bytes are = AreSpoken-append bytes (32 ∷ []) are (lit≤ tt, lit≤ tt, tt)

no_bar : (byte : ℕ) → byte ≤ 122 → (byte == 124) ≡ false
no_bar byte low = grind (arith, nat_tests)

printable_byte : (byte : ℕ) → 32 ≤ byte → byte ≤ 122 → (nat_le 32 byte && nat_le byte 126) ≡ true
printable_byte byte low high = grind (arith, nat_tests)

-- such bytes are one piece
one_piece : (bytes : List ℕ) → AreSpoken bytes → pieces_of bytes ≡ bytes ∷ []
unfolding AreSpoken
one_piece [] are = refl
one_piece (byte ∷ bytes) are = rw (no_bar byte are.1, one_piece bytes are.2) refl

-- and before a bar the first of several
piece_then : (bytes rest : List ℕ) → AreSpoken bytes → pieces_of (bytes ++ 124 ∷ rest) ≡ bytes ∷ pieces_of rest
unfolding AreSpoken
piece_then [] rest are = refl
piece_then (byte ∷ bytes) rest are = rw (no_bar byte are.1, piece_then bytes rest are.2) refl

printable_then : (bytes rest : List ℕ) → AreSpoken bytes → is_printable rest ≡ true → is_printable (bytes ++ rest) ≡ true
unfolding AreSpoken
printable_then [] rest are printable = printable
printable_then (byte ∷ bytes) rest are printable = rw (printable_byte byte are.0 are.1) (printable_then bytes rest are.2 printable)

-- such bytes are printable
pub printable_spoken : (bytes : List ℕ) → AreSpoken bytes → is_printable bytes ≡ true
unfolding AreSpoken
printable_spoken [] are = refl
printable_spoken (byte ∷ bytes) are = rw (printable_byte byte are.0 are.1) (printable_spoken bytes are.2)

pub AreSpoken-tested : (bytes : List ℕ) → list_all (λ byte. nat_le 32 byte && nat_le byte 122) bytes ≡ true → AreSpoken bytes
unfolding AreSpoken
AreSpoken-tested [] tested = tt
AreSpoken-tested (byte ∷ bytes) tested = grind (arith, common_steps, AreSpoken-tested bytes)

-- the words of a note
note_words : Note → List (List ℕ)
note_words (Answer p n reply) = tag p n ∷ reply_words reply
note_words (Waits p n) = tag p n ∷ codes "waits" ∷ []

-- a note, without the bar before it
note_body : Note → List ℕ
note_body note = join_with_byte 32 (note_words note)

reply_join : (word : List ℕ) (reply : Reply) → word ++ codes " " ++ reply_text reply ≡ join_with_byte 32 (word ∷ reply_words reply)
reply_join word reply = grind (arith, common_steps, append_assoc)

-- the text of a note is its bar between two spaces, and its words
text_of_note : (note : Note) → note_text note ≡ 32 ∷ 124 ∷ 32 ∷ note_body note
unfolding note_body note_words
text_of_note (Answer p n reply) = ap (λ l. codes " | " ++ l) (reply_join (tag p n) reply) ∙ refl
text_of_note (Waits p n) = refl

visible_both : (bytes more : List ℕ) → AreVisible bytes → AreVisible more → AreVisible (bytes ++ more)
unfolding AreVisible
visible_both [] more are rest = rest
visible_both (byte ∷ bytes) more are rest = (are.0, are.1, visible_both bytes more are.2 rest)

pub IsWord-tag : (limits : Limits) (p n : ℕ) → IsProcess limits p → n < 2 ^ 64 → IsWord (tag p n)
IsWord-tag limits p n process small =
    let first = IsWord-process limits p process in
    let last = IsWord-decimal n small in
    let hash = IsWord-tested (codes "#") refl in
    record {
      some = omega (arith, first.some, length-append (decimal p) (codes "#"), length-append (decimal p ++ codes "#") (decimal n));
      visible = visible_both (decimal p ++ codes "#") (decimal n) (visible_both (decimal p) (codes "#") first.visible hash.visible) last.visible;
    }

pub length-tag : (limits : Limits) (p n : ℕ) → IsProcess limits p → n < 2 ^ 64 → length (tag p n) ≤ 23
length-tag limits p n process small =
    omega (arith, length-process limits p process, length-decimal-le 20 n (lit< tt) (omega (arith, small)) small, length-append (decimal p) (codes "#"), length-append (decimal p ++ codes "#") (decimal n))

IsWord-error : (error : Errno) → IsWord (error_name error)
IsWord-error EBADF = IsWord-tested (error_name EBADF) refl
IsWord-error EINVAL = IsWord-tested (error_name EINVAL) refl
IsWord-error EOVERFLOW = IsWord-tested (error_name EOVERFLOW) refl
IsWord-error EAGAIN = IsWord-tested (error_name EAGAIN) refl
IsWord-error EDEADLK = IsWord-tested (error_name EDEADLK) refl
IsWord-error EINTR = IsWord-tested (error_name EINTR) refl
IsWord-error EMFILE = IsWord-tested (error_name EMFILE) refl
IsWord-error ESRCH = IsWord-tested (error_name ESRCH) refl

length-error : (error : Errno) → length (error_name error) ≤ 9
length-error error = grind (arith, common_steps)

IsWord-mode : (mode : Mode) → IsWord (mode_word mode)
IsWord-mode modes.Read = IsWord-tested (mode_word modes.Read) refl
IsWord-mode modes.Write = IsWord-tested (mode_word modes.Write) refl

length-mode : (mode : Mode) → length (mode_word mode) ≤ 1
length-mode mode = grind (arith, common_steps)

AreWords-reply : (reply : Reply) → IsWritableReply reply → AreWords (reply_words reply)
unfolding AreWords
AreWords-reply replies.Ok writable = (IsWord-tested (codes "ok") refl, tt)
AreWords-reply (replies.Fd fd) writable = (IsWord-tested (codes "fd") refl, (IsWord-descriptor fd writable, tt))
AreWords-reply replies.Free writable = (IsWord-tested (codes "free") refl, tt)
AreWords-reply (replies.Held mode start len pid) writable =
    (IsWord-tested (codes "held") refl, (IsWord-mode mode, (IsWord-decimal start writable.0, (IsWord-decimal len writable.1, (IsWord-signed_decimal pid writable.2, tt)))))
AreWords-reply (replies.Err error) writable = (IsWord-error error, tt)

more_length-reply : (reply : Reply) → IsWritableReply reply → more_length (reply_words reply) ≤ 70
unfolding more_length
more_length-reply replies.Ok writable = lit≤ tt
more_length-reply (replies.Fd fd) writable = omega (arith, length-descriptor fd writable)
more_length-reply replies.Free writable = lit≤ tt
more_length-reply (replies.Held mode start len pid) writable =
    omega (arith, length-mode mode, length-decimal-le 20 start (lit< tt) (omega (arith, writable.0)) writable.0, length-decimal-le 20 len (lit< tt) (omega (arith, writable.1)) writable.1, length-signed_decimal pid writable.2)
more_length-reply (replies.Err error) writable = omega (arith, length-error error)

AreWords-note : (limits : Limits) (note : Note) → IsWritableNote limits note → AreWords (note_words note)
unfolding AreWords note_words
AreWords-note limits (Answer p n reply) writable = (IsWord-tag limits p n writable.0 writable.1, AreWords-reply reply writable.2)
AreWords-note limits (Waits p n) writable = (IsWord-tag limits p n writable.0 writable.1, (IsWord-tested (codes "waits") refl, tt))

AreSpoken-note : (limits : Limits) (note : Note) → IsWritableNote limits note → AreSpoken (note_body note)
unfolding note_body note_words
AreSpoken-note limits (Answer p n reply) writable = AreSpoken-join (tag p n) (reply_words reply) (AreWords-note limits (Answer p n reply) writable)
AreSpoken-note limits (Waits p n) writable = AreSpoken-join (tag p n) (codes "waits" ∷ []) (AreWords-note limits (Waits p n) writable)

length-note : (limits : Limits) (note : Note) → IsWritableNote limits note → length (note_body note) ≤ 93
unfolding note_body note_words more_length
length-note limits (Answer p n reply) writable =
    omega (arith, length-join (tag p n) (reply_words reply), length-tag limits p n writable.0 writable.1, more_length-reply reply writable.2)
length-note limits (Waits p n) writable = omega (arith, length-join (tag p n) (codes "waits" ∷ []), length-tag limits p n writable.0 writable.1)

-- words with a space behind them
split_end : (word : List ℕ) (words : List (List ℕ)) → AreWords (word ∷ words)
    → slice_split (λ byte. byte == 32) (join_with_byte 32 (word ∷ words) ++ 32 ∷ []) ≡ word ∷ (words ++ [] ∷ [])
unfolding AreWords
split_end word [] are = slice_split-words word [] are.0.visible
split_end word (next ∷ words) are = grind (arith, common_steps, append_assoc, slice_split-words, split_end next words)

filter_end : (words : List (List ℕ)) → AreWords words → filter (λ word. not (length word == 0)) (words ++ [] ∷ []) ≡ words
unfolding AreWords
filter_end [] are = refl
filter_end (word ∷ words) are = rw (not_empty (length word) are.0.some, filter_end words are.1) refl

words_end : (word : List ℕ) (words : List (List ℕ)) → AreWords (word ∷ words) → words_of (join_with_byte 32 (word ∷ words) ++ 32 ∷ []) ≡ word ∷ words
words_end word words are =
    ap (λ (pieces : List (List ℕ)). filter (λ word. not (length word == 0)) pieces) (split_end word words are) ∙ filter_end (word ∷ words) are

-- the words of a piece that is a note, and with a space behind it
words_of_note : (limits : Limits) (note : Note) → IsWritableNote limits note → words_of (32 ∷ note_body note) ≡ note_words note
unfolding note_body note_words
words_of_note limits note writable = grind (arith, common_steps, words_of-join, AreWords-note)

words_of_middle : (limits : Limits) (note : Note) → IsWritableNote limits note → words_of ((32 ∷ note_body note) ++ 32 ∷ []) ≡ note_words note
unfolding note_body note_words
words_of_middle limits note writable = grind (arith, common_steps, words_end, AreWords-note)

-- the words of a reply are read as it
error_gives : (error : Errno) → ReplyGives (error_name error) [] (Ok (replies.Err error))
error_gives error = grind (arith, common_steps)

error_other : (error : Errno) → bytes_eq (error_name error) (codes "waits") ≡ false
error_other error = grind (arith, common_steps)

reply_tells : (p n : ℕ) (reply : Reply) → IsWritableReply reply → ToldGives p n (reply_words reply) (Ok (Answer p n reply))
reply_tells p n replies.Ok writable = (Ok replies.Ok, inr (replies.Ok, (refl, writable), refl), refl)
reply_tells p n (replies.Fd fd) writable = (Ok (replies.Fd fd), inr (replies.Fd fd, (refl, writable), refl), refl)
reply_tells p n replies.Free writable = (Ok replies.Free, inr (replies.Free, (refl, writable), refl), refl)
reply_tells p n (replies.Held mode start len pid) writable =
    (Ok (replies.Held mode start len pid), inr (replies.Held mode start len pid, (refl, writable), refl), refl)
reply_tells p n (replies.Err error) writable = rw (error_other error) (Ok (replies.Err error), error_gives error, refl)

-- the words of a note are read as it
note_gives : (limits : Limits) (note : Note) → IsWritableNote limits note → NoteGives limits (note_words note) (Ok note)
unfolding note_words
note_gives limits (Answer p n reply) writable = (Ok (p, n), (writable.0, writable.1, refl), reply_tells p n reply writable.2)
note_gives limits (Waits p n) writable = (Ok (p, n), (writable.0, writable.1, refl), refl)

-- bytes before a note: its bar ends them
bar_text : (bytes : List ℕ) (note : Note) (rest : List ℕ) → bytes ++ (note_text note ++ rest) ≡ (bytes ++ 32 ∷ []) ++ 124 ∷ ((32 ∷ note_body note) ++ rest)
bar_text bytes note rest =
    ap (λ (t : List ℕ). bytes ++ (t ++ rest)) (text_of_note note) ∙ sym (append_assoc bytes (32 ∷ []) (124 ∷ ((32 ∷ note_body note) ++ rest)))

-- the text of further notes is read as these
notes_give : (limits : Limits) (before : List Note) (note : Note) (rest : List Note) → IsWritableNote limits note → All (IsWritableNote limits) rest
    → NotesGive limits before (pieces_of ((32 ∷ note_body note) ++ flat_map note_text rest)) (Ok (before ++ note ∷ rest))
notes_give limits before note [] writable all =
    let spoken = AreSpoken-space (note_body note) (AreSpoken-note limits note writable) in
    let pieces : pieces_of ((32 ∷ note_body note) ++ []) ≡ (32 ∷ note_body note) ∷ [] = ap pieces_of (append-nil (32 ∷ note_body note)) ∙ one_piece (32 ∷ note_body note) spoken in
    subst (λ (ps : List (List ℕ)). NotesGive limits before ps (Ok (before ++ note ∷ []))) (sym pieces)
    (Ok note, subst (λ (words : List (List ℕ)). NoteGives limits words (Ok note)) (sym (words_of_note limits note writable)) (note_gives limits note writable), refl)
notes_give limits before note (next ∷ rest) writable all =
    let spoken = AreSpoken-end (32 ∷ note_body note) (AreSpoken-space (note_body note) (AreSpoken-note limits note writable)) in
    let later = (32 ∷ note_body next) ++ flat_map note_text rest in
    let pieces : pieces_of ((32 ∷ note_body note) ++ flat_map note_text (next ∷ rest)) ≡ ((32 ∷ note_body note) ++ 32 ∷ []) ∷ pieces_of later =
    ap pieces_of (bar_text (32 ∷ note_body note) next (flat_map note_text rest)) ∙ piece_then ((32 ∷ note_body note) ++ 32 ∷ []) later spoken in
    let others = notes_give limits (before ++ note ∷ []) next rest (All-head (IsWritableNote limits) next rest all) (All-tail (IsWritableNote limits) next rest all) in
    subst (λ (ps : List (List ℕ)). NotesGive limits before ps (Ok (before ++ note ∷ next ∷ rest))) (sym pieces) (
      Ok note,
      subst (λ (words : List (List ℕ)). NoteGives limits words (Ok note)) (sym (words_of_middle limits note writable)) (note_gives limits note writable),
      subst (λ (notes : List Note). NotesGive limits (before ++ note ∷ []) (pieces_of later) (Ok notes)) (append_assoc before (note ∷ []) (next ∷ rest)) others,
    )

printable_notes : (limits : Limits) (notes : List Note) → All (IsWritableNote limits) notes → is_printable (flat_map note_text notes) ≡ true
printable_notes limits [] all = refl
printable_notes limits (note ∷ rest) all =
    rw (text_of_note note)
    (printable_then (note_body note) (flat_map note_text rest) (AreSpoken-note limits note (All-head (IsWritableNote limits) note rest all))
    (printable_notes limits rest (All-tail (IsWritableNote limits) note rest all)))

pub length-notes : (limits : Limits) (notes : List Note) → All (IsWritableNote limits) notes → length (flat_map note_text notes) ≤ 96 * length notes
length-notes limits [] all = lit≤ tt
length-notes limits (note ∷ rest) all =
    let body = length-note limits note (All-head (IsWritableNote limits) note rest all) in
    let later = length-notes limits rest (All-tail (IsWritableNote limits) note rest all) in
    let text = ap length (text_of_note note) in
    omega (arith, body, later, text, length-append (note_text note) (flat_map note_text rest))

-- the words of a first piece are read as the request that was taken
taken_gives : (limits : Limits) (event : Event) (words : List (List ℕ)) → words ≡ tag event.p event.n ∷ request_words event.request
    → IsProcess limits event.p → event.n < 2 ^ 64
    → IsWritable limits event.request → TakenGives limits words (Ok (record { p = event.p; n = event.n; request = event.request }))
taken_gives limits event words are process number request =
    rw are (Ok (event.p, event.n), (process, number, refl), (Ok event.request, gives_request limits event.request request, refl))

-- a first piece, and then notes
pieces_give : (limits : Limits) (event : Event) (notes : List Note) → IsProcess limits event.p → event.n < 2 ^ 64 → IsWritable limits event.request
    → All (IsWritableNote limits) notes
    → PiecesGive limits (pieces_of (join_with_byte 32 (tag event.p event.n ∷ request_words event.request)
    ++ flat_map note_text notes)) (Ok (record event { notes = notes }))
unfolding AreWords
pieces_give limits event [] process number request all =
    let word = tag event.p event.n in
    let words = request_words event.request in
    let first = join_with_byte 32 (word ∷ words) in
    let are : AreWords (word ∷ words) = (IsWord-tag limits event.p event.n process number, AreWords-request_words limits event.request request) in
    let pieces : pieces_of (first ++ []) ≡ first ∷ [] = ap pieces_of (append-nil first) ∙ one_piece first (AreSpoken-join word words are) in
    subst (λ (ps : List (List ℕ)). PiecesGive limits ps (Ok (record event { notes = [] }))) (sym pieces)
    (Ok (record { p = event.p; n = event.n; request = event.request }), taken_gives limits event (words_of first) (words_of-join word words are) process number request, (Ok [], refl, refl))
pieces_give limits event (note ∷ rest) process number request all =
    let word = tag event.p event.n in
    let words = request_words event.request in
    let first = join_with_byte 32 (word ∷ words) in
    let are : AreWords (word ∷ words) = (IsWord-tag limits event.p event.n process number, AreWords-request_words limits event.request request) in
    let later = (32 ∷ note_body note) ++ flat_map note_text rest in
    let pieces : pieces_of (first ++ flat_map note_text (note ∷ rest)) ≡ (first ++ 32 ∷ []) ∷ pieces_of later =
    ap pieces_of (bar_text first note (flat_map note_text rest)) ∙ piece_then (first ++ 32 ∷ []) later (AreSpoken-end first (AreSpoken-join word words are)) in
    subst (λ (ps : List (List ℕ)). PiecesGive limits ps (Ok (record event { notes = note ∷ rest }))) (sym pieces) (
      Ok (record { p = event.p; n = event.n; request = event.request }),
      taken_gives limits event (words_of (first ++ 32 ∷ [])) (words_end word words are) process number request,
      (Ok (note ∷ rest), notes_give limits [] note rest (All-head (IsWritableNote limits) note rest all) (All-tail (IsWritableNote limits) note rest all), refl),
    )

-- the line that is written of an event is read as it
pub entry_reads_back : (event : Event) → IsEntryReadBack event
unfolding AreWords
entry_reads_back event = λ limits writable.
    let word = tag event.p event.n in
    let words = request_words event.request in
    let first = join_with_byte 32 (word ∷ words) in
    let notes = flat_map note_text event.notes in
    let are : AreWords (word ∷ words) = (IsWord-tag limits event.p event.n writable.process writable.number, AreWords-request_words limits event.request writable.request) in
    let printable : is_printable (first ++ notes) ≡ true = printable_then first notes (AreSpoken-join word words are) (printable_notes limits event.notes writable.notes) in
    let short : length (first ++ notes) ≤ entry_limit =
    omega (
      arith,
      length-append first notes,
      length-join word words,
      length-tag limits event.p event.n writable.process writable.number,
      more_length-request_words limits event.request writable.request,
      length-notes limits event.notes writable.notes,
      writable.few,
    ) in
    subst (λ (line : List ℕ). EntryGives limits line (Ok event)) (sym (ap (λ (t : List ℕ). t ++ notes) (join_cons word event.request)))
    (rw (le-ltb entry_limit (length (first ++ notes)) short, printable)
    (pieces_give limits event event.notes writable.process writable.number writable.request writable.notes))

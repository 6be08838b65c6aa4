-- The text of an entry of the journal (this project's choice).
use Rattle.std.specs.Prelude.{ℕ, List, [], ◌∷◌, ◌++◌, flat_map, codes, decimal}
use Rattle.std.specs.Fmt.{signed_decimal}
use Rattle.std.specs.List.{join_with_byte}
use Rattle.lock_manager.specs.declared.request.Errno.{Errno}
use Rattle.lock_manager.specs.declared.request.Errno.TheVariants.{EBADF, EINVAL, EOVERFLOW, EAGAIN, EDEADLK, EINTR, EMFILE, ESRCH}
use Rattle.lock_manager.specs.declared.request.Reply.{Reply}
use Rattle.lock_manager.specs.declared.request.Reply.TheVariants as replies
use Rattle.lock_manager.specs.declared.request.Note.{Note}
use Rattle.lock_manager.specs.declared.request.Note.TheVariants.{Answer, Waits}
use Rattle.session_core.specs.Event.{Event}
use Rattle.script_core.specs.RequestText.{mode_word, request_text}

-- the name of an error (POSIX.1-2017 <errno.h>)
abbrev pub error_name : Errno → List ℕ
error_name EBADF = codes "EBADF"
error_name EINVAL = codes "EINVAL"
error_name EOVERFLOW = codes "EOVERFLOW"
error_name EAGAIN = codes "EAGAIN"
error_name EDEADLK = codes "EDEADLK"
error_name EINTR = codes "EINTR"
error_name EMFILE = codes "EMFILE"
error_name ESRCH = codes "ESRCH"

-- the words of an answer, of which a lock that is held has its mode, start, length and pid
abbrev pub reply_words : Reply → List (List ℕ)
reply_words replies.Ok = codes "ok" ∷ []
reply_words (replies.Fd fd) = codes "fd" ∷ decimal fd ∷ []
reply_words replies.Free = codes "free" ∷ []
reply_words (replies.Held mode start len pid) = codes "held" ∷ mode_word mode ∷ decimal start ∷ decimal len ∷ signed_decimal pid ∷ []
reply_words (replies.Err error) = error_name error ∷ []

-- the words with one space between each two
abbrev pub reply_text : Reply → List ℕ
reply_text reply = join_with_byte 32 (reply_words reply)

-- the process and the number of a request
abbrev pub tag : ℕ → ℕ → List ℕ
tag p n = decimal p ++ codes "#" ++ decimal n

-- a note, with the request that it answers, or that waits
abbrev pub note_text : Note → List ℕ
note_text (Answer p n reply) = codes " | " ++ tag p n ++ codes " " ++ reply_text reply
note_text (Waits p n) = codes " | " ++ tag p n ++ codes " waits"

-- the text of an event: the request, and then each note
abbrev pub entry_text : Event → List ℕ
entry_text event = tag event.p event.n ++ codes " " ++ request_text event.request ++ flat_map note_text event.notes

-- the line of an event: its text, and a line feed
abbrev pub entry_line : Event → List ℕ
entry_line event = entry_text event ++ 10 ∷ []

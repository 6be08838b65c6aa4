-- What a line of a script expects, when a run meets it, and what is told where it doesn't (the words are this project's choice).
use Rattle.std.specs.Prelude.{◌≡◌, ◌≢◌, ℕ, ◌==◌, Bool, false, ◌&&◌, not, if◌then◌else◌, Option, None, Some, List, [], ◌∷◌, ◌++◌, drop, filter, flat_map, codes, decimal, bytes_eq, IsTrue}
use Rattle.std.specs.List.{join_with_byte, list_any}
use Rattle.fd_table.specs.declared.Limits.{Limits}
use Rattle.lock_manager.specs.declared.request.Note.{Note as Told}
use Rattle.lock_manager.specs.declared.request.Note.TheVariants.{Answer, Waits}
use Rattle.session_core.specs.Event.{Event}
use Rattle.script_core.specs.Words.{lines_of, words_of, is_printable}
use Rattle.script_core.specs.EntryText.{reply_text}
use Rattle.script_core.specs.EntryReading.{IsTag}
use Rattle.script_core.specs.JournalReading.{is_report_word}
use Rattle.expectations.specs.declared.expectation.Wanted.{Wanted}
use Rattle.expectations.specs.declared.expectation.Wanted.TheVariants.{Note, Line, NoLine}

-- what is expected: what it is of, and the text of the note or of the line
pub record Expected : Type 0 where
  pub wanted : Wanted
  pub text : List ℕ

-- ---- how it is written

-- whether these words are those of an expectation: the first are `#` and `expect`
abbrev pub expects : List (List ℕ) → Bool
expects [] = false
expects (first ∷ []) = false
expects (first ∷ second ∷ rest) = bytes_eq first (codes "#") && bytes_eq second (codes "expect")

-- whether the line is an expectation (one with a byte that isn't printable is none, and a fault of its script)
abbrev pub is_expectation : List ℕ → Bool
is_expectation line = is_printable line && expects (words_of line)

-- the words of the line behind `# expect`
abbrev pub words_behind : List ℕ → List (List ℕ)
words_behind line = drop 2 (words_of line)

-- whether the first of the words is one that a line of a report begins with
abbrev pub begins_report_line : List (List ℕ) → Bool
begins_report_line [] = false
begins_report_line (first ∷ rest) = is_report_word first

-- the words are an expectation of this, and these are the words of its text: a request's process and number, and what its last note tells; a line
-- of a report; or `no`, and such a line
abbrev pub IsForm : Limits → List (List ℕ) → Wanted → List (List ℕ) → Type 0
IsForm limits words (Note p n) text = (word : List ℕ) × IsTag limits word p n × (words ≡ word ∷ text) × (text ≢ [])
IsForm limits words Line text = (words ≡ text) × IsTrue (begins_report_line text)
IsForm limits words NoLine text = (words ≡ codes "no" ∷ text) × IsTrue (begins_report_line text)

-- the words say that this is expected: its text is their last ones, with one space between each two
pub record Says (limits : Limits) (words : List (List ℕ)) (expected : Expected) : Type 0 where
  pub text : List (List ℕ)
  pub is_form : IsForm limits words expected.wanted text
  pub is : expected.text ≡ join_with_byte 32 text

-- ---- what is seen

-- what a note tells of its request: what stands behind the request's process and number, and a space
abbrev pub told_text : Told → List ℕ
told_text (Answer p n reply) = reply_text reply
told_text (Waits p n) = codes "waits"

-- whether the note is on the request number n of process p
abbrev pub is_about : ℕ → ℕ → Told → Bool
is_about p n (Answer q m reply) = (q == p) && (m == n)
is_about p n (Waits q m) = (q == p) && (m == n)

-- the last of these notes, if there is one
abbrev pub last_of : List Told → Option Told
last_of [] = None
last_of (note ∷ []) = Some note
last_of (note ∷ next ∷ notes) = last_of (next ∷ notes)

-- the notes of these events, in order
abbrev pub notes_in : List Event → List Told
notes_in events = flat_map (λ event. event.notes) events

-- the last note on the request in a run of these events, if there is one
abbrev pub last_note : ℕ → ℕ → List Event → Option Told
last_note p n events = last_of (filter (is_about p n) (notes_in events))

-- what the last note on a request tells, or that there is none
abbrev pub note_seen : Option Told → List ℕ
note_seen None = codes "none"
note_seen (Some note) = told_text note

-- whether the text has this line
abbrev pub has_line : List ℕ → List ℕ → Bool
has_line text line = list_any (λ one. bytes_eq one line) (lines_of text)

-- whether a run with this journal and this report meets what is expected
abbrev pub is_met_by : Wanted → List ℕ → List Event → List ℕ → Bool
is_met_by (Note p n) text journal report = bytes_eq (note_seen (last_note p n journal)) text
is_met_by Line text journal report = has_line report text
is_met_by NoLine text journal report = not (has_line report text)

-- the same of an expectation
abbrev pub is_met : Expected → List Event → List ℕ → Bool
is_met expected journal report = is_met_by expected.wanted expected.text journal report

-- ---- what is told

-- what is seen in its place where it isn't met: what the last note tells, or that there is none; that there is no such line; or the line
abbrev pub seen_by : Wanted → List ℕ → List Event → List ℕ
seen_by (Note p n) text journal = note_seen (last_note p n journal)
seen_by Line text journal = codes "no such line"
seen_by NoLine text journal = text

-- the same of an expectation
abbrev pub seen_in : Expected → List Event → List ℕ
seen_in expected journal = seen_by expected.wanted expected.text journal

-- what is expected, as it is told
abbrev pub wanted_by : Wanted → List ℕ → List ℕ
wanted_by (Note p n) text = text
wanted_by Line text = text
wanted_by NoLine text = codes "no " ++ text

-- the same of an expectation
abbrev pub wanted_text : Expected → List ℕ
wanted_text expected = wanted_by expected.wanted expected.text

-- the line that tells that this was seen, and not what the line with this number expects
abbrev pub unmet_line : ℕ → List ℕ → Expected → List ℕ
unmet_line number seen expected =
    codes "line " ++ decimal number ++ codes ": " ++ seen ++ codes ", expected " ++ wanted_text expected ++ 10 ∷ []

-- what is told of what the line with this number expects, by a run with this journal and this report: nothing where it is met
abbrev pub told_of : ℕ → Expected → List Event → List ℕ → List ℕ
told_of number expected journal report = if is_met expected journal report then [] else unmet_line number (seen_in expected journal) expected

-- How a journal is read: line by line, up to the first fault or the first line with which it is no front of a run (this project's choice).
use Rattle.std.specs.Prelude.{◌≡◌, ℕ, ◌+◌, ◌||◌, ⊤, ◌⊎◌, Bool, true, false, nat_lt, MatchBool, MatchResult, Option, Some, None, Result, Ok, Err, List, [], ◌∷◌, ◌++◌, All, length, map, codes, bytes_eq}
use Rattle.range_core.specs.Facts.{MatchFact}
use Rattle.fd_table.specs.Descriptors.{process_limit}
use Rattle.fd_table.specs.declared.Limits.{Limits}
use Rattle.lock_manager.specs.declared.request.Rules.{Rules}
use Rattle.lock_manager.specs.State.{State}
use Rattle.session_core.specs.Event.{Event}
use Rattle.session_core.specs.Runs.{IsRun}
use Rattle.script_core.specs.declared.place.Stage.{Stage}
use Rattle.script_core.specs.declared.place.Stage.TheVariants as stages
use Rattle.script_core.specs.declared.place.Place.{Place}
use Rattle.script_core.specs.declared.place.JournalLine.{JournalLine}
use Rattle.script_core.specs.declared.place.JournalLine.TheVariants as lines
use Rattle.script_core.specs.declared.script.Cause.{Cause}
use Rattle.script_core.specs.declared.script.Cause.TheVariants.{Byte, Word, TooLong}
use Rattle.script_core.specs.HeaderReading.{no_header, limits_said, rules_said, HeaderGives}
use Rattle.script_core.specs.Words.{words_of, is_printable}
use Rattle.script_core.specs.Reading.{is_comment}
use Rattle.script_core.specs.EntryText.{entry_text}
use Rattle.script_core.specs.declared.report.ReportLine.{ReportLine}
use Rattle.script_core.specs.ReportReading.{AreTextsOf, AreReportLines}
use Rattle.script_core.specs.EntryReading.{entry_limit, pieces_of, PiecesGive, IsWritableEvent}

-- no line said anything
abbrev pub opening_place : Place
opening_place = record { header = no_header; stage = stages.Header }

-- the limits of the journal: those that its header lines say
abbrev pub limits_at : Place → Limits
limits_at place = limits_said place.header

-- the rules of the journal: those that its header lines say
abbrev pub rules_at : Place → Rules
rules_at place = rules_said place.header

-- the processes of the journal: as many as its limits allow
abbrev pub processes_at : Place → ℕ
processes_at place = process_limit (limits_at place)

-- whether no entry and no report line came
abbrev pub is_header : Stage → Bool
is_header stages.Header = true
is_header stages.Entries = false
is_header stages.Report = false

-- the line of this first word is one of the report
abbrev pub is_report_word : List ℕ → Bool
is_report_word word =
    bytes_eq word (codes "lock") || (bytes_eq word (codes "flock") || (bytes_eq word (codes "wait") || bytes_eq word (codes "proc")))

-- any other line: it should be an entry, unless the report has begun
abbrev pub OtherGives : Stage → Result (Option JournalLine) Cause → Type 0
OtherGives stages.Header result = result ≡ Ok None
OtherGives stages.Entries result = result ≡ Ok None
OtherGives stages.Report result = result ≡ Err Word

-- a first word that is no comment, and what follows it: a header line where one may stand, a line of the report, or any other line
abbrev pub FirstGives : Place → List ℕ → List (List ℕ) → Result (Option JournalLine) Cause → Type 0
FirstGives place first rest result =
    HeaderGives place.header (is_header place.stage) (λ header. Some (lines.Header header)) first rest
    (MatchBool (is_report_word first) (result ≡ Ok (Some lines.Report)) (OtherGives place.stage result)) result

-- the words of a line, as far as they say which line it is: none or a comment, a header line where one may stand, one of the report, or
-- none of these, which should be an entry
abbrev pub HeadGives : Place → List (List ℕ) → Result (Option JournalLine) Cause → Type 0
HeadGives place [] result = result ≡ Ok (Some lines.Skipped)
HeadGives place (first ∷ rest) result =
    MatchBool (is_comment first) (result ≡ Ok (Some lines.Skipped)) (FirstGives place first rest result)

-- a line with this head: what its head says, or the entry that its pieces are
abbrev pub BodyGives : Limits → List ℕ → Result (Option JournalLine) Cause → Result JournalLine Cause → Type 0
BodyGives limits line (Ok (Some said)) result = result ≡ Ok said
BodyGives limits line (Ok None) result =
    (next : Result Event Cause) × PiecesGive limits (pieces_of line) next
    × MatchResult next (λ event. result ≡ Ok (lines.Entry event)) (λ cause. result ≡ Err cause)
BodyGives limits line (Err cause) result = result ≡ Err cause

-- a printable line that isn't too long: its head, and what it says with that
abbrev pub TextGives : Place → List ℕ → Result JournalLine Cause → Type 0
TextGives place line result =
    (head : Result (Option JournalLine) Cause) × HeadGives place (words_of line) head × BodyGives (limits_at place) line head result

-- a line: too long, with a byte that isn't printable, or a text
abbrev pub JournalLineGives : Place → List ℕ → Result JournalLine Cause → Type 0
JournalLineGives place line result =
    MatchBool (nat_lt entry_limit (length line)) (result ≡ Err TooLong) (MatchBool (is_printable line) (TextGives place line result) (result ≡ Err Byte))

-- the line has one meaning at most there
abbrev pub HasOneMeaning : Place → List ℕ → Type 0
HasOneMeaning place line = (a b : Result JournalLine Cause) → JournalLineGives place line a → JournalLineGives place line b → a ≡ b

-- so it is of each line, wherever it stands
abbrev pub LinesHaveOneMeaning : Type 0
LinesHaveOneMeaning = (place : Place) (line : List ℕ) → HasOneMeaning place line

-- the place behind a line that says this
abbrev pub place_behind : Place → JournalLine → Place
place_behind place lines.Skipped = place
place_behind place (lines.Header header) = record place { header = header }
place_behind place (lines.Entry event) = record place { stage = stages.Entries }
place_behind place lines.Report = record place { stage = stages.Report }

-- what was read of a journal: its place, its entries, and the lines of its report as they stood
pub record JournalReading : Type 0 where
  pub place : Place
  pub entries : List Event
  pub report : List (List ℕ)

-- nothing was read
abbrev pub journal_start : JournalReading
journal_start = record { place = opening_place; entries = []; report = [] }

-- the entries behind a line that says this
abbrev pub entries_behind : List Event → JournalLine → List Event
entries_behind entries lines.Skipped = entries
entries_behind entries (lines.Header header) = entries
entries_behind entries (lines.Entry event) = entries ++ event ∷ []
entries_behind entries lines.Report = entries

-- the lines of the report behind this line, which says this
abbrev pub report_behind : List (List ℕ) → List ℕ → JournalLine → List (List ℕ)
report_behind report line lines.Skipped = report
report_behind report line (lines.Header header) = report
report_behind report line (lines.Entry event) = report
report_behind report line lines.Report = report ++ line ∷ []

-- the reading behind this line, which says this
abbrev pub reading_behind : JournalReading → List ℕ → JournalLine → JournalReading
reading_behind reading line said = record {
  place = place_behind reading.place said;
  entries = entries_behind reading.entries said;
  report = report_behind reading.report line said;
}

-- the entries are a run of the journal's rules
abbrev pub AreLegal : Place → List Event → Type 0
AreLegal place entries = (T : State) × IsRun (rules_at place) (processes_at place) entries T

-- these are lines that the report has of each state that the entries leave, which are a run
pub record IsReportAt (place : Place) (entries : List Event) (reported : List ReportLine) : Type 0 where
  pub state : State
  pub run : IsRun (rules_at place) (processes_at place) entries state
  pub lines : AreReportLines (processes_at place) state entries reported

-- the report of the state that the entries leave begins with these lines
abbrev pub IsReportFront : Place → List Event → List (List ℕ) → Type 0
IsReportFront place entries texts =
    (reported : List ReportLine) × IsReportAt place entries reported × (more : List (List ℕ)) × AreTextsOf reported (texts ++ more)

-- the report of the state that the entries leave is these lines
abbrev pub IsWholeReport : Place → List Event → List (List ℕ) → Type 0
IsWholeReport place entries texts = (reported : List ReportLine) × IsReportAt place entries reported × AreTextsOf reported texts

-- the journal may go on with this line, which says this: with an entry where the entries are a run then, and with a line of the report
-- where the report begins with the lines then
abbrev pub MayGoOn : JournalReading → List ℕ → JournalLine → Type 0
MayGoOn reading line lines.Skipped = ⊤
MayGoOn reading line (lines.Header header) = ⊤
MayGoOn reading line (lines.Entry event) = AreLegal reading.place (reading.entries ++ event ∷ [])
MayGoOn reading line lines.Report = IsReportFront reading.place reading.entries (reading.report ++ line ∷ [])

-- the journal may end there: it has no line of the report, or all
abbrev pub MayEnd : JournalReading → Type 0
MayEnd reading = (reading.report ≡ []) ⊎ IsWholeReport reading.place reading.entries reading.report

-- what comes of a journal: it is legal, or a line is the first that is faulty, or the first that it may not go on with; that is the line
-- behind the last where it may not end
pub data JournalEnd : Type 0 where
  Legal : JournalEnd
  Faulty : ℕ → Cause → JournalEnd
  Illegal : ℕ → JournalEnd

-- the lines from this number on, behind this reading
abbrev pub JournalGives : ℕ → JournalReading → List (List ℕ) → JournalEnd → Type 0
JournalGives number reading [] end = MatchFact (MayEnd reading) (end ≡ Legal) (end ≡ Illegal number)
JournalGives number reading (line ∷ lines) end =
    (next : Result JournalLine Cause) × JournalLineGives reading.place line next
    × MatchResult next
    (λ said. MatchFact (MayGoOn reading line said) (JournalGives (number + 1) (reading_behind reading line said) lines end) (end ≡ Illegal number))
    (λ cause. end ≡ Faulty number cause)

-- a journal has one end
abbrev pub JournalsHaveOneEnd : Type 0
JournalsHaveOneEnd =
    (number : ℕ) (reading : JournalReading) (lines : List (List ℕ)) (a b : JournalEnd)
    → JournalGives number reading lines a → JournalGives number reading lines b → a ≡ b

-- the report has not begun
abbrev pub IsBeforeReport : Stage → Type 0
IsBeforeReport stages.Header = ⊤
IsBeforeReport stages.Entries = ⊤
IsBeforeReport stages.Report = ⊥

-- the texts of events, each on a line of its own, are read as these events, wherever the limits have their numbers, and where the report
-- has not begun; and they are legal there where they are a run behind those that were read
abbrev pub JournalsAreReadBack : Type 0
JournalsAreReadBack =
    (number : ℕ) (reading : JournalReading) (events : List Event) → IsBeforeReport reading.place.stage → reading.report ≡ []
    → All (IsWritableEvent (limits_at reading.place)) events → AreLegal reading.place (reading.entries ++ events)
    → JournalGives number reading (map entry_text events) Legal

-- the lines lead from the one reading to the other, one line after another
abbrev pub LinesLead : JournalReading → List (List ℕ) → JournalReading → Type 0
LinesLead reading [] after = after ≡ reading
LinesLead reading (line ∷ lines) after =
    (said : JournalLine) × JournalLineGives reading.place line (Ok said) × LinesLead (reading_behind reading line said) lines after

-- the texts of events, each on a line of its own, lead to a reading with just these events behind those that were read
abbrev pub EntriesAreReadBack : Type 0
EntriesAreReadBack =
    (reading : JournalReading) (events : List Event) → IsBeforeReport reading.place.stage → All (IsWritableEvent (limits_at reading.place)) events
    → (after : JournalReading) × LinesLead reading (map entry_text events) after × (after.entries ≡ reading.entries ++ events)

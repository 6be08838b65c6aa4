-- What a `JournalReader` has read (the words are this project's choice).
use Rattle.std.specs.Prelude.{◌≡◌, ◌≢◌, ℕ, ◌⊎◌, ⊤, Bool, true, false, is_some, if◌then◌else◌, Option, Some, None, Result, Ok, Err, List, [], ◌++◌, All}
use Rattle.session_core.specs.declared.check.Expected.{Expected}
use Rattle.lock_manager.specs.State.{State}
use Rattle.session_core.specs.Event.{Event}
use Rattle.session_core.specs.Runs.{IsRun}
use Rattle.session_core.specs.Checking.{HasAccepted, expected_by}
use Rattle.session_core.specs.Legality.{IsIllegal}
use Rattle.script_core.specs.declared.place.Stage.{Stage}
use Rattle.script_core.specs.declared.place.Stage.TheVariants as stages
use Rattle.script_core.specs.declared.place.Place.{Place}
use Rattle.script_core.specs.declared.place.JournalLine.{JournalLine}
use Rattle.script_core.specs.declared.place.JournalLine.TheVariants as lines
use Rattle.script_core.specs.declared.script.Cause.{Cause}
use Rattle.script_core.specs.declared.script.Cause.TheVariants as causes
use Rattle.script_core.specs.declared.journal.JournalFault.{JournalFault}
use Rattle.script_core.specs.declared.journal.JournalFault.TheVariants.{Grammar, Illegal, Memory}
use Rattle.script_core.specs.declared.journal.JournalReader.{JournalReader}
use Rattle.script_core.specs.declared.report.ReportFault.{ReportFault}
use Rattle.script_core.specs.declared.report.ReportFault.TheVariants as reports
use Rattle.script_core.specs.declared.report.ReportLine.{ReportLine}
use Rattle.script_core.specs.ReportReading.{first_due, AreTextsOf, AreLastOf, AreReportLines, HasFewTaken}
use Rattle.script_core.specs.EntryReading.{pieces_of, HaveNote}
use Rattle.script_core.specs.ExpectedText.{expected_text, due_text}
use Rattle.script_core.specs.JournalReading.{JournalReading, JournalLineGives, AreLegal, limits_at, rules_at, processes_at, reading_behind, MayGoOn, MayEnd}

-- the fault that a line has of this cause
abbrev pub fault_of : Cause → JournalFault
fault_of causes.Byte = Grammar causes.Byte
fault_of causes.Word = Grammar causes.Word
fault_of causes.Count = Grammar causes.Count
fault_of causes.Number = Grammar causes.Number
fault_of causes.Process = Grammar causes.Process
fault_of causes.TooLong = Grammar causes.TooLong
fault_of (causes.Memory memory) = Memory memory
fault_of causes.Tag = Grammar causes.Tag

-- the fault of the journal where a line of its report has this fault
abbrev pub report_fault_of : ReportFault → JournalFault
report_fault_of reports.Illegal = Illegal
report_fault_of (reports.Memory memory) = Memory memory

-- whether an entry was illegal: then the reader answers each later line for that one's sake
unfoldable pub is_spent : JournalReader → Bool
is_spent reader = is_some reader.illegal

-- the text where these lines of a report are to come, if there is one
abbrev pub report_expected : Option (List ReportLine) → List ℕ
report_expected None = []
report_expected (Some left) = due_text (first_due left)

-- in place of this entry, if there is one, this was expected, if anything was
abbrev pub text_expected : Option Event → Option Expected → List ℕ
text_expected None expected = []
text_expected (Some event) None = []
text_expected (Some event) (Some expected) = expected_text event expected

-- the text of what was expected in place of the entry that was illegal; while none was, of the line of the report that is due, once one came
unfoldable pub expected_in : JournalReader → List ℕ
expected_in reader = if is_some reader.illegal then text_expected reader.illegal (expected_by reader.checker) else report_expected reader.report

-- whether the report was begun and some line of it is due
abbrev pub is_cut : Stage → Option (List ReportLine) → Bool
is_cut stages.Header report = false
is_cut stages.Entries report = false
is_cut stages.Report None = false
is_cut stages.Report (Some left) = is_some (first_due left)

-- so it is of the reader's report
unfoldable pub cuts : JournalReader → Bool
cuts reader = is_cut reader.place.stage reader.report

-- the entries are a run, and of the report of each state that they leave these last lines are to come, behind those texts, each with a
-- count of what was taken that has 64 bits
pub record AreLeft (place : Place) (entries : List Event) (texts : List (List ℕ)) (left : List ReportLine) : Type 0 where
  pub legal : AreLegal place entries
  pub reported : List ReportLine
  pub lines : (T : State) → IsRun (rules_at place) (processes_at place) entries T → AreReportLines (processes_at place) T entries reported
  pub last : AreLastOf reported left
  pub few : All HasFewTaken left
  pub goes_on : (more : List (List ℕ))
      → (AreTextsOf reported (texts ++ more) → AreTextsOf left more) × (AreTextsOf left more → AreTextsOf reported (texts ++ more))

-- these lines are to come of the report, if it was begun, and no text of it came if not
abbrev pub ReportsAt : Place → List Event → List (List ℕ) → Option (List ReportLine) → Type 0
ReportsAt place entries texts None = texts ≡ []
ReportsAt place entries texts (Some left) = AreLeft place entries texts left

-- so it is of the reader's report
unfoldable pub HasReported : JournalReader → Place → List Event → List (List ℕ) → Type 0
HasReported reader place entries texts = ReportsAt place entries texts reader.report

-- the reader stands at this place
unfoldable pub place_of : JournalReader → Place
place_of reader = reader.place

-- the reader's checker has accepted these entries, under the rules of the place
unfoldable pub HasChecked : JournalReader → Place → List Event → Type 0
HasChecked reader place entries = HasAccepted (rules_at place) (processes_at place) reader.checker entries

-- where only header lines came there are no entries, and before the first line of the report there is none
abbrev pub IsStageOf : Stage → List Event → List (List ℕ) → Type 0
IsStageOf stages.Header entries report = (entries ≡ []) × (report ≡ [])
IsStageOf stages.Entries entries report = report ≡ []
IsStageOf stages.Report entries report = report ≢ []

-- this was read of a journal, and its entries are a run
pub record HasRead (reader : JournalReader) (reading : JournalReading) : Type 0 where
  pub place : place_of reader ≡ reading.place
  pub stage : IsStageOf reading.place.stage reading.entries reading.report
  pub unspent : is_spent reader ≡ false
  pub checked : HasChecked reader reading.place reading.entries
  pub reported : HasReported reader reading.place reading.entries reading.report

-- what may want memory: a header line, for the state under its rules, an entry, and the report
abbrev pub TakesRoom : JournalLine → Type 0
TakesRoom lines.Skipped = ⊥
TakesRoom (lines.Header header) = ⊤
TakesRoom (lines.Entry event) = ⊤
TakesRoom lines.Report = ⊤

-- the line may want memory there: what it says does, or it has a note, which is to be kept
abbrev pub WantsMemory : Place → List ℕ → Type 0
WantsMemory place line =
    ((said : JournalLine) × JournalLineGives place line (Ok said) × TakesRoom said) ⊎ HaveNote (limits_at place) (pieces_of line)

-- behind this reading, in place of a line that says this, the definition has what the text tells: of an entry what is expected there, and of
-- a line of the report the line that is due
abbrev pub IsToldThere : JournalReading → JournalLine → List ℕ → Type 0
IsToldThere reading lines.Skipped text = ⊥
IsToldThere reading (lines.Header header) text = ⊥
IsToldThere reading (lines.Entry event) text =
    (expected : Expected) × IsIllegal (rules_at reading.place) (processes_at reading.place) reading.entries event expected
    × (text ≡ expected_text event expected)
IsToldThere reading lines.Report text =
    (left : List ReportLine) × AreLeft reading.place reading.entries reading.report left × (text ≡ due_text (first_due left))

-- behind this reading a line that says this was taken down, with which the journal may go on; or it may not, and the reader tells what is
-- there in its place; or memory was refused, and what was read before stays, as it does where the line is one of the report
abbrev pub TakesSaid : JournalReader → JournalReading → List ℕ → JournalLine → Result Unit JournalFault → Type 0
TakesSaid reader reading line said (Ok done) = MayGoOn reading line said × HasRead reader (reading_behind reading line said)
TakesSaid reader reading line said (Err (Grammar cause)) = ⊥
TakesSaid reader reading line said (Err Illegal) =
    (¬ MayGoOn reading line said) × IsToldThere reading said (expected_in reader) × ((is_spent reader ≡ true) ⊎ HasRead reader reading)
TakesSaid reader reading line said (Err (Memory memory)) = TakesRoom said × HasRead reader reading

-- behind this reading the line was read, and the journal may go on with it; or it is faulty, or the journal may not go on with it, and the
-- reader tells what is there in its place; or memory was refused. What was read before stays, unless an entry was illegal
abbrev pub Takes : JournalReader → JournalReading → List ℕ → Result Unit JournalFault → Type 0
Takes reader reading line (Ok done) =
    (said : JournalLine) × JournalLineGives reading.place line (Ok said) × MayGoOn reading line said × HasRead reader (reading_behind reading line said)
Takes reader reading line (Err (Grammar cause)) = JournalLineGives reading.place line (Err cause) × HasRead reader reading
Takes reader reading line (Err Illegal) =
    (said : JournalLine) × JournalLineGives reading.place line (Ok said) × (¬ MayGoOn reading line said)
    × IsToldThere reading said (expected_in reader) × ((is_spent reader ≡ true) ⊎ HasRead reader reading)
Takes reader reading line (Err (Memory memory)) = WantsMemory reading.place line × HasRead reader reading

-- behind this reading the journal may end; or it may not, and the reader tells which line is due
abbrev pub Finishes : JournalReader → JournalReading → Result Unit JournalFault → Type 0
Finishes reader reading (Ok done) = MayEnd reading
Finishes reader reading (Err (Grammar cause)) = ⊥
Finishes reader reading (Err Illegal) = (¬ MayEnd reading) × IsToldThere reading lines.Report (expected_in reader)
Finishes reader reading (Err (Memory memory)) = ⊥

-- behind a reading one text at most is told in place of a line that says this
abbrev pub OneIsTold : Type 0
OneIsTold = (reading : JournalReading) (said : JournalLine) (a b : List ℕ) → IsToldThere reading said a → IsToldThere reading said b → a ≡ b

-- the new reader stands at this place and has accepted no entry; or memory was refused, and it is as it was
abbrev pub IsAtOpening : JournalReader → JournalReader → Place → Result Unit JournalFault → Type 0
IsAtOpening old new place (Ok done) = (place_of new ≡ place) × (is_spent new ≡ is_spent old) × HasChecked new place [] × HasReported new place [] []
IsAtOpening old new place (Err (Grammar cause)) = ⊥
IsAtOpening old new place (Err Illegal) = ⊥
IsAtOpening old new place (Err (Memory memory)) = new ≡ old

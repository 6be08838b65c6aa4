-- How the lines of a report are read, one after another (this project's choice).
use Rattle.std.specs.Prelude.{◌≡◌, ℕ, zero, suc, ◌+◌, ◌^◌, ◌<◌, ◌≤◌, ⊤, Bool, false, not, IsTrue, if◌then◌else◌, Option, Some, None, List, [], ◌∷◌, ◌++◌, length, drop, map, flat_map}
use Rattle.range_core.specs.Facts.{MatchFact}
use Rattle.lock_book.specs.declared.Held.{Held}
use Rattle.lock_book.specs.Changes.{mode_in, flock_mode_in}
use Rattle.lock_book.specs.Reports.{IsHeldReport}
use Rattle.lock_manager.specs.declared.request.ProcState.{ProcState}
use Rattle.lock_manager.specs.State.{State}
use Rattle.session_core.specs.Event.{Event}
use Rattle.session_core.specs.Mail.{events_of}
use Rattle.script_core.specs.declared.report_text.ProcessLine.{ProcessLine}
use Rattle.script_core.specs.declared.report.ReportLine.{ReportLine}
use Rattle.script_core.specs.declared.report.ReportLine.TheVariants as lines
use Rattle.script_core.specs.ReportText.{held_text, wait_text, process_text, line_of, is_reported, IsReport}

-- the text of a line of a report, without its line feed
abbrev pub line_text : ReportLine → List ℕ
line_text (lines.Held held) = held_text held
line_text (lines.Waits wait) = wait_text wait
line_text (lines.Process told) = process_text told

-- the text is this line's; of a process it has some count of what was sent, no less than what was taken, with which the report tells of it
abbrev pub IsLineOf : ReportLine → List ℕ → Type 0
IsLineOf (lines.Held held) text = text ≡ held_text held
IsLineOf (lines.Waits wait) text = text ≡ wait_text wait
IsLineOf (lines.Process told) text =
    (sent : ℕ) × (told.taken ≤ sent) × (sent < 2 ^ 64) × IsTrue (is_reported told.state sent) × (text ≡ process_text (record told { sent = sent }))

-- the line may be left out: where its process sent no more than was taken, the report doesn't tell of it
abbrev pub MayBeLeftOut : ReportLine → Type 0
MayBeLeftOut (lines.Held held) = ⊥
MayBeLeftOut (lines.Waits wait) = ⊥
MayBeLeftOut (lines.Process told) = is_reported told.state told.taken ≡ false

-- whether it may
abbrev pub may_be_left_out : ReportLine → Bool
may_be_left_out (lines.Held held) = false
may_be_left_out (lines.Waits wait) = false
may_be_left_out (lines.Process told) = not (is_reported told.state told.taken)

-- the texts are those of these lines, in order, but for those that may be left out
abbrev pub AreTextsOf : List ReportLine → List (List ℕ) → Type 0
AreTextsOf [] texts = texts ≡ []
AreTextsOf (line ∷ more) [] = MayBeLeftOut line × AreTextsOf more []
AreTextsOf (line ∷ more) (text ∷ texts) =
    MatchFact (IsLineOf line text) (AreTextsOf more texts) (MayBeLeftOut line × AreTextsOf more (text ∷ texts))

-- the first of these lines that may not be left out is this one
abbrev pub IsFirstDue : List ReportLine → ReportLine → Type 0
IsFirstDue [] due = ⊥
IsFirstDue (line ∷ more) due = MatchFact (MayBeLeftOut line) (IsFirstDue more due) (due ≡ line)

-- the first of the lines that may not be left out, if there is one
abbrev pub first_due : List ReportLine → Option ReportLine
first_due [] = None
first_due (line ∷ more) = if may_be_left_out line then first_due more else Some line

-- the old lines with this text before others are just the new ones with the others
abbrev pub GoesOn : List ReportLine → List ℕ → List ReportLine → Type 0
GoesOn old text new =
    (more : List (List ℕ)) → (AreTextsOf old (text ∷ more) → AreTextsOf new more) × (AreTextsOf new more → AreTextsOf old (text ∷ more))

-- these are the last of those lines
abbrev pub AreLastOf : List ReportLine → List ReportLine → Type 0
AreLastOf reported left = (passed : ℕ) × (left ≡ drop passed reported)

-- the line of a process that stands so after these events; of the counts that it may have sent it tells the least
abbrev pub least_line : (ℕ → ProcState) → List Event → ℕ → ProcessLine
least_line states events p = line_of states events (λ q. length (events_of q events)) p

-- the lines of the processes from this one on, so many of them
unfoldable pub lines_from : (ℕ → ProcState) → List Event → ℕ → ℕ → List ReportLine
lines_from states events p zero = []
lines_from states events p (suc more) = lines.Process (least_line states events p) ∷ lines_from states events (p + 1) more

-- the lines are those of the report of a state of so many processes after these events: the locks that are held, the waits in
-- order of arrival, and the processes
pub record AreReportLines (processes : ℕ) (S : State) (events : List Event) (reported : List ReportLine) : Type 0 where
  pub held : List Held
  pub is_held : IsHeldReport (mode_in S.changes) (flock_mode_in S.flock_changes) held
  pub is : reported ≡ map lines.Held held ++ map lines.Waits S.waits ++ lines_from S.states events 1 processes

-- the line's count of what was taken, if it has one, is a number of 64 bits
abbrev pub HasFewTaken : ReportLine → Type 0
HasFewTaken (lines.Held held) = ⊤
HasFewTaken (lines.Waits wait) = ⊤
HasFewTaken (lines.Process told) = told.taken < 2 ^ 64

-- so many processes may have sent these counts: each is no less than what these events took, and a number of 64 bits
abbrev pub MayHaveSent : ℕ → List Event → (ℕ → ℕ) → Type 0
MayHaveSent processes events sent =
    (p : ℕ) → 1 ≤ p → p ≤ processes → (length (events_of p events) ≤ sent p) × (sent p < 2 ^ 64)

-- the texts, each with its line feed
abbrev pub joined : List (List ℕ) → List ℕ
joined texts = flat_map (λ text. text ++ 10 ∷ []) texts

-- texts are those of the lines of a report just where they are, each with its line feed, the report with some counts that the
-- processes may have sent
pub record ReportsAreReadBack : Type 0 where
  pub read : (processes : ℕ) (S : State) (events : List Event) (sent : ℕ → ℕ) (text : List ℕ) (reported : List ReportLine)
      → processes < 2 ^ 64 → MayHaveSent processes events sent → IsReport processes S events sent text → AreReportLines processes S events reported
      → (texts : List (List ℕ)) × (text ≡ joined texts) × AreTextsOf reported texts
  pub is_report : (processes : ℕ) (S : State) (events : List Event) (reported : List ReportLine) (texts : List (List ℕ))
      → AreReportLines processes S events reported → AreTextsOf reported texts
      → (sent : ℕ → ℕ) × MayHaveSent processes events sent × IsReport processes S events sent (joined texts)

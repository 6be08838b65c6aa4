-- The lines of a report in a journal, for `JournalReader`: whether it may go on with one, and whether it may end.
use Rattle.script_core.proofs.Common.{arith, ◌≡◌, ℕ, zero, ◌<◌, ◌≤◌, ◌^◌, Bool, true, IsTrue, All, List, [], ◌∷◌, ◌++◌, Option, Some, None, MatchOption, inl, refl, sym, ap, subst, lit<, append_assoc, append-nil, suc, length, common_steps, recursion_from_All}
use Rattle.script_core.proofs.Common.{LocksHaveOneReport, State, ProcState, Event, IsRun, Place, ProcessLine, ReportLine, is_reported, process_text, line_text, IsLineOf, MayBeLeftOut, AreTextsOf, IsFirstDue, first_due, AreReportLines, HasFewTaken, rules_at, processes_at, AreLegal, AreLeft}
use Rattle.std.specs.List.{AllByRecursion as Each}
use Rattle.std.proofs.lemmas.List.{drop-drop}
use Rattle.std.proofs.lemmas.List.Elements.{All-drop}
use Rattle.script_core.specs.declared.report.ReportLine.TheVariants as lines
use Rattle.script_core.specs.ReportReading.{may_be_left_out, GoesOn, AreLastOf}
use Rattle.script_core.specs.JournalReading.{IsReportFront, IsWholeReport}

-- each line has a text: a process may have sent what was taken, and one more where that is nothing
reported_once : (state : ProcState) (n : ℕ) → is_reported state (suc n) ≡ true
reported_once state n = grind (arith, common_steps)

count_of : (told : ProcessLine) (taken : ℕ) → told.taken ≡ taken → taken < 2 ^ 64
    → (n : ℕ) × (told.taken ≤ suc n) × (suc n < 2 ^ 64) × IsTrue (is_reported told.state (suc n))
count_of told zero is few = (0, omega (arith, is), lit< tt, reported_once told.state 0)
count_of told (suc n) is few = (n, omega (arith, is), few, reported_once told.state n)

some_text : (line : ReportLine) → HasFewTaken line → (text : List ℕ) × IsLineOf line text
some_text (lines.Held held) few = (line_text (lines.Held held), refl)
some_text (lines.Waits wait) few = (line_text (lines.Waits wait), refl)
some_text (lines.Process told) few =
    let count = count_of told told.taken refl few in
    (process_text (record told { sent = suc count.0 }), (suc count.0, count.1, count.2, count.3, refl))

-- so some texts are those of any lines, as many as there are lines
pub some_texts : (reported : List ReportLine) → Each HasFewTaken reported
    → (texts : List (List ℕ)) × AreTextsOf reported texts × (length texts ≡ length reported)
some_texts [] few = ([], refl, refl)
some_texts (line ∷ more) few =
    let first = some_text line few.0 in
    let rest = some_texts more few.1 in
    (first.0 ∷ rest.0, inl (first.1, rest.1), ap suc rest.2)

-- a state after these events has one list of lines
pub one_report : LocksHaveOneReport → (processes : ℕ) (S : State) (events : List Event) (a b : List ReportLine) → AreReportLines processes S events a
    → AreReportLines processes S events b → a ≡ b
one_report one processes S events a b h k = grind (arith, common_steps)

-- before the first line all are left
pub AreLeft-first : (place : Place) (entries : List Event) (reported : List ReportLine) → AreLegal place entries
    → ((T : State) → IsRun (rules_at place) (processes_at place) entries T → AreReportLines (processes_at place) T entries reported)
    → All HasFewTaken reported → AreLeft place entries [] reported
AreLeft-first place entries reported legal are few =
    record { legal = legal; reported = reported; lines = are; last = (0, refl); few = few; goes_on = λ more. ((λ texts. texts), (λ texts. texts)) }

behind : (reported : List ReportLine) (texts : List (List ℕ)) (text : List ℕ) (more : List (List ℕ)) → AreTextsOf reported (texts ++ text ∷ [] ++ more)
    → AreTextsOf reported (texts ++ (text ∷ more))
behind reported texts text more are = subst (λ l. AreTextsOf reported l) (append_assoc texts (text ∷ []) more) are

-- the last of the last lines are the last
last_of_last : (reported old new : List ReportLine) → AreLastOf reported old → AreLastOf old new → AreLastOf reported new
last_of_last reported old new first next = grind (arith, common_steps, drop-drop)

-- one more line came
pub AreLeft-more : (place : Place) (entries : List Event) (texts : List (List ℕ)) (old new : List ReportLine) (text : List ℕ) → AreLeft place entries texts old
    → GoesOn old text new → AreLastOf old new → AreLeft place entries (texts ++ text ∷ []) new
AreLeft-more place entries texts old new text left goes last = record {
  legal = left.legal;
  reported = left.reported;
  lines = left.lines;
  last = last_of_last left.reported old new left.last last;
  few = subst (All HasFewTaken) (sym last.1) (All-drop HasFewTaken last.0 old left.few);
  goes_on = λ more. (
    (λ are. (goes more).0 ((left.goes_on (text ∷ more)).0 (behind left.reported texts text more are))),
    (λ are.
        subst (λ l. AreTextsOf left.reported l) (sym (append_assoc texts (text ∷ []) more)) ((left.goes_on (text ∷ more)).1 ((goes more).1 are))),
  );
}

-- and with it the report goes on
pub front_more : (place : Place) (entries : List Event) (texts : List (List ℕ)) (left : List ReportLine)
    → (T : State) → IsRun (rules_at place) (processes_at place) entries T → AreLeft place entries texts left → IsReportFront place entries texts
front_more place entries texts left T run are =
    let rest = some_texts left (recursion_from_All HasFewTaken left are.few) in
    (are.reported, record { state = T; run = run; lines = are.lines T run }, rest.0, (are.goes_on rest.0).1 rest.1)

-- it doesn't go on with a line with which what is left doesn't
pub no_front : LocksHaveOneReport → (place : Place) (entries : List Event) (texts : List (List ℕ)) (left : List ReportLine) (text : List ℕ)
    → AreLeft place entries texts left → ((more : List (List ℕ)) → AreTextsOf left (text ∷ more) → ⊥) → IsReportFront place entries (texts ++ text ∷ []) → ⊥
no_front one place entries texts left text are none front = grind (arith, common_steps, behind)

-- where a line is due something is left, and where none is nothing has to come
out_as_told : (line : ReportLine) → (may_be_left_out line ≡ true → MayBeLeftOut line) × (MayBeLeftOut line → may_be_left_out line ≡ true)
out_as_told line = grind (arith, common_steps)

pub first_due-none : (left : List ReportLine) → AreTextsOf left [] → first_due left ≡ None
first_due-none [] are = refl
first_due-none (line ∷ more) are = rw ((out_as_told line).1 are.0) (first_due-none more are.1)

pub first_due-some : (left : List ReportLine) (line : ReportLine) → IsFirstDue left line → first_due left ≡ Some line
first_due-some [] line is = absurd is
first_due-some (first ∷ more) line is = grind (arith, common_steps, out_as_told, first_due-some more)

-- what a reader tells as due is the first that is
pub due_is : (left : List ReportLine) (due : Option ReportLine) → MatchOption due (AreTextsOf left []) (λ line. IsFirstDue left line) → due ≡ first_due left
due_is left due are = grind (arith, common_steps, first_due-none, first_due-some)

-- a report of which nothing is due is whole
pub ends_whole : (place : Place) (entries : List Event) (texts : List (List ℕ)) (left : List ReportLine) (T : State)
    → IsRun (rules_at place) (processes_at place) entries T → AreLeft place entries texts left → AreTextsOf left [] → IsWholeReport place entries texts
ends_whole place entries texts left T run are end = grind (arith, common_steps, append-nil)

-- where nothing is due, all that is left may be left out
nothing_due_first : (line : ReportLine) (more : List ReportLine) (out : Bool) → may_be_left_out line ≡ out → (first_due more ≡ None → AreTextsOf more [])
    → first_due (line ∷ more) ≡ None → MayBeLeftOut line × AreTextsOf more []
nothing_due_first line more out h h2 h3 = grind (arith, common_steps, out_as_told)

pub nothing_due : (left : List ReportLine) → first_due left ≡ None → AreTextsOf left []
nothing_due [] none = refl
nothing_due (line ∷ more) none = nothing_due_first line more (may_be_left_out line) refl (λ e. nothing_due more e) none

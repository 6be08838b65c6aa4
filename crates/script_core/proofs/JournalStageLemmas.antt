-- Which lines may stand where in a journal, for `JournalReader`: header lines before all others, and entries before the report.
use Rattle.script_core.proofs.Common.{arith, ◌≡◌, ℕ, Option, Some, None, Result, Ok, Err, List, MatchResult, common_steps, ⊤, Event, Stage, Place, JournalLine, Cause, HeadGives, JournalLineGives, IsBeforeReport}
use Rattle.script_core.specs.declared.place.Stage.TheVariants as stages
use Rattle.script_core.specs.declared.place.JournalLine.TheVariants as lines

-- a line that says this may stand there: a header line before all others, and an entry before the report
abbrev pub Fits : Stage → JournalLine → Type 0
Fits stage lines.Skipped = ⊤
Fits stage (lines.Header header) = stage ≡ stages.Header
Fits stage (lines.Entry event) = IsBeforeReport stage
Fits stage lines.Report = ⊤

-- so may one with this head
abbrev HeadFits : Stage → Option JournalLine → Type 0
HeadFits stage None = IsBeforeReport stage
HeadFits stage (Some said) = Fits stage said

head_fits : (place : Place) (words : List (List ℕ)) (head : Option JournalLine) → HeadGives place words (Ok head) → HeadFits place.stage head
head_fits place words head h = grind (arith, common_steps)

entry_fits : (stage : Stage) (said : JournalLine) (next : Result Event Cause)
    → MatchResult next (λ event. ◌≡◌ {A = Result JournalLine Cause} (Ok said) (Ok (lines.Entry event)))
    (λ cause. ◌≡◌ {A = Result JournalLine Cause} (Ok said) (Err cause))
    → IsBeforeReport stage → Fits stage said
entry_fits stage said next h h2 = grind (arith, common_steps)

-- a line says only what may stand there
pub said_fits : (place : Place) (line : List ℕ) (said : JournalLine) → JournalLineGives place line (Ok said) → Fits place.stage said
said_fits place line said gives = grind (arith, common_steps, head_fits, entry_fits)

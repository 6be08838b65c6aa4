-- What is told of the expectations of a script, its first fault, and what comes of it (the words are this project's choice).
use Rattle.std.specs.Prelude.{◌≡◌, ◌≢◌, ◌⊎◌, ℕ, ◌+◌, ◌<◌, ◌≤◌, true, ⊤, MatchBool, Option, Ok, Err, List, [], ◌∷◌, ◌++◌, length}
use Rattle.lock_manager.specs.State.{State}
use Rattle.session_core.specs.Event.{Event}
use Rattle.session_core.specs.Mail.{requests_sent}
use Rattle.session_core.specs.Draining.{IsDrain}
use Rattle.script_core.specs.declared.script.Cause.TheVariants.{Word}
use Rattle.script_core.specs.declared.script.ScriptFault.{ScriptFault}
use Rattle.script_core.specs.ScriptText.{Meaning}
use Rattle.script_core.specs.Words.{lines_of, script_limit}
use Rattle.script_core.specs.Reading.{Reads}
use Rattle.script_core.specs.Output.{processes_in}
use Rattle.script_core.specs.ReportText.{IsReport}
use Rattle.replay_core.specs.Devices.{ReadsWhole}
use Rattle.replay_core.specs.declared.replays.RunFault.{RunFault}
use Rattle.replay_core.specs.declared.replays.RunFault.TheVariants as faults
use Rattle.expectations.specs.Expectations.{Expected, Says, is_expectation, words_behind, told_of}
use Rattle.expectations.specs.declared.runs.ExpectOutcome.{ExpectOutcome}
use Rattle.expectations.specs.declared.runs.ExpectOutcome.TheVariants as outcomes

-- a script of just these lines is accepted, and says this
pub record AreScript (lines : List (List ℕ)) (script : Meaning) : Type 0 where
  pub bytes : List ℕ
  pub is : lines_of bytes ≡ lines
  pub accepted : Reads bytes (Ok script)

-- the run of the script: the journal that its arrivals make, and the report of the state that is left
pub record RunsTo (script : Meaning) (journal : List Event) (report : List ℕ) : Type 0 where
  pub state : State
  pub drained : IsDrain script.rules (processes_in script) script.arrivals journal state
  pub is_report : IsReport (processes_in script) state journal (λ p. length (requests_sent p script.arrivals)) report

-- the script ends at this line, the last of these, and this is told of what the line expects of its run
pub record TellsExpectation (lines : List (List ℕ)) (line text : List ℕ) : Type 0 where
  pub script : Meaning
  pub accepted : AreScript lines script
  pub expected : Expected
  pub says : Says script.rules.limits (words_behind line) expected
  pub journal : List Event
  pub report : List ℕ
  pub run : RunsTo script journal report
  pub is : text ≡ told_of (length lines) expected journal report

-- of the last of these lines this is told: nothing where it is no expectation
abbrev pub TellsLine : List (List ℕ) → List ℕ → List ℕ → Type 0
TellsLine lines line text = MatchBool (is_expectation line) (TellsExpectation lines line text) (text ≡ [])

-- of the lines behind those before them this is told, in order
abbrev pub TellsLines : List (List ℕ) → List (List ℕ) → List ℕ → Type 0
TellsLines before [] text = text ≡ []
TellsLines before (line ∷ lines) text =
    (own : List ℕ) × TellsLine (before ++ line ∷ []) line own
    × (rest : List ℕ) × TellsLines (before ++ line ∷ []) lines rest × (text ≡ own ++ rest)

-- what comes of it: each expectation is met, or something is told
abbrev pub IsOutcomeOf : ExpectOutcome → List ℕ → Type 0
IsOutcomeOf outcomes.Met text = text ≡ []
IsOutcomeOf outcomes.Unmet text = text ≢ []

-- the script is accepted, the text is what is told of its expectations, and this comes of it
pub record IsJudged (outcome : ExpectOutcome) (bytes text : List ℕ) : Type 0 where
  pub script : Meaning
  pub accepted : Reads bytes (Ok script)
  pub tells : TellsLines [] (lines_of bytes) text
  pub is_outcome : IsOutcomeOf outcome text

-- the exit status: 3 where an expectation isn't met (this project's choice)
abbrev pub outcome_status : ExpectOutcome → ℕ
outcome_status outcomes.Met = 0
outcome_status outcomes.Unmet = 3

-- ---- faults

-- the script that ends at this line, the last of these, is accepted, and the line is an expectation in another form
pub record IsFaulty (lines : List (List ℕ)) (line : List ℕ) : Type 0 where
  pub is : is_expectation line ≡ true
  pub script : Meaning
  pub accepted : AreScript lines script
  pub unsaid : (expected : Expected) → ¬ Says script.rules.limits (words_behind line) expected

-- the fault is that of an expectation in another form: the fault of a word, at its line
pub record IsFaultOfForm (bytes : List ℕ) (fault : ScriptFault) : Type 0 where
  pub fits : length bytes ≤ script_limit
  pub before : List (List ℕ)
  pub line : List ℕ
  pub behind : List (List ℕ)
  pub lines : lines_of bytes ≡ before ++ line ∷ behind
  pub faulty : IsFaulty (before ++ line ∷ []) line
  pub is : fault ≡ record { line = length before + 1; cause = Word }

-- no expectation in a line before this number has another form
abbrev pub NoneFaultyBefore : List ℕ → ℕ → Type 0
NoneFaultyBefore bytes number =
    (before : List (List ℕ)) (line : List ℕ) (behind : List (List ℕ)) → lines_of bytes ≡ before ++ line ∷ behind
    → length before + 1 < number → ¬ IsFaulty (before ++ line ∷ []) line

-- the first fault of a script with expectations: its own, or that of an expectation
pub record IsFirstFault (bytes : List ℕ) (fault : ScriptFault) : Type 0 where
  pub is_fault : Reads bytes (Err fault) ⊎ IsFaultOfForm bytes fault
  pub first : NoneFaultyBefore bytes fault.line

-- what was read has this first fault
pub record ReadsFaulty (read_old read_new : Option (List ℕ)) (fault : ScriptFault) : Type 0 where
  pub input : List ℕ
  pub read : ReadsWhole read_old read_new input
  pub faulty : IsFirstFault input fault

-- a run of the line with this number, at which the script of these bytes ends, comes to this fault: the script's, or that of an expectation in another
-- form, or want of memory
abbrev pub IsFaultAt : List ℕ → List ℕ → ℕ → RunFault → Type 0
IsFaultAt bytes line number (faults.Script fault) =
    Reads bytes (Err fault) ⊎ (IsFaulty (lines_of bytes) line × (fault ≡ record { line = number; cause = Word }))
IsFaultAt bytes line number (faults.Memory memory) = ⊤
IsFaultAt bytes line number faults.Read = ⊥
IsFaultAt bytes line number faults.Write = ⊥
IsFaultAt bytes line number faults.Thread = ⊥

-- nothing can be told of the script for this: it has this first fault, or a growth was refused
abbrev pub IsToldFault : List ℕ → RunFault → Type 0
IsToldFault bytes (faults.Script fault) = IsFirstFault bytes fault
IsToldFault bytes (faults.Memory memory) = ⊤
IsToldFault bytes faults.Read = ⊥
IsToldFault bytes faults.Write = ⊥
IsToldFault bytes faults.Thread = ⊥

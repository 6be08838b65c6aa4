-- How a command line asks for a search (the words are this project's choice).
use Rattle.std.specs.Prelude.{◌≡◌, ◌≢◌, ◌⊎◌, ℕ, Bool, true, false, Option, Some, None, Result, Ok, Err, List, [], ◌∷◌, map}
use Rattle.std.specs.declared.vec.Vec.{Vec}
use Rattle.std.specs.declared.alloc.Global.{Global}
use Rattle.script_core.specs.declared.states.States.{States}
use Rattle.script_core.specs.declared.states.States.TheVariants.{Nowhere, Everywhere}
use Rattle.explore_core.specs.declared.finding.Finding.{Finding}
use Rattle.explore_core.specs.declared.finding.Finding.TheVariants.{Deadlock, Stuck, Together, Dropped, Lost, Unborn}
use Rattle.explore_run.specs.FindingWords.{finding_word, pieces_of}
use Rattle.explore_run.specs.declared.exploring.Exploring.{Exploring}
use Rattle.explore_run.specs.declared.exploring.Printed.{Printed}
use Rattle.explore_run.specs.declared.exploring.Printed.TheVariants.{Table, RunOf}
use Rattle.range_core.specs.declared.memory.Memory.{Memory}
use Rattle.replay_core.specs.declared.replays.RunFault.TheVariants as runs
use Rattle.lockreplay.specs.declared.faults.Fault.{Fault}
use Rattle.lockreplay.specs.declared.faults.Fault.TheVariants as faults
use Rattle.lockreplay.specs.declared.options.Misuse.{Misuse}
use Rattle.lockreplay.specs.declared.options.Misuse.TheVariants as misuses
use Rattle.lockreplay.specs.Judgings.{IsLimitOf}

-- the word behind --limit, if that is given, allows so many situations: ten million where none is given
abbrev pub IsSituationLimit : Option (List ℕ) → Result ℕ Misuse → Type 0
IsSituationLimit None result = result ≡ Ok 10000000
IsSituationLimit (Some word) result = IsLimitOf word result

-- with the word behind --run, if that is given, --timeline and --json, each given or not, ask for the state behind so many events: a picture is of
-- the run of a finding, and of no object
abbrev pub AreStatesDrawn : Bool → Bool → Option (List ℕ) → Result States Misuse → Type 0
AreStatesDrawn false json run result = result ≡ Ok Nowhere
AreStatesDrawn true false (Some word) result = result ≡ Ok Everywhere
AreStatesDrawn true false None result = result ≡ Err misuses.Timeline
AreStatesDrawn true true run result = result ≡ Err misuses.Timeline

-- the word behind --run, if that is given, asks for the run of a finding, with these states, or is none's; where none is given the table is asked for
abbrev pub IsPrintedAsked : States → Option (List ℕ) → Result Printed Misuse → Type 0
IsPrintedAsked states None result = result ≡ Ok Table
IsPrintedAsked states (Some word) (Ok printed) = (finding : Finding) × (word ≡ finding_word finding) × (printed ≡ RunOf finding states)
IsPrintedAsked states (Some word) (Err misuse) = ((finding : Finding) → word ≢ finding_word finding) × (misuse ≡ misuses.Run)

-- the findings that are to fail where none are given
abbrev pub usual_failures : List Finding
usual_failures = Deadlock ∷ Stuck ∷ Together ∷ Dropped ∷ Lost ∷ Unborn ∷ []

-- the list behind --fail-on, if that is given, names these findings, with commas between their words; these are to fail where none is given
abbrev pub AreNamed : Option (List ℕ) → List Finding → Type 0
AreNamed None findings = findings ≡ usual_failures
AreNamed (Some list) findings = pieces_of list ≡ map finding_word findings

-- the list is given, and names none
abbrev pub IsNoList : Option (List ℕ) → Type 0
IsNoList list = (findings : List Finding) → ¬ AreNamed list findings

-- the fault is want of memory
abbrev pub IsOfMemory : Fault → Type 0
IsOfMemory fault = (memory : Memory) × (fault ≡ faults.Run (runs.Memory memory))

-- the list asks for these findings to fail; or it names none, or a growth was refused
abbrev pub AreFailures : Option (List ℕ) → Result (Vec Finding Global) Fault → Type 0
AreFailures list (Ok findings) = AreNamed list findings.items
AreFailures list (Err fault) = (IsNoList list × (fault ≡ faults.Misuse misuses.FailOn)) ⊎ IsOfMemory fault

-- the words behind --limit, --run and --fail-on, if they are given, ask for this, the run with these states
pub record IsExploringOf (states : States) (limit run fail_on : Option (List ℕ)) (exploring : Exploring) : Type 0 where
  pub limit_is : IsSituationLimit limit (Ok exploring.limit)
  pub printed_is : IsPrintedAsked states run (Ok exploring.printed)
  pub failures_are : AreNamed fail_on exploring.fail_on.items

-- one of them asks for what can't be had; or a growth was refused
abbrev pub IsExploringFault : States → (limit run fail_on : Option (List ℕ)) → Fault → Type 0
IsExploringFault states limit run fail_on fault =
    ((misuse : Misuse) × (IsSituationLimit limit (Err misuse) ⊎ IsPrintedAsked states run (Err misuse)) × (fault ≡ faults.Misuse misuse))
    ⊎ AreFailures fail_on (Err fault)

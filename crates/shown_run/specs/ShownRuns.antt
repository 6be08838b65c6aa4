-- What a run shows that is to fail, and what comes of it (the words are this project's choice).
use Rattle.std.specs.Prelude.{ℕ, Ok, List, Any, codes}
use Rattle.lock_manager.specs.State.{State}
use Rattle.lock_manager.specs.declared.request.Errno.TheVariants.{EBADF}
use Rattle.session_core.specs.Event.{Event}
use Rattle.session_core.specs.Draining.{IsDrain}
use Rattle.script_core.specs.ScriptText.{Meaning}
use Rattle.script_core.specs.Reading.{Reads}
use Rattle.script_core.specs.Output.{processes_in}
use Rattle.replay_core.specs.declared.job.Detail.{Detail}
use Rattle.replay_core.specs.Replays.{IsTextIn}
use Rattle.explore_core.specs.Shown.{IsTold}
use Rattle.script_search.specs.Complete.{RunShows}
use Rattle.explore_run.specs.FindingWords.{finding_word}
use Rattle.shown_run.specs.declared.finding.RunFinding.{RunFinding}
use Rattle.shown_run.specs.declared.finding.RunFinding.TheVariants.{Found, BadDescriptor}
use Rattle.shown_run.specs.declared.runs.RunOutcome.{RunOutcome}
use Rattle.shown_run.specs.declared.runs.RunOutcome.TheVariants as outcomes

-- the word: that of a search for what it finds
abbrev pub run_finding_word : RunFinding → List ℕ
run_finding_word (Found finding) = finding_word finding
run_finding_word BadDescriptor = codes "badfd"

-- the complete run of the script with this journal shows this: what a search finds by one of its fronts or its end, or a request that is told
-- EBADF (POSIX.1-2017 fcntl, ERRORS)
abbrev pub ShownByRun : Meaning → List Event → RunFinding → Type 0
ShownByRun script journal (Found finding) = RunShows script finding journal
ShownByRun script journal BadDescriptor = Any (λ event. IsTold event EBADF) journal

-- what comes of the run: it shows something that is to fail, or nothing
abbrev pub IsOutcomeOf : List RunFinding → Meaning → List Event → RunOutcome → Type 0
IsOutcomeOf fail_on script journal outcomes.Failed = Any (ShownByRun script journal) fail_on
IsOutcomeOf fail_on script journal outcomes.Passed = ¬ Any (ShownByRun script journal) fail_on

-- the script is accepted, and this comes of its run
pub record IsJudged (fail_on : List RunFinding) (outcome : RunOutcome) (bytes : List ℕ) : Type 0 where
  pub script : Meaning
  pub accepted : Reads bytes (Ok script)
  pub journal : List Event
  pub state : State
  pub drained : IsDrain script.rules (processes_in script) script.arrivals journal state
  pub is_outcome : IsOutcomeOf fail_on script journal outcome

-- the text is that of the script's run in this detail, and this comes of the run
pub record IsJudgedRun (detail : Detail) (fail_on : List RunFinding) (outcome : RunOutcome) (bytes text : List ℕ) : Type 0 where
  pub is_text : IsTextIn detail bytes text
  pub judged : IsJudged fail_on outcome bytes

-- the exit status: 3 where the run shows something that is to fail (this project's choice)
abbrev pub outcome_status : RunOutcome → ℕ
outcome_status outcomes.Passed = 0
outcome_status outcomes.Failed = 3

-- How a command line asks for a run whose findings decide the status (the words are this project's choice).
use Rattle.std.specs.Prelude.{◌≡◌, ◌≢◌, ◌⊎◌, ℕ, Result, Ok, Err, List, map}
use Rattle.std.specs.declared.vec.Vec.{Vec}
use Rattle.std.specs.declared.alloc.Global.{Global}
use Rattle.explore_run.specs.FindingWords.{pieces_of}
use Rattle.replay_core.specs.declared.job.Detail.{Detail}
use Rattle.replay_core.specs.declared.job.Job.{Job}
use Rattle.replay_core.specs.declared.job.Job.TheVariants.{Replay, ReplayInThreads, Check}
use Rattle.shown_run.specs.ShownRuns.{run_finding_word}
use Rattle.shown_run.specs.declared.finding.RunFinding.{RunFinding}
use Rattle.lockreplay.specs.Explorings.{IsOfMemory}
use Rattle.lockreplay.specs.declared.faults.Fault.{Fault}
use Rattle.lockreplay.specs.declared.faults.Fault.TheVariants as faults
use Rattle.lockreplay.specs.declared.options.Misuse.{Misuse}
use Rattle.lockreplay.specs.declared.options.Misuse.TheVariants as misuses

-- what is told of a run is as without --fail-on, which stands beside neither --threads nor --check
abbrev pub IsJudgedDetail : Job → Result Detail Misuse → Type 0
IsJudgedDetail (Replay detail) result = result ≡ Ok detail
IsJudgedDetail (ReplayInThreads detail) result = result ≡ Err misuses.FailOnThreads
IsJudgedDetail Check result = result ≡ Err misuses.FailOnCheck

-- the list behind --fail-on names these, with commas between their words; or it names none, or a growth was refused
abbrev pub AreRunFailures : List ℕ → Result (Vec RunFinding Global) Fault → Type 0
AreRunFailures list (Ok findings) = pieces_of list ≡ map run_finding_word findings.items
AreRunFailures list (Err fault) =
    (((findings : List RunFinding) → pieces_of list ≢ map run_finding_word findings) × (fault ≡ faults.Misuse misuses.FailOn)) ⊎ IsOfMemory fault

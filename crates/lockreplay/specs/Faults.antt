-- The exit status of a fault.
use Rattle.std.specs.Prelude.{◌≡◌, ℕ, Result, Ok, Err}
use Rattle.history_check.specs.declared.judging.HistoryOutcome.{HistoryOutcome}
use Rattle.history_check.specs.declared.judging.HistoryOutcome.TheVariants as outcomes
use Rattle.history_run.specs.HistoryRuns.{fault_status}
use Rattle.replay_core.specs.Faults.{status_of}
use Rattle.replay_core.specs.declared.replays.RunFault.TheVariants as runs
use Rattle.lockreplay.specs.declared.faults.Fault.{Fault}
use Rattle.lockreplay.specs.declared.faults.Fault.TheVariants.{CommandLine, History, Misuse, OutOfMemory, Run}

-- a command line that is refused or asks for two jobs, or asks for help or the version, ends with 2 as well (this project's choice)
abbrev pub exit_status : Fault → ℕ
exit_status (CommandLine error) = 2
exit_status (Misuse misuse) = 2
exit_status OutOfMemory = 1
exit_status (Run fault) = status_of fault
exit_status (History fault) = fault_status fault

-- a history that was judged ends with 0 where it is legal, and with 3 where an answer isn't possible or a wait was forgotten; one that has a
-- fault ends as a script with that fault (this project's choice)
abbrev pub StatusTells : HistoryOutcome → Result ℕ Fault → Type 0
StatusTells outcomes.Legal result = result ≡ Ok 0
StatusTells outcomes.Illegal result = result ≡ Ok 3
StatusTells outcomes.LostWakeUps result = result ≡ Ok 3
StatusTells (outcomes.Faulty fault) result = result ≡ Err (Run (runs.Script fault))

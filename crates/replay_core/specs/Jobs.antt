-- What a job does, and what comes of it (the words are this project's choice).
use Rattle.std.specs.Prelude.{ℕ, Option, List}
use Rattle.script_core.specs.Words.{script_limit}
use Rattle.script_core.specs.declared.script.ScriptFault.{ScriptFault}
use Rattle.replay_core.specs.declared.checks.Outcome.{Outcome}
use Rattle.replay_core.specs.declared.checks.Outcome.TheVariants.{Done, Illegal}
use Rattle.replay_core.specs.declared.job.Job.{Job}
use Rattle.replay_core.specs.declared.job.Job.TheVariants.{Replay, ReplayInThreads, Check}
use Rattle.replay_core.specs.Checks.{IsCheckOutput, ReadsFaultyJournal, journal_limit}
use Rattle.replay_core.specs.Interleaving.{IsThreadTextIn}
use Rattle.replay_core.specs.Replays.{IsTextIn, ReadsFaulty}

-- only a check ends illegal
abbrev pub ReplayOutput : (List ℕ → List ℕ → Type 0) → Outcome → List ℕ → List ℕ → Type 0
ReplayOutput Outputs Done bytes text = Outputs bytes text
ReplayOutput Outputs Illegal bytes text = ⊥

-- what may be written of the bytes where the job ends so: a text of a script's run, in threads of one in threads, and what is told of a journal
abbrev pub outputs_of : Job → Outcome → List ℕ → List ℕ → Type 0
outputs_of (Replay detail) outcome = ReplayOutput (IsTextIn detail) outcome
outputs_of (ReplayInThreads detail) outcome = ReplayOutput (IsThreadTextIn detail) outcome
outputs_of Check outcome = IsCheckOutput outcome

-- what was read is none of what the job reads: this is its fault
abbrev pub ReadsFaultyFor : Job → Option (List ℕ) → Option (List ℕ) → ScriptFault → Type 0
ReadsFaultyFor (Replay detail) old new fault = ReadsFaulty old new fault
ReadsFaultyFor (ReplayInThreads detail) old new fault = ReadsFaulty old new fault
ReadsFaultyFor Check old new fault = ReadsFaultyJournal old new fault

-- how many bytes the job reads at most
abbrev pub limit_of : Job → ℕ
limit_of (Replay detail) = script_limit
limit_of (ReplayInThreads detail) = script_limit
limit_of Check = journal_limit

-- the exit status of a run without a fault (this project's choice)
abbrev pub outcome_status : Outcome → ℕ
outcome_status Done = 0
outcome_status Illegal = 3

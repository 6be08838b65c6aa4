-- What a command line asks for (the words are this project's choice).
use Rattle.std.specs.Prelude.{◌≡◌, Bool, true, false, Option, Some, None, Result, Ok, Err, List, ℕ}
use Rattle.script_core.specs.StateText.{AsksForStates, AsksForNoState}
use Rattle.script_core.specs.declared.states.States.{States}
use Rattle.script_core.specs.declared.states.States.TheVariants.{Nowhere, Everywhere}
use Rattle.replay_core.specs.declared.job.Detail.{Detail}
use Rattle.replay_core.specs.declared.job.Detail.TheVariants.{Plain, Explained}
use Rattle.replay_core.specs.declared.job.Job.{Job}
use Rattle.replay_core.specs.declared.job.Job.TheVariants.{Replay, ReplayInThreads, Check}
use Rattle.lockreplay.specs.declared.options.Misuse.{Misuse}
use Rattle.lockreplay.specs.declared.options.Misuse.TheVariants as misuses

-- --explain, given or not, and the word behind --state, if that is given, ask for so much, or the word for nothing
abbrev pub IsDetailOf : Bool → Option (List ℕ) → Result Detail Misuse → Type 0
IsDetailOf false None detail = detail ≡ Ok Plain
IsDetailOf true None detail = detail ≡ Ok (Explained Nowhere)
IsDetailOf explain (Some word) (Ok detail) = (states : States) × AsksForStates word states × (detail ≡ Explained states)
IsDetailOf explain (Some word) (Err misuse) = AsksForNoState word × (misuse ≡ misuses.Entry)

-- a run that is told in this detail, or what is asked for in its place and can't be had
abbrev pub job_told : (Detail → Job) → Result Detail Misuse → Result Job Misuse
job_told replays (Ok detail) = Ok (replays detail)
job_told replays (Err misuse) = Err misuse

-- what --threads, --explain and --check ask for, each given or not, and the word behind --state, if that is given: --check asks for
-- nothing beside another
abbrev pub IsJobOf : Bool → Bool → Bool → Option (List ℕ) → Result Job Misuse → Type 0
IsJobOf false explain false state job = (detail : Result Detail Misuse) × IsDetailOf explain state detail × (job ≡ job_told Replay detail)
IsJobOf true explain false state job = (detail : Result Detail Misuse) × IsDetailOf explain state detail × (job ≡ job_told ReplayInThreads detail)
IsJobOf false false true None job = job ≡ Ok Check
IsJobOf false false true (Some word) job = job ≡ Err misuses.State
IsJobOf true explain true state job = job ≡ Err misuses.Threads
IsJobOf false true true state job = job ≡ Err misuses.Explain

-- what --timeline asks for beside --json, --threads, --explain and --check, each given or not, and the words behind --state and --fail-on, if
-- they are given: a run told with the state behind each event, and nothing beside another flag than --threads
abbrev pub IsDrawnJobOf : Bool → Bool → Bool → Bool → Option (List ℕ) → Option (List ℕ) → Result Job Misuse → Type 0
IsDrawnJobOf false false false false None None job = job ≡ Ok (Replay (Explained Everywhere))
IsDrawnJobOf false true false false None None job = job ≡ Ok (ReplayInThreads (Explained Everywhere))
IsDrawnJobOf false threads false false None (Some list) job = job ≡ Err misuses.Timeline
IsDrawnJobOf false threads false false (Some word) list job = job ≡ Err misuses.Timeline
IsDrawnJobOf false threads false true state list job = job ≡ Err misuses.Timeline
IsDrawnJobOf false threads true check state list job = job ≡ Err misuses.Timeline
IsDrawnJobOf true threads explain check state list job = job ≡ Err misuses.Timeline

-- --expect beside --timeline, --threads, --explain and --check, each given or not, and the words behind --state and --fail-on, if they are given:
-- it stands beside none of them
abbrev pub IsExpecting : Bool → Bool → Bool → Bool → Option (List ℕ) → Option (List ℕ) → Result (Unit {0}) Misuse → Type 0
IsExpecting false false false false None None told = told ≡ Ok tt
IsExpecting false false false false None (Some list) told = told ≡ Err misuses.Expect
IsExpecting false false false false (Some word) list told = told ≡ Err misuses.Expect
IsExpecting false false false true state list told = told ≡ Err misuses.Expect
IsExpecting false false true check state list told = told ≡ Err misuses.Expect
IsExpecting false true explain check state list told = told ≡ Err misuses.Expect
IsExpecting true threads explain check state list told = told ≡ Err misuses.Expect

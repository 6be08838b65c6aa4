-- What a script leads to whose processes run in threads of their own (the words are this project's choice).
use Rattle.std.specs.Prelude.{◌≡◌, ℕ, ◌+◌, ◌++◌, Ok, Some, List, length, map, flat_map, slice_get, vec_items}
use Rattle.lock_manager.specs.State.{State, opening_state}
use Rattle.lock_manager.specs.ManagerView.{StandsFor, processes_of}
use Rattle.lock_manager.specs.declared.request.Reply.{Reply}
use Rattle.lock_manager.specs.declared.request.ProcState.TheVariants.{Live}
use Rattle.session_core.specs.Event.{Event}
use Rattle.session_core.specs.Runs.{IsRun}
use Rattle.session_core.specs.Mail.{IsPrefixOf, requests_sent, requests_taken, answers_to}
use Rattle.session_core.specs.SessionView.{manager_of, events_in}
use Rattle.script_core.specs.ScriptText.{Meaning, IsProcess}
use Rattle.script_core.specs.declared.states.States.{States}
use Rattle.script_core.specs.Reading.{Reads}
use Rattle.script_core.specs.EntryText.{entry_line}
use Rattle.script_core.specs.ReportText.{IsReport, AreCounts}
use Rattle.script_core.specs.Output.{processes_in}
use Rattle.script_core.specs.Explaining.{ExplainsRun, untaken_lines}
use Rattle.replay_core.specs.declared.job.Detail.{Detail}
use Rattle.replay_core.specs.declared.job.Detail.TheVariants.{Plain, Explained}
use Rattle.replay_core.specs.declared.replays.Ran.{Ran}
use Rattle.replay_core.specs.declared.threads.ThreadReport.{ThreadReport}

-- the journal is a run under the script's rules, which leaves the state: of each process the requests were taken in the script's order,
-- and all of them where it is able at the end
pub record Interleaves (script : Meaning) (journal : List Event) (S : State) : Type 0 where
  pub run : IsRun script.rules (processes_in script) journal S
  pub taken_in_order : (p : ℕ) → IsProcess script.rules.limits p → IsPrefixOf (requests_taken p journal) (requests_sent p script.arrivals)
  pub all_taken : (p : ℕ) → IsProcess script.rules.limits p → S.states p ≡ Live → requests_taken p journal ≡ requests_sent p script.arrivals

-- each list is all answers to the process that its place names, from process 1 on, with their places in the journal
abbrev pub AreAllAnswers : ℕ → List Event → List (List (ℕ × Reply × ℕ)) → Type 0
AreAllAnswers processes journal collected =
    (length collected ≡ processes)
    × ((i : ℕ) (answers : List (ℕ × Reply × ℕ)) → slice_get collected i ≡ Some answers → answers ≡ answers_to (i + 1) journal)

-- the session's journal is such a run, its manager stands for the state that is left, and each process collected all its answers
pub record IsThreadReport (script : Meaning) (report : ThreadReport) : Type 0 where
  pub interleaves : ∥ ((S : State) × Interleaves script (events_in report.session) S × StandsFor (manager_of report.session) S) ∥₁
  pub processes : processes_of (manager_of report.session) ≡ processes_in script
  pub collected : AreAllAnswers (processes_in script) (events_in report.session) (map vec_items report.collected.items)

-- the script is accepted, and the text is the lines of such a journal, and then the report with the script's counts
pub record TellsInterleaved (bytes text : List ℕ) : Type 0 where
  pub script : Meaning
  pub accepted : Reads bytes (Ok script)
  pub journal : List Event
  pub state : State
  pub interleaves : Interleaves script journal state
  pub report : List ℕ
  pub is_report : IsReport (processes_in script) state journal (λ p. length (requests_sent p script.arrivals)) report
  pub is : text ≡ flat_map entry_line journal ++ report

-- the text is so, for some journal
pub record IsThreadOutput (bytes text : List ℕ) : Type 0 where
  pub tells : ∥ TellsInterleaved bytes text ∥₁

-- the script is accepted, and the text is the lines of such a journal with what explains each and the states that are asked for, then the
-- report, and then what was never taken
pub record TellsExplained (states : States) (bytes text : List ℕ) : Type 0 where
  pub script : Meaning
  pub accepted : Reads bytes (Ok script)
  pub journal : List Event
  pub state : State
  pub interleaves : Interleaves script journal state
  pub explained : List ℕ
  pub explains : ExplainsRun states script.rules (processes_in script) 1 opening_state journal state explained
  pub report : List ℕ
  pub is_report : IsReport (processes_in script) state journal (λ p. length (requests_sent p script.arrivals)) report
  pub is : text ≡ explained ++ report ++ untaken_lines state.states journal (λ p. length (requests_sent p script.arrivals)) 1 (processes_in script)

-- the text is so, for some journal
pub record IsThreadExplanation (states : States) (bytes text : List ℕ) : Type 0 where
  pub tells : ∥ TellsExplained states bytes text ∥₁

-- a text of a script's run in threads: plainly an output, or one that is explained
abbrev pub IsThreadTextIn : Detail → List ℕ → List ℕ → Type 0
IsThreadTextIn Plain bytes text = IsThreadOutput bytes text
IsThreadTextIn (Explained states) bytes text = IsThreadExplanation states bytes text

-- the script is accepted, and was run in threads: so the journal interleaves, the manager stands for the state that is left, and the counts
-- are those of what each process sent
pub record IsThreadRunOf (bytes : List ℕ) (ran : Ran) : Type 0 where
  pub script : Meaning
  pub accepted : Reads bytes (Ok script)
  pub rules : ran.rules ≡ script.rules
  pub processes : processes_of (manager_of ran.session) ≡ processes_in script
  pub interleaves : ∥ ((S : State) × Interleaves script (events_in ran.session) S × StandsFor (manager_of ran.session) S) ∥₁
  pub one_each : length ran.sent.items ≡ processes_of (manager_of ran.session)
  pub counts : AreCounts ran.sent.items (λ p. length (requests_sent p script.arrivals))

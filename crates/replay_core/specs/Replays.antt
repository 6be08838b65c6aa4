-- What a run does with its source and its sink (the words are this project's choice).
use Rattle.std.specs.Prelude.{◌≡◌, ℕ, ◌++◌, Option, List, Ok, Err, flat_map, length}
use Rattle.std.specs.Io.KnownBytes.{Consumes, IsAtEnd, Appends}
use Rattle.lock_manager.specs.State.{State, opening_state}
use Rattle.lock_manager.specs.ManagerView.{StandsFor, processes_of}
use Rattle.lock_manager.specs.declared.request.Rules.{Rules}
use Rattle.lock_manager.specs.declared.request.Request.{Request}
use Rattle.session_core.specs.declared.session.Session.{Session}
use Rattle.session_core.specs.declared.sequencer.Sequencer.{Sequencer}
use Rattle.session_core.specs.Event.{Event}
use Rattle.session_core.specs.Deliveries.{HasRun}
use Rattle.session_core.specs.SessionView.{manager_of, events_in}
use Rattle.session_core.specs.Mail.{requests_sent}
use Rattle.session_core.specs.Runs.{Leads}
use Rattle.session_core.specs.Draining.{IsDrain}
use Rattle.script_core.specs.declared.script.ScriptFault.{ScriptFault}
use Rattle.script_core.specs.declared.states.States.{States}
use Rattle.script_core.specs.Reading.{Reads}
use Rattle.script_core.specs.EntryText.{entry_line}
use Rattle.script_core.specs.ReportText.{IsReport, AreCounts}
use Rattle.script_core.specs.ScriptText.{Meaning}
use Rattle.script_core.specs.Output.{IsOutput, processes_in}
use Rattle.script_core.specs.Explaining.{ExplainsRun, IsExplained, untaken_lines}
use Rattle.replay_core.specs.declared.job.Detail.{Detail}
use Rattle.replay_core.specs.declared.job.Detail.TheVariants.{Plain, Explained}
use Rattle.replay_core.specs.declared.replays.Ran.{Ran}
use Rattle.replay_core.specs.Devices.{ReadsWhole, TakesFront}

-- a text of a script's run: plainly its output, or one that is explained
abbrev pub IsTextIn : Detail → List ℕ → List ℕ → Type 0
IsTextIn Plain bytes text = IsOutput bytes text
IsTextIn (Explained states) bytes text = IsExplained states bytes text

-- all that the source had was read, and of an output of it so much was written
pub record WritesOf (Outputs : List ℕ → List ℕ → Type 0) (read_old read_new : Option (List ℕ)) (Written : List ℕ → Type 0) : Type 0 where
  pub input : List ℕ
  pub consumed : Consumes read_old read_new input
  pub ended : IsAtEnd read_new
  pub text : List ℕ
  pub is_output : Outputs input text
  pub written : Written text

-- all that the source had was read, and an output of it was written
abbrev pub WritesOutput : (Outputs : List ℕ → List ℕ → Type 0) (read_old read_new written_old written_new : Option (List ℕ)) → Type 0
WritesOutput Outputs read_old read_new written_old written_new = WritesOf Outputs read_old read_new (λ text. Appends written_old written_new text)

-- all that the source had was read, and a front of an output of it was written
abbrev pub WritesFront : (Outputs : List ℕ → List ℕ → Type 0) (read_old read_new written_old written_new : Option (List ℕ)) → Type 0
WritesFront Outputs read_old read_new written_old written_new = WritesOf Outputs read_old read_new (λ text. TakesFront written_old written_new text)

-- what was read isn't a script: this is its fault
pub record ReadsFaulty (read_old read_new : Option (List ℕ)) (fault : ScriptFault) : Type 0 where
  pub input : List ℕ
  pub read : ReadsWhole read_old read_new input
  pub faulty : Reads input (Err fault)

-- the text is the lines of the session's journal, and then the report of a state that its manager stands for, with these counts of
-- what each process sent
pub record IsTextOf (session : Session) (sent : ℕ → ℕ) (S : State) (text : List ℕ) : Type 0 where
  pub report : List ℕ
  pub is_report : IsReport (processes_of (manager_of session)) S (events_in session) sent report
  pub is : text ≡ flat_map entry_line (events_in session) ++ report

-- the arrivals were run and made a journal, whose lines stand behind the text that there was
pub record WritesRun (rules : Rules) (processes : ℕ) (arrivals : List (ℕ × Request)) (sequencer : Sequencer) (before after : List ℕ) : Type 0 where
  pub journal : List Event
  pub ran : HasRun rules processes arrivals sequencer journal
  pub written : after ≡ before ++ flat_map entry_line journal

-- the script is accepted, and its arrivals were run under its rules
pub record RunsScript (bytes : List ℕ) (sequencer : Sequencer) (before after : List ℕ) : Type 0 where
  pub script : Meaning
  pub accepted : Reads bytes (Ok script)
  pub run : WritesRun script.rules (processes_in script) script.arrivals sequencer before after

-- the journal leads to the state, from the opening
abbrev pub IsLedTo : Ran → State → Type 0
IsLedTo ran S = Leads ran.rules (processes_of (manager_of ran.session)) opening_state (events_in ran.session) S

-- the text is the lines of the journal with what explains each and the states that are asked for, then the report of the state, with these
-- counts of what each process sent, and then what was never taken
pub record IsExplainedTextOf (states : States) (ran : Ran) (sent : ℕ → ℕ) (S : State) (text : List ℕ) : Type 0 where
  pub explained : List ℕ
  pub explains : ExplainsRun states ran.rules (processes_of (manager_of ran.session)) 1 opening_state (events_in ran.session) S explained
  pub report : List ℕ
  pub is_report : IsReport (processes_of (manager_of ran.session)) S (events_in ran.session) sent report
  pub is : text ≡ explained ++ report ++ untaken_lines S.states (events_in ran.session) sent 1 (processes_of (manager_of ran.session))

-- the script is accepted, and was run: the journal is that of its arrivals, the manager stands for the state that is left, and the counts
-- are those of what each process sent
pub record IsRunOf (bytes : List ℕ) (ran : Ran) : Type 0 where
  pub script : Meaning
  pub accepted : Reads bytes (Ok script)
  pub rules : ran.rules ≡ script.rules
  pub processes : processes_of (manager_of ran.session) ≡ processes_in script
  pub state : State
  pub drained : IsDrain script.rules (processes_in script) script.arrivals (events_in ran.session) state
  pub stands : StandsFor (manager_of ran.session) state
  pub one_each : length ran.sent.items ≡ processes_of (manager_of ran.session)
  pub counts : AreCounts ran.sent.items (λ p. length (requests_sent p script.arrivals))

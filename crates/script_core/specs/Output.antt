-- The output of a script (this project's choice).
use Rattle.std.specs.Prelude.{◌≡◌, ℕ, ◌≤◌, Ok, List, ◌++◌, length, flat_map}
use Rattle.fd_table.specs.Descriptors.{process_limit}
use Rattle.lock_manager.specs.State.{State}
use Rattle.session_core.specs.Event.{Event}
use Rattle.session_core.specs.Mail.{requests_sent}
use Rattle.session_core.specs.Draining.{IsDrain}
use Rattle.script_core.specs.ScriptText.{Meaning}
use Rattle.script_core.specs.Reading.{Reads}
use Rattle.script_core.specs.EntryText.{entry_line}
use Rattle.script_core.specs.ReportText.{IsReport}

-- new is old and something behind it
pub record Extends (old new : List ℕ) : Type 0 where
  pub more : List ℕ
  pub is : new ≡ old ++ more

-- new is old and a front of the text
pub record AppendsPartOf (old new text : List ℕ) : Type 0 where
  pub front : List ℕ
  pub rest : List ℕ
  pub is : text ≡ front ++ rest
  pub appended : new ≡ old ++ front

-- how many processes a script has: as many as its limits allow
abbrev pub processes_in : Meaning → ℕ
processes_in script = process_limit script.rules.limits

-- the script is accepted, and the text is the lines of the journal that its arrivals make under its rules, and then the report
pub record IsOutput (bytes text : List ℕ) : Type 0 where
  pub script : Meaning
  pub accepted : Reads bytes (Ok script)
  pub journal : List Event
  pub state : State
  pub drained : IsDrain script.rules (processes_in script) script.arrivals journal state
  pub report : List ℕ
  pub is_report : IsReport (processes_in script) state journal (λ p. length (requests_sent p script.arrivals)) report
  pub is : text ≡ flat_map entry_line journal ++ report

-- two outputs of the same bytes are equal
abbrev pub ScriptsHaveOneOutput : Type 0
ScriptsHaveOneOutput = (bytes text other : List ℕ) → IsOutput bytes text → IsOutput bytes other → text ≡ other

-- how many bytes an output has at most: an arrival has 7 bytes of a script or more, and takes 420 of the output beside its own words; a
-- journal may have 67108864, so header lines may stand before it there
abbrev pub output_limit : ℕ
output_limit = 64000000

-- no output has more
abbrev pub OutputsAreShort : Type 0
OutputsAreShort = (bytes text : List ℕ) → IsOutput bytes text → length text ≤ output_limit

-- The text of what a run would have in place of an entry with which none goes on (this project's choice).
use Rattle.std.specs.Prelude.{ℕ, ◌+◌, Option, Some, None, List, ◌++◌, codes, decimal}
use Rattle.session_core.specs.declared.check.Expected.{Expected}
use Rattle.session_core.specs.declared.check.Expected.TheVariants.{NoRequest, NumberAfter, Notes}
use Rattle.session_core.specs.Event.{Event}
use Rattle.script_core.specs.EntryText.{tag, entry_text}
use Rattle.script_core.specs.declared.report.ReportLine.{ReportLine}
use Rattle.script_core.specs.ReportText.{state_word}
use Rattle.script_core.specs.ReportReading.{line_text}

-- in place of the event: how its process stands, which makes no request; or the tag of its next request; or the event with other notes
abbrev pub expected_text : Event → Expected → List ℕ
expected_text event (NoRequest state) = codes "process " ++ decimal event.p ++ codes " is " ++ state_word state
expected_text event (NumberAfter taken) = tag event.p (taken + 1) ++ codes " expected"
expected_text event (Notes notes) = entry_text (record event { notes = notes.items }) ++ codes " expected"

-- in place of a line of the report: the line that is due, or none
abbrev pub due_text : Option ReportLine → List ℕ
due_text None = codes "no line expected"
due_text (Some line) = line_text line ++ codes " expected"

-- How an output is read as a journal (this project's choice).
use Rattle.std.specs.Prelude.{◌≡◌, ℕ, List, []}
use Rattle.script_core.specs.declared.place.Place.{Place}
use Rattle.script_core.specs.Words.{lines_of}
use Rattle.script_core.specs.JournalReading.{Legal, JournalGives, IsBeforeReport, rules_at}
use Rattle.script_core.specs.Output.{IsOutput}

-- each output is a legal journal where the rules are those of its script, and neither an entry nor a line of the report came
abbrev pub OutputsAreLegal : Type 0
OutputsAreLegal =
    (bytes text : List ℕ) (output : IsOutput bytes text) (number : ℕ) (place : Place) → IsBeforeReport place.stage → rules_at place ≡ output.script.rules
    → JournalGives number (record { place = place; entries = []; report = [] }) (lines_of text) Legal

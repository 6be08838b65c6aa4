-- The language without sections, and that sections change nothing else in how a line is read (this project's choice).
use Rattle.std.specs.Prelude.{◌≡◌, ◌||◌, ℕ, Bool, false, not, Option, List, filter, codes, bytes_eq}
use Rattle.std.specs.List.{find}
use Rattle.fd_table.specs.declared.Limits.{Limits}
use Rattle.script_core.specs.Arguments.{Command, commands, command_named}

-- whether the word is the command of an enter, a leave or a bail
abbrev pub is_of_sections : List ℕ → Bool
is_of_sections word = bytes_eq (codes "enter") word || bytes_eq (codes "leave") word || bytes_eq (codes "bail") word

-- the command that the word names in the language that has no such commands, if it names one
abbrev pub plain_command_named : Limits → List ℕ → Option Command
plain_command_named limits word = find (λ command. bytes_eq command.name word) (filter (λ command. not (is_of_sections command.name)) (commands limits))

-- each other word names in both languages the same command, with the same arguments, or none: so a line with it says the same, or has the same fault
abbrev pub SectionsNameNothingElse : Type 0
SectionsNameNothingElse = (limits : Limits) (word : List ℕ) → is_of_sections word ≡ false → command_named limits word ≡ plain_command_named limits word

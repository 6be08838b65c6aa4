-- How a script is read: line by line, up to the first fault (this project's choice).
use Rattle.std.specs.Prelude.{◌≡◌, ◌≢◌, ℕ, ◌+◌, ◌≤◌, ◌==◌, ◌⊎◌, ⊤, Bool, IsTrue, true, false, nat_lt, MatchBool, MatchOption, MatchResult, Result, Ok, Err, List, [], ◌∷◌, ◌++◌, length, codes, decimal}
use Rattle.range_core.specs.declared.Memory.{Memory as Want}
use Rattle.fd_table.specs.declared.Limits.{Limits}
use Rattle.lock_manager.specs.declared.request.Request.{Request}
use Rattle.script_core.specs.declared.header.Header.{Header}
use Rattle.script_core.specs.declared.line.Line.{Line}
use Rattle.script_core.specs.declared.line.Line.TheVariants as lines
use Rattle.script_core.specs.declared.script.Cause.{Cause}
use Rattle.script_core.specs.declared.script.Cause.TheVariants.{Byte, Word, Count, Process, TooLong, Memory}
use Rattle.script_core.specs.declared.script.ScriptFault.{ScriptFault}
use Rattle.script_core.specs.HeaderReading.{no_header, limits_said, rules_said, HeaderGives}
use Rattle.script_core.specs.RequestText.{request_text}
use Rattle.script_core.specs.Words.{lines_of, words_of, is_printable, line_limit, script_limit}
use Rattle.script_core.specs.Arguments.{ProcessNumber, Spells, IsFirstBad, Command, command_named, has_count}
use Rattle.script_core.specs.ScriptText.{Meaning, IsProcess, IsWritable, IsRequest}

-- what was read so far: what the header lines said, and the arrivals
pub record Reading : Type 0 where
  pub header : Header
  pub arrivals : List (ℕ × Request)

-- nothing was read
abbrev pub start : Reading
start = record { header = no_header; arrivals = [] }

-- the limits that hold for the next line: small ones where no line said others
abbrev pub limits_of : Reading → Limits
limits_of reading = limits_said reading.header

-- the meaning of what was read: the policy is held where no line said another
abbrev pub meaning_of : Reading → Meaning
meaning_of reading = record { rules = rules_said reading.header; arrivals = reading.arrivals }

-- the reading after a line that says this
abbrev pub reading_after : Reading → Line → Reading
reading_after reading lines.Skipped = reading
reading_after reading (lines.Header header) = record reading { header = header }
reading_after reading (lines.Arrival p request) = record reading { arrivals = reading.arrivals ++ (p, request) ∷ [] }

-- whether the list is empty
abbrev pub is_empty : List (ℕ × Request) → Bool
is_empty [] = true
is_empty (arrival ∷ arrivals) = false

-- a comment begins with `#`
abbrev pub is_comment : List ℕ → Bool
is_comment [] = false
is_comment (byte ∷ bytes) = byte == 35

-- a line of these words says nothing: there are none, or it is a comment
abbrev pub AreSkipped : List (List ℕ) → Type 0
AreSkipped [] = ⊤
AreSkipped (first ∷ rest) = IsTrue (is_comment first)

-- the arguments of a command that are as many as it has: the first bad one is told, and else the words are a request
abbrev pub ArgumentsGive : Limits → List (List ℕ) → Command → List (List ℕ) → Result Request Cause → Type 0
ArgumentsGive limits words command arguments result =
    ((cause : Cause) × IsFirstBad (command.required ++ command.optional) arguments cause × (result ≡ Err cause))
    ⊎ ((request : Request) × IsRequest limits words request × (result ≡ Ok request))

-- a command with its arguments: a wrong number of them, or arguments
abbrev pub CommandGives : Limits → List (List ℕ) → Command → List (List ℕ) → Result Request Cause → Type 0
CommandGives limits words command arguments result =
    MatchBool (has_count command (length arguments)) (ArgumentsGive limits words command arguments result) (result ≡ Err Count)

-- what follows the process: no command, a word that is none, or a command with its arguments
abbrev pub RequestGives : Limits → List (List ℕ) → Result Request Cause → Type 0
RequestGives limits [] result = result ≡ Err Count
RequestGives limits (name ∷ arguments) result =
    MatchOption (command_named limits name) (result ≡ Err Word)
    (λ command. CommandGives limits (name ∷ arguments) command arguments result)

-- a line of this process: a fault of its request is the line's, and else the line is an arrival
abbrev pub ArrivalGives : ℕ → Result Request Cause → Result Line Cause → Type 0
ArrivalGives p (Ok request) result = result ≡ Ok (lines.Arrival p request)
ArrivalGives p (Err cause) result = result ≡ Err cause

-- a first word, and what follows it: a process and a request
abbrev pub ProcessGives : Limits → List ℕ → List (List ℕ) → Result Line Cause → Type 0
ProcessGives limits first rest result =
    ((p : ℕ) × IsProcess limits p × (first ≡ decimal p)
    × (next : Result Request Cause) × RequestGives limits rest next × ArrivalGives p next result)
    ⊎ ((¬ (Spells (ProcessNumber limits) first)) × (result ≡ Err Process))

-- a first word that is no comment, and what follows it: a header line, where one may stand; else a process and a request
abbrev pub FirstGives : Header → Bool → List ℕ → List (List ℕ) → Result Line Cause → Type 0
FirstGives header at_top first rest result = HeaderGives header at_top lines.Header first rest (ProcessGives (limits_said header) first rest result) result

-- the words of a line: none or a comment, which is skipped; a header line, where no arrival came before; else a process and a request
abbrev pub WordsGive : Reading → List (List ℕ) → Result Line Cause → Type 0
WordsGive reading [] result = result ≡ Ok lines.Skipped
WordsGive reading (first ∷ rest) result =
    MatchBool (is_comment first) (result ≡ Ok lines.Skipped) (FirstGives reading.header (is_empty reading.arrivals) first rest result)

-- a line: too long, with a byte that isn't printable, or words
abbrev pub LineGives : Reading → List ℕ → Result Line Cause → Type 0
LineGives reading line result =
    MatchBool (nat_lt line_limit (length line)) (result ≡ Err TooLong)
    (MatchBool (is_printable line) (WordsGive reading (words_of line) result) (result ≡ Err Byte))

-- the lines from this number on: the first fault is told with its line
abbrev pub LinesGive : ℕ → Reading → List (List ℕ) → Result Meaning ScriptFault → Type 0
LinesGive number reading [] result = result ≡ Ok (meaning_of reading)
LinesGive number reading (line ∷ lines) result =
    (next : Result Line Cause) × LineGives reading line next
    × MatchResult next (λ said. LinesGive (number + 1) (reading_after reading said) lines result)
    (λ cause. result ≡ Err (record { line = number; cause = cause }))

-- the cause is want of memory
abbrev pub IsWantOfMemory : Cause → Type 0
IsWantOfMemory cause = (memory : Want) × (cause ≡ Memory memory)

-- the cause is one that a script has: any but want of memory
abbrev pub IsOfScript : Cause → Type 0
IsOfScript cause = (memory : Want) → cause ≢ Memory memory

-- the line is an arrival
abbrev pub IsArrival : Line → Type 0
IsArrival lines.Skipped = ⊥
IsArrival (lines.Header header) = ⊥
IsArrival (lines.Arrival p request) = Unit {0}

-- the lines from this number on say something up to the one at hand, and that one is an arrival
abbrev pub ComesTo : ℕ → Reading → List (List ℕ) → ℕ → Type 0
ComesTo number reading [] at_hand = ⊥
ComesTo number reading (line ∷ lines) at_hand =
    (said : Line) × LineGives reading line (Ok said)
    × (((at_hand ≡ number) × IsArrival said) ⊎ ComesTo (number + 1) (reading_after reading said) lines at_hand)

-- the line at hand is one of a script that isn't too long: all before it were read, and it is an arrival, to be taken down
pub record IsAtHand (bytes : List ℕ) (at_hand : ℕ) : Type 0 where
  pub fits : length bytes ≤ script_limit
  pub read : ComesTo 1 start (lines_of bytes) at_hand
  pub within : at_hand ≤ length (lines_of bytes)

-- a script: its meaning, or the first fault of its first faulty line
abbrev pub Reads : List ℕ → Result Meaning ScriptFault → Type 0
Reads bytes result =
    MatchBool (nat_lt script_limit (length bytes)) (result ≡ Err (record { line = 0; cause = TooLong }))
    (LinesGive 1 start (lines_of bytes) result)

-- the bytes have one reading at most
abbrev pub HasOneReading : List ℕ → Type 0
HasOneReading bytes = (a b : Result Meaning ScriptFault) → Reads bytes a → Reads bytes b → a ≡ b

-- the text of the request, behind its process and a space, is read as this arrival, wherever the limits have its numbers
abbrev pub IsReadBack : ℕ → Request → Type 0
IsReadBack p request =
    (reading : Reading) → IsProcess (limits_of reading) p → IsWritable (limits_of reading) request
    → LineGives reading (decimal p ++ codes " " ++ request_text request) (Ok (lines.Arrival p request))

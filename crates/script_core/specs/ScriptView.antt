-- What a `ScriptReader` has read (the words are this project's choice).
use Rattle.std.specs.Prelude.{◌≡◌, ℕ, ◌+◌, ◌≤◌, Bool, Option, None, Some, Result, Ok, List, [], ◌∷◌, ◌++◌, length}
use Rattle.lock_manager.specs.declared.request.Rules.{Rules}
use Rattle.lock_manager.specs.declared.request.Request.{Request}
use Rattle.script_core.specs.declared.header.Header.{Header}
use Rattle.script_core.specs.declared.line.Line.{Line}
use Rattle.script_core.specs.declared.line.Line.TheVariants as lines
use Rattle.script_core.specs.declared.reader.ScriptReader.{ScriptReader}
use Rattle.script_core.specs.declared.script.ScriptFault.{ScriptFault}
use Rattle.script_core.specs.Words.{lines_of, script_limit}
use Rattle.script_core.specs.ScriptText.{Meaning, IsProcess}
use Rattle.script_core.specs.HeaderReading.{rules_said}
use Rattle.script_core.specs.Reading.{Reading, LinesGive, ComesTo, IsAtHand, Reads, is_empty, start}

-- what was read, where the header lines said so much and these are the arrivals
abbrev pub reading_of : Header → List (ℕ × Request) → Reading
reading_of header arrivals = record { header = header; arrivals = arrivals }

-- the arrival that a line is, if it is one
abbrev pub arrival_of : Line → Option (ℕ × Request)
arrival_of lines.Skipped = None
arrival_of (lines.Header header) = None
arrival_of (lines.Arrival p request) = Some (p, request)

-- the arrivals, and behind them the next one, if there is one
abbrev pub with_next : List (ℕ × Request) → Option (ℕ × Request) → List (ℕ × Request)
with_next arrivals None = arrivals
with_next arrivals (Some arrival) = arrivals ++ arrival ∷ []

-- so many lines were read, which made this reading, and the rest wasn't: whatever the rest gives, the bytes give, and a line at hand that it
-- comes to, they come to
pub record IsReadUpTo (bytes : List ℕ) (count : ℕ) (header : Header) (at_top : Bool) (arrivals : List (ℕ × Request)) (rest : List ℕ) : Type 0 where
  pub fits : length bytes ≤ script_limit
  pub heads : at_top ≡ is_empty arrivals
  pub few : length arrivals + length rest ≤ length bytes
  pub goes_on : (result : Result Meaning ScriptFault) → LinesGive (count + 1) (reading_of header arrivals) (lines_of rest) result
      → LinesGive 1 start (lines_of bytes) result
  pub comes : (at_hand : ℕ) → ComesTo (count + 1) (reading_of header arrivals) (lines_of rest) at_hand → ComesTo 1 start (lines_of bytes) at_hand

-- of a script of these bytes the reader has read a front, and these are all arrivals of that
unfoldable pub HasRead : List ℕ → ScriptReader → List (ℕ × Request) → Type 0
HasRead bytes reader arrivals = IsReadUpTo bytes reader.lines reader.header reader.at_top arrivals reader.rest.now

-- how many bytes weren't read
unfoldable pub unread_in : ScriptReader → ℕ
unread_in reader = length reader.rest.now

-- how many lines were read
unfoldable pub lines_in : ScriptReader → ℕ
lines_in reader = reader.lines

-- what the header lines said that were read
unfoldable pub rules_in : ScriptReader → Rules
rules_in reader = rules_said reader.header

-- the arrival is the one behind these: all before it was read, and it stands in the line that was read last
pub record IsNext (bytes : List ℕ) (reader : ScriptReader) (arrivals : List (ℕ × Request)) (arrival : ℕ × Request) : Type 0 where
  pub read : HasRead bytes reader (arrivals ++ arrival ∷ [])
  pub process : IsProcess (rules_in reader).limits arrival.0
  pub at_hand : IsAtHand bytes (lines_in reader)
  pub few : length arrivals + 1 ≤ script_limit

-- behind these arrivals comes the next one; or there is none, the script says just these, and they are all that was read
abbrev pub HandsOut : List ℕ → ScriptReader → List (ℕ × Request) → Option (ℕ × Request) → Type 0
HandsOut bytes reader arrivals None = HasRead bytes reader arrivals × Reads bytes (Ok (record { rules = rules_in reader; arrivals = arrivals }))
HandsOut bytes reader arrivals (Some arrival) = IsNext bytes reader arrivals arrival

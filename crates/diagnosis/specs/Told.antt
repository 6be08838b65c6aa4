-- What stands behind the line of a fault (this project's choice).
use Rattle.std.specs.Prelude.{◌≡◌, ℕ, ◌+◌, ◌<◌, ◌≤◌, List, ◌++◌, length, codes, decimal}
use Rattle.script_core.specs.declared.script.ScriptFault.{ScriptFault}
use Rattle.script_core.specs.Words.{lines_of}
use Rattle.diagnosis.specs.declared.language.Language.{Language}
use Rattle.diagnosis.specs.Lines.{IsLineAt}
use Rattle.diagnosis.specs.Places.{IsPlaceOf}
use Rattle.diagnosis.specs.Shown.{Shows}

-- the text tells the place of the fault in the file of this name: its line, which the bytes have, the column, counted from 1, and something of it;
-- and it shows that line, with a caret there
pub record TellsPlace (name : List ℕ) (language : Language) (bytes : List ℕ) (fault : ScriptFault) (text : List ℕ) : Type 0 where
  pub line : List ℕ
  pub place : ℕ
  pub message : List ℕ
  pub picture : List ℕ
  pub of_fault : IsLineAt bytes fault.line line
  pub at_place : IsPlaceOf language fault.cause line place
  pub pictured : Shows line place picture
  pub is : text ≡ name ++ codes ":" ++ decimal fault.line ++ codes ":" ++ decimal (place + 1) ++ codes ": " ++ message ++ codes "\n" ++ picture

-- where the bytes have the line of the fault, the text tells its place
abbrev pub Tells : List ℕ → Language → List ℕ → ScriptFault → List ℕ → Type 0
Tells name language bytes fault text =
    0 < fault.line → fault.line ≤ length (lines_of bytes) → TellsPlace name language bytes fault text

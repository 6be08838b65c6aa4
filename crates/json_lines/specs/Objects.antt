-- The object of a line of the output (what it says is this project's choice).
use Rattle.std.specs.Prelude.{◌≡◌, ℕ, List, Some, codes}
use Rattle.serde_json.specs.Data.{string}
use Rattle.serde_json.specs.Find.{get}
use Rattle.serde_json.specs.View.{view}
use Rattle.serde_json.specs.declared.value.Value.{Value}

-- the object has the line, as it is printed, as its text
abbrev pub HasText : List ℕ → Value → Type 0
HasText line value = get (codes "text") (view value) ≡ Some (string line)

-- The line of a number (this project's choice).
use Rattle.std.specs.Prelude.{◌≡◌, ℕ, ◌+◌, List, ◌∷◌, ◌++◌, length}
use Rattle.script_core.specs.Words.{lines_of}

-- the bytes have this line, and it is the one of this number, counted from 1
pub record IsLineAt (bytes : List ℕ) (number : ℕ) (line : List ℕ) : Type 0 where
  pub before : List (List ℕ)
  pub behind : List (List ℕ)
  pub are : lines_of bytes ≡ before ++ line ∷ behind
  pub count : length before + 1 ≡ number

-- all lines in front of the one of this number were read, and this is left
pub record IsReadUpTo (bytes : List ℕ) (number : ℕ) (rest : List ℕ) : Type 0 where
  pub before : List (List ℕ)
  pub are : lines_of bytes ≡ before ++ lines_of rest
  pub count : length before + 1 ≡ number

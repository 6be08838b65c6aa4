-- How bytes begin with a line (this project's choice).
use Rattle.std.specs.Prelude.{◌≡◌, ◌⊎◌, ℕ, ◌<◌, ◌==◌, true, not, List, [], ◌∷◌, ◌++◌, length}
use Rattle.std.specs.List.{list_all}

-- the bytes are the line, which has no line feed in it, and a line feed with these others behind it; or the line alone, which isn't empty
pub record IsFirstLine (bytes line behind : List ℕ) : Type 0 where
  pub is : (bytes ≡ line ++ 10 ∷ behind) ⊎ ((bytes ≡ line) × (behind ≡ []) × (0 < length line))
  pub plain : list_all (λ byte. not (byte == 10)) line ≡ true

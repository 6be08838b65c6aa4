-- How a line is shown, with a caret under it (this project's choice).
use Rattle.std.specs.Prelude.{◌≡◌, ℕ, ◌+◌, ◌-◌, ◌/◌, ◌%◌, ◌≤◌, ◌==◌, ◌&&◌, nat_lt, nat_le, if◌then◌else◌, List, [], ◌∷◌, ◌++◌, length, codes, flat_map, replicate, slice_range}

-- a hexadecimal digit, in capitals
abbrev pub hexadecimal : ℕ → ℕ
hexadecimal digit = if nat_lt digit 10 then 48 + digit else 55 + digit

-- a byte as it is shown: a printable one as it is, a tab as \t, a carriage return as \r, any other as \xE4
abbrev pub shown_byte : ℕ → List ℕ
shown_byte byte =
    if nat_le 32 byte && nat_le byte 126 then byte ∷ []
    else if byte == 9 then codes "\\t"
    else if byte == 13 then codes "\\r"
    else codes "\\x" ++ hexadecimal (byte / 16) ∷ hexadecimal (byte % 16) ∷ []

-- bytes as they are shown
abbrev pub shown : List ℕ → List ℕ
shown bytes = flat_map shown_byte bytes

-- the text shows the line, or the part of it from `from` to `to`, and below it a caret under the byte at the place, or behind the last one: so many
-- spaces stand in front of the caret as what is shown in front of the place takes
pub record Shows (line : List ℕ) (place : ℕ) (text : List ℕ) : Type 0 where
  pub from : ℕ
  pub to : ℕ
  pub before : List ℕ
  pub behind : List ℕ
  pub around : (from ≤ place) × (place ≤ to)
  pub whole : length line ≤ 160 → (from ≡ 0) × (to ≡ length line) × (before ≡ []) × (behind ≡ [])
  pub is : text ≡ codes "    " ++ before ++ shown (slice_range line from place) ++ shown (slice_range line place to) ++ behind ++ codes "\n"
      ++ codes "    " ++ replicate (length before + length (shown (slice_range line from place))) 32 ++ codes "^\n"

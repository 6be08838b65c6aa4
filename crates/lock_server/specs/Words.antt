-- Words of 64 bits in a buffer (the words are this project's choice).
use Rattle.std.specs.Prelude.{◌≡◌, ℕ, ◌+◌, ◌*◌, ◌-◌, ◌^◌, ◌<◌, min, List, ◌++◌, All, length}
use Rattle.std.specs.Int.{w64, to_le_bytes}
use Rattle.std.specs.List.{flat_map}

-- the words as bytes: each as eight, the lowest first
abbrev pub bytes_of : List ℕ → List ℕ
bytes_of words = flat_map (to_le_bytes w64) words

-- each of them has 64 bits
abbrev pub AreWords : List ℕ → Type 0
AreWords words = All (λ word. word < 2 ^ 64) words

-- the largest number of 64 bits, which is also told for what is larger
abbrev pub greatest : ℕ
greatest = 2 ^ 64 - 1

-- the words are put into the buffer, from this place on, where they have room; the place behind them is told also where they don't
pub record Puts (words : List ℕ) (old : List ℕ) (at : ℕ) (new : List ℕ) (next : ℕ) : Type 0 where
  pub reaches : next ≡ min (at + 8 * length words) greatest
  pub writes : (front room rest : List ℕ) → old ≡ front ++ (room ++ rest) → length front ≡ at → length room ≡ 8 * length words
      → at + 8 * length words < greatest → AreWords words × (new ≡ front ++ (bytes_of words ++ rest))

-- something of this kind is put so, as it is spelled
pub record PutsSome {X : Type 0} (Is : X → Type 0) (spell : X → List ℕ) (old : List ℕ) (at : ℕ) (new : List ℕ) (next : ℕ) : Type 0 where
  pub what : X
  pub is : Is what
  pub puts : Puts (spell what) old at new next

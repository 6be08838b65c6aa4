-- Where a caret may stand (this project's choice).
use Rattle.std.specs.Prelude.{◌≡◌, ◌≢◌, ℕ, ◌-◌, ◌<◌, ◌≤◌, Bool, true, false, List, length, slice_index, min}
use Rattle.script_core.specs.declared.TheConstants.{LINE_MAX, ENTRY_MAX}
use Rattle.script_core.specs.declared.script.Cause.{Cause}
use Rattle.script_core.specs.declared.script.Cause.TheVariants.{Byte, Word, Count, Number, Process, TooLong, Memory, Tag}
use Rattle.diagnosis.specs.declared.language.Language.{Language}
use Rattle.diagnosis.specs.declared.language.Language.TheVariants.{Script, Journal, History}

-- a word begins at this place of the line: no space stands there, and in front of it does one, or nothing; where bars part the line, a bar is a
-- word too, and may stand in front of one
pub record BeginsWord (bars : Bool) (line : List ℕ) (place : ℕ) : Type 0 where
  pub within : place < length line
  pub is_no_space : slice_index line place ≢ 32
  pub behind_a_space : 0 < place → (bars ≡ true → slice_index line place ≢ 124 × slice_index line (place - 1) ≢ 124) → slice_index line (place - 1) ≡ 32

-- the place is the end of the line, or a word begins there
pub record IsOfWord (bars : Bool) (line : List ℕ) (place : ℕ) : Type 0 where
  pub within : place ≤ length line
  pub at_a_word : place < length line → BeginsWord bars line place

-- the byte is printable ASCII, or a space
abbrev pub IsPrintable : ℕ → Type 0
IsPrintable byte = (32 ≤ byte) × (byte ≤ 126)

-- the place is that of the first byte that isn't printable, or the end of the line
pub record IsOfStray (line : List ℕ) (place : ℕ) : Type 0 where
  pub within : place ≤ length line
  pub first : (before : ℕ) → before < place → IsPrintable (slice_index line before)
  pub stray : place < length line → ¬ (IsPrintable (slice_index line place))

-- how many bytes a line may have
abbrev pub line_max : Language → ℕ
line_max Script = LINE_MAX
line_max Journal = ENTRY_MAX
line_max History = LINE_MAX

-- whether bars part the lines
abbrev pub has_bars : Language → Bool
has_bars Script = false
has_bars Journal = true
has_bars History = false

-- the place of a fault of this cause: the first byte too many, the first that isn't printable, or that of a word
abbrev pub IsPlaceOf : Language → Cause → List ℕ → ℕ → Type 0
IsPlaceOf language TooLong line place = place ≡ min (line_max language) (length line)
IsPlaceOf language Byte line place = IsOfStray line place
IsPlaceOf language Word line place = IsOfWord (has_bars language) line place
IsPlaceOf language Count line place = IsOfWord (has_bars language) line place
IsPlaceOf language Number line place = IsOfWord (has_bars language) line place
IsPlaceOf language Process line place = IsOfWord (has_bars language) line place
IsPlaceOf language (Memory memory) line place = IsOfWord (has_bars language) line place
IsPlaceOf language Tag line place = IsOfWord (has_bars language) line place

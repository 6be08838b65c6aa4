-- The words of a command line before clap reads them (the words are this project's choice).
use Rattle.std.specs.Prelude.{◌≡◌, ◌<◌, ◌+◌, ◌++◌, length, take, drop, ℕ, List, [], ◌∷◌, Bool, true, false, ◌||◌, if◌then◌else◌, codes}
use Rattle.std.specs.Str.{bytes_eq}
use Rattle.clap.specs.Words.{Text}

-- whether one of the words before the first `--` is this flag
abbrev pub has_word : Text → List Text → Bool
has_word flag [] = false
has_word flag (word ∷ words) = if bytes_eq word (codes "--") then false else bytes_eq word flag || has_word flag words

-- whether the words, the first of which is the program's name, ask for this flag
abbrev pub asks_for : Text → List Text → Bool
asks_for flag [] = false
asks_for flag (name ∷ words) = has_word flag words

-- the words without this flag where it stands first before the first `--`
abbrev pub without_word : Text → List Text → List Text
without_word flag [] = []
without_word flag (word ∷ words) =
    if bytes_eq word (codes "--") then word ∷ words else if bytes_eq word flag then words else word ∷ without_word flag words

-- the same words, the first of which is the program's name
abbrev pub without_flag : Text → List Text → List Text
without_flag flag [] = []
without_flag flag (name ∷ words) = name ∷ without_word flag words

-- the flag stands at this place behind the program's name, and neither it nor `--` before it
abbrev pub IsPlaceOf : Text → List Text → ℕ → Type 0
IsPlaceOf flag words place =
    (place < length words) × (asks_for flag words ≡ true) × (without_flag flag words ≡ take place words ++ drop (place + 1) words)

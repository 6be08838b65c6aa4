-- Lines and words of a script (this project's choice).
use Rattle.std.specs.Prelude.{ℕ, ◌==◌, Bool, false, ◌&&◌, if◌then◌else◌, not, nat_le, List, [], ◌∷◌, map, filter, length}
use Rattle.std.specs.Borrow.{Bor}
use Rattle.std.specs.List.{list_all, slice_split}

-- how many bytes a line may have, without its line feed
abbrev pub line_limit : ℕ
line_limit = 120

-- how many bytes a script may have
abbrev pub script_limit : ℕ
script_limit = 1048576

-- the pieces without the last one, where that is empty
abbrev pub without_empty_end : List (List ℕ) → List (List ℕ)
without_empty_end [] = []
without_empty_end ([] ∷ []) = []
without_empty_end ((byte ∷ bytes) ∷ []) = (byte ∷ bytes) ∷ []
without_empty_end (piece ∷ next ∷ pieces) = piece ∷ without_empty_end (next ∷ pieces)

-- the lines: each ends with a line feed, and bytes after the last line feed are a line too
abbrev pub lines_of : List ℕ → List (List ℕ)
lines_of bytes = without_empty_end (slice_split (λ byte. byte == 10) bytes)

-- the words: what stands between spaces, of which there may be several, and also at both ends
abbrev pub words_of : List ℕ → List (List ℕ)
words_of line = filter (λ word. not (length word == 0)) (slice_split (λ byte. byte == 32) line)

-- whether the first byte that isn't a space is `#`
abbrev pub begins_with_hash : List ℕ → Bool
begins_with_hash [] = false
begins_with_hash (byte ∷ bytes) = if byte == 32 then begins_with_hash bytes else byte == 35

-- each byte is a printable one of ASCII, or a space
abbrev pub is_printable : List ℕ → Bool
is_printable line = list_all (λ byte. nat_le 32 byte && nat_le byte 126) line

-- the bytes of each of these texts
abbrev pub texts : List (Bor (List ℕ)) → List (List ℕ)
texts words = map (λ word. word.now) words

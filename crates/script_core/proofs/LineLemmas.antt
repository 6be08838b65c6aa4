-- The bytes of a line: for `printable_text` and `said_words`.
use Rattle.script_core.proofs.Common.{common_steps, ◌≡◌, ℕ, Bool, true, false, List, [], ◌∷◌, length, filter, refl, arith, ne_eqb, ◌==◌, if◌then◌else◌, not, slice_split, onto_first, is_printable, words_of, AreSkipped, is_comment}
use Rattle.std.specs.Str.{IsUtf8, IsAscii}
use Rattle.std.proofs.lemmas.Str.{IsUtf8-from_ascii}
use Rattle.script_core.specs.Words.{begins_with_hash}

printable_ascii : (line : List ℕ) → is_printable line ≡ true → IsAscii line
printable_ascii line h h2 = grind (arith, common_steps)

-- a printable line is text
pub printable_utf8 : (line : List ℕ) → is_printable line ≡ true → IsUtf8 line
printable_utf8 line printable = IsUtf8-from_ascii line (printable_ascii line printable)

starts_comment : (byte : ℕ) (parts : List (List ℕ)) → (byte == 35) ≡ true
    → (first : List ℕ) × (rest : List (List ℕ)) × (filter (λ word. not (length word == 0)) (onto_first byte parts) ≡ first ∷ rest) × (is_comment first ≡ true)
starts_comment byte [] is = (byte ∷ [], [], refl, is)
starts_comment byte (part ∷ parts) is =
    let some : (length (byte ∷ part) == 0) ≡ false = ne_eqb (length (byte ∷ part)) 0 (λ e. omega (arith, e)) in
    (byte ∷ part, filter (λ word. not (length word == 0)) parts, rw some refl, is)

-- where the first byte that isn't a space is `#`, the first word begins with it
comment_word : (line : List ℕ) → begins_with_hash line ≡ true
    → (first : List ℕ) × (rest : List (List ℕ)) × (words_of line ≡ first ∷ rest) × (is_comment first ≡ true)
comment_word [] is = cc
comment_word (byte ∷ bytes) is =
    let parts = slice_split (λ b. b == 32) bytes in
    let by_first : (b : Bool) → (if b then begins_with_hash bytes else byte == 35) ≡ true
    → (first : List ℕ) × (rest : List (List ℕ))
    × (filter (λ word. not (length word == 0)) (if b then [] ∷ parts else onto_first byte parts) ≡ first ∷ rest) × (is_comment first ≡ true) =
    (λ b. elim b as (λ v. (if v then begins_with_hash bytes else byte == 35) ≡ true
    → (first : List ℕ) × (rest : List (List ℕ))
    × (filter (λ word. not (length word == 0)) (if v then [] ∷ parts else onto_first byte parts) ≡ first ∷ rest) × (is_comment first ≡ true))
    [ true ↦ comment_word bytes | false ↦ starts_comment byte parts ]) in
    by_first (byte == 32) is

-- and the line says nothing
pub comment_skipped : (line : List ℕ) → begins_with_hash line ≡ true → AreSkipped (words_of line)
comment_skipped line is = grind (arith, common_steps, comment_word)

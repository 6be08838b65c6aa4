-- The lines of bytes, cut at line feeds: for `line_at`.
use Rattle.std.proofs.lemmas.Grind.{common_steps}
use Rattle.std.proofs.Common.{◌≡◌, ℕ, Option, ◌+◌, ◌<◌, ◌≤◌, ◌==◌, List, [], ◌∷◌, ◌++◌, length, take, drop, position, Some, None, Bool, false, cond, All, refl, sym, ap, ◌∙◌, arith, append_assoc, length-append}
use Rattle.std.specs.List.{slice_split, onto_first}
use Rattle.std.proofs.lemmas.List.Splits.{slice_split_first, slice_split_none}
use Rattle.std.proofs.lemmas.List.Sums.{fails_before_first, position_or_len_is}
use Rattle.memchr.specs.Find.{IsFirstByte}
use Rattle.script_core.specs.Words.{without_empty_end, lines_of}
use Rattle.diagnosis.specs.Lines.{IsLineAt, IsReadUpTo}

-- there is always a first piece
record HasFirst (parts : List (List ℕ)) : Type 0 where
  first : List ℕ
  rest : List (List ℕ)
  is : parts ≡ first ∷ rest

HasFirst-cons : (test : Bool) (byte : ℕ) (parts : List (List ℕ)) → HasFirst parts → HasFirst (cond test ([] ∷ parts) (onto_first byte parts))
HasFirst-cons test byte parts given = grind (arith, common_steps)

HasFirst-slice_split : (bytes : List ℕ) → HasFirst (slice_split (λ byte. byte == 10) bytes)
HasFirst-slice_split [] = record { first = []; rest = []; is = refl }
HasFirst-slice_split (byte ∷ bytes) = HasFirst-cons (byte == 10) byte (slice_split (λ byte. byte == 10) bytes) (HasFirst-slice_split bytes)

-- a first piece with others behind it is a line
without_end-more : (line : List ℕ) (parts : List (List ℕ)) → HasFirst parts → without_empty_end (line ∷ parts) ≡ line ∷ without_empty_end parts
without_end-more line parts given = grind (arith, common_steps)

-- where a search finds the first byte that passes
pub found_first : (test : ℕ → Bool) (bytes : List ℕ) (found : Option ℕ) → IsFirstByte test bytes found → found ≡ position test bytes
found_first test bytes None h = grind (arith, common_steps, position_or_len_is test bytes (length bytes) 0)
found_first test bytes (Some at) h = grind (arith, common_steps, position_or_len_is test bytes at 0)

-- the first line feed ends the first line
pub lines_cut : (bytes : List ℕ) (end : ℕ) → position (λ byte. byte == 10) bytes ≡ Some end
    → lines_of bytes ≡ take end bytes ∷ lines_of (drop (end + 1) bytes)
lines_cut bytes end is = grind (arith, common_steps, slice_split_first, without_end-more, HasFirst-slice_split)

no_feed : (bytes : List ℕ) → position (λ byte. byte == 10) bytes ≡ None → All (λ byte. (byte == 10) ≡ false) bytes
no_feed bytes is = grind (arith, common_steps, fails_before_first)

-- without one all bytes are the last line
pub lines_last : (bytes : List ℕ) → 0 < length bytes → position (λ byte. byte == 10) bytes ≡ None → lines_of bytes ≡ bytes ∷ []
lines_last bytes some is = grind (arith, common_steps, slice_split_none, no_feed)

-- nothing was read in front of the first line
pub none_read : (bytes : List ℕ) → IsReadUpTo bytes 1 bytes
none_read bytes = record { before = []; are = refl; count = refl }

-- behind a line more of what was left
pub one_read : (bytes rest line more : List ℕ) (number : ℕ) → IsReadUpTo bytes number rest → lines_of rest ≡ line ∷ lines_of more
    → IsReadUpTo bytes (number + 1) more
one_read bytes rest line more number read cut = record {
  before = read.before ++ line ∷ [];
  are = read.are ∙ ap (λ lines. read.before ++ lines) cut ∙ sym (append_assoc read.before (line ∷ []) (lines_of more));
  count = let count = read.count in omega (arith, count, length-append read.before (line ∷ []));
}

-- the first line of what is left is the one of that number
pub line_read : (bytes rest line more : List ℕ) (number : ℕ) → IsReadUpTo bytes number rest → lines_of rest ≡ line ∷ lines_of more
    → IsLineAt bytes number line
line_read bytes rest line more number read cut = record {
  before = read.before;
  behind = lines_of more;
  are = read.are ∙ ap (λ lines. read.before ++ lines) cut;
  count = read.count;
}

-- where nothing is left, there are fewer lines
pub all_read : (bytes rest : List ℕ) (at number : ℕ) → IsReadUpTo bytes at rest → length rest ≡ 0 → at ≤ number → length (lines_of bytes) < number
all_read bytes [] at number read none more =
    let count = read.count in
    let same = ap length read.are ∙ length-append read.before (lines_of []) in omega (arith, same, count)
all_read bytes (byte ∷ rest) at number read none more = absurd (omega (arith, none))

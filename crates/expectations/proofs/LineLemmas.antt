-- How bytes begin with a line: for `first_line`, `has_line` and `told_text`.
use Rattle.std.proofs.lemmas.Grind.{common_steps}
use Rattle.std.proofs.Common.{◌≡◌, ◌∙◌, ℕ, ◌+◌, ◌<◌, ◌==◌, ◌⊎◌, List, [], ◌∷◌, ◌++◌, length, get_or, take, drop, position, Some, None, Bool, true, false, All, inl, inr, refl, sym, ap, arith, append_assoc, append-nil, add-one, length-append, length-take}
use Rattle.std.specs.Prelude.{◌||◌, bytes_eq, not}
use Rattle.std.specs.List.{list_all, list_any}
use Rattle.std.proofs.Math.Seq.{drop-cons}
use Rattle.std.proofs.lemmas.List.{get_or-take, take-append-drop}
use Rattle.std.proofs.lemmas.List.Quantifiers.{position-Some}
use Rattle.std.proofs.lemmas.List.Sums.{fails_before_first, list_all-from_AllPass}
use Rattle.memchr.specs.Find.{IsFirstByte}
use Rattle.script_core.specs.Words.{lines_of}
use Rattle.script_core.proofs.CommentLaws.{lines_first}
use Rattle.script_core.proofs.ScriptLemmas.{found_first, lines_last}
use Rattle.expectations.specs.FirstLines.{IsFirstLine}
use Rattle.expectations.specs.Expectations.{has_line}

-- no byte of the line is a line feed
abbrev InLine : List ℕ → Type 0
InLine line = list_all (λ byte. not (byte == 10)) line ≡ true

-- no byte is a line feed that isn't found to be one
in_line : (line : List ℕ) → All (λ byte. (byte == 10) ≡ false) line → InLine line
in_line line none = list_all-from_AllPass (λ byte. not (byte == 10)) line (λ k d within. ap not (none k d within))

-- so is what stands before the first line feed
front_none : (bytes : List ℕ) (end : ℕ) → ((k d : ℕ) → k < end → (get_or bytes k d == 10) ≡ false) → All (λ byte. (byte == 10) ≡ false) (take end bytes)
front_none bytes end before k d within =
    let short : k < end = omega (arith, length-take end bytes, within) in
    ap (λ (byte : ℕ). byte == 10) (get_or-take end bytes k d short) ∙ before k d short

-- and so are all bytes where there is none
all_none : (bytes : List ℕ) → position (λ byte. byte == 10) bytes ≡ None → All (λ byte. (byte == 10) ≡ false) bytes
all_none bytes is = grind (arith, common_steps, fails_before_first)

-- a list at a place
cut_at : (bytes : List ℕ) (end : ℕ) → end < length bytes → bytes ≡ take end bytes ++ get_or bytes end 0 ∷ drop (end + 1) bytes
cut_at bytes end within =
    sym (take-append-drop end bytes) ∙ ap (λ (l : List ℕ). take end bytes ++ l) (rw add-one (drop-cons bytes end 0 within))

-- where the first line feed stands the first line ends
pub feed_found : (bytes : List ℕ) (end : ℕ) → IsFirstByte (λ byte. byte == 10) bytes (Some end) → IsFirstLine bytes (take end bytes) (drop (end + 1) bytes)
feed_found bytes end found =
    let at = position-Some (λ (byte : ℕ). byte == 10) bytes end 0 (sym (found_first (λ (byte : ℕ). byte == 10) bytes (Some end) found)) in
    let feed : get_or bytes end 0 ≡ 10 = grind (arith, common_steps, at.1) in
    record {
      is = inl (cut_at bytes end at.0 ∙ ap (λ (byte : ℕ). take end bytes ++ byte ∷ drop (end + 1) bytes) feed);
      plain =
          in_line (take end bytes)
          (front_none bytes end
          (λ k d short. (position-Some (λ (byte : ℕ). byte == 10) bytes end d (sym (found_first (λ (byte : ℕ). byte == 10) bytes (Some end) found))).2 k short));
    }

-- where there is none all is one line
pub no_feed : (bytes : List ℕ) → 0 < length bytes → IsFirstByte (λ byte. byte == 10) bytes None → IsFirstLine bytes bytes []
no_feed bytes some none = record {
  is = inr (refl, refl, some);
  plain = in_line bytes (all_none bytes (sym (found_first (λ (byte : ℕ). byte == 10) bytes None none)));
}

-- what a line takes of the bytes that it begins
pub record Piece (bytes line behind : List ℕ) : Type 0 where
  pub piece : List ℕ
  pub is : bytes ≡ piece ++ behind
  pub own : lines_of piece ≡ line ∷ []
  pub more : 0 < length behind → (other : List ℕ) → lines_of (piece ++ other) ≡ line ∷ lines_of other
  pub all : lines_of bytes ≡ line ∷ lines_of behind
  pub some : 0 < length bytes
  pub shorter : length behind < length bytes

-- where no byte is a line feed none is found
no_position : (line : List ℕ) → InLine line → position (λ byte. byte == 10) line ≡ None
no_position [] plain = refl
no_position (byte ∷ line) plain = grind (arith, common_steps, no_position line)

-- a line that isn't empty is one line
line_alone : (line : List ℕ) → InLine line → 0 < length line → lines_of line ≡ line ∷ []
line_alone line plain some = lines_last line some (no_position line plain)

pub piece_of : (bytes line behind : List ℕ) → IsFirstLine bytes line behind → Piece bytes line behind
piece_of bytes line behind first = at first.is
  where
    at : ((bytes ≡ line ++ 10 ∷ behind) ⊎ ((bytes ≡ line) × (behind ≡ []) × (0 < length line))) → Piece bytes line behind
    at (inl is) = record {
      piece = line ++ 10 ∷ [];
      is = is ∙ sym (append_assoc line (10 ∷ []) behind);
      own = lines_first line [] first.plain;
      more = λ some other. ap lines_of (append_assoc line (10 ∷ []) other) ∙ lines_first line other first.plain;
      all = ap lines_of is ∙ lines_first line behind first.plain;
      some = (let long = ap length is ∙ length-append line (10 ∷ behind) in omega (arith, long));
      shorter = (let long = ap length is ∙ length-append line (10 ∷ behind) in omega (arith, long));
    }
    at (inr last) = record {
      piece = line;
      is = last.0 ∙ sym (append-nil line) ∙ ap (λ (l : List ℕ). line ++ l) (sym last.1);
      own = line_alone line first.plain last.2;
      more = λ some other. absurd (let none = ap length last.1 in omega (arith, none));
      all = ap lines_of last.0 ∙ line_alone line first.plain last.2 ∙ ap (λ (l : List ℕ). line ∷ lines_of l) (sym last.1);
      some = (let long = ap length last.0 in omega (arith, long, last.2));
      shorter = (let long = ap length last.0 in let none = ap length last.1 in omega (arith, long, none, last.2));
    }

-- where the first line is another, the line is among the others or not at all
pub line_more : (bytes first behind line : List ℕ) → IsFirstLine bytes first behind → bytes_eq first line ≡ false → has_line bytes line ≡ has_line behind line
line_more bytes first behind line is other =
    ap (list_any (λ one. bytes_eq one line)) (piece_of bytes first behind is).all ∙ ap (λ (b : Bool). b || has_line behind line) other

-- where it is the first it is there
pub line_found : (bytes first behind line : List ℕ) → IsFirstLine bytes first behind → bytes_eq first line ≡ true → has_line bytes line ≡ true
line_found bytes first behind line is same =
    ap (list_any (λ one. bytes_eq one line)) (piece_of bytes first behind is).all ∙ ap (λ (b : Bool). b || has_line behind line) same

-- a list without elements is empty
pub empty_list : (bytes : List ℕ) → length bytes ≡ 0 → bytes ≡ []
empty_list [] none = refl
empty_list (byte ∷ bytes) none = absurd (omega arith)

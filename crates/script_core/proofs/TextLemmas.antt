-- Texts in pieces: for `push_never_taken`, `push_cycle`, `push_descriptors` and others.
use Rattle.script_core.proofs.Common.{common_steps, ◌≡◌, ◌∙◌, ℕ, ◌+◌, ◌-◌, ◌<◌, ◌≤◌, decimal, List, [], ◌∷◌, ◌++◌, length, take, drop, set, flat_map, Result, MatchResult, sym, ap, arith, append_assoc, append-nil, join_with_byte, decimal_digit, take-append_seam, Extends}
use Rattle.std.proofs.Common.{◌/◌, ◌%◌, length-drop}
use Rattle.std.proofs.lemmas.List.{drop-set}
use Rattle.std.proofs.lemmas.Fmt.{decimal_step}
use Rattle.script_core.specs.Output.{AppendsPartOf}

-- each further word stands behind its space
pub join_words : (word : List ℕ) (words : List (List ℕ)) → join_with_byte 32 (word ∷ words) ≡ word ++ flat_map (λ w. 32 ∷ w) words
join_words word [] = sym (append-nil word)
join_words word (next ∷ words) = ap (λ rest. word ++ 32 ∷ rest) (join_words next words)

-- what stays where a later piece is refused
pub kept_behind : (old mid new front : List ℕ) → mid ≡ old ++ front → Extends mid new → Extends old new
kept_behind old mid new front is kept = grind (arith, common_steps, append_assoc)

-- and what extends it extends it still with a piece more
pub extends_on : (old mid new piece : List ℕ) → Extends old mid → new ≡ mid ++ piece → Extends old new
extends_on old mid new piece so_far is = grind (arith, common_steps, append_assoc)

-- one more piece behind a front that was appended
pub then_pushed : {A E : Type 0} (r : Result A E) (old mid new front piece : List ℕ) → mid ≡ old ++ front
    → MatchResult r (λ unit. new ≡ mid ++ piece) (λ error. Extends mid new)
    → MatchResult r (λ unit. new ≡ old ++ (front ++ piece)) (λ error. Extends old new)
then_pushed r old mid new front piece is pushed = grind (arith, common_steps, append_assoc, kept_behind)

-- what is cut back to the old bytes has no more of the text
pub cut_back : (old new cut text : List ℕ) (len : ℕ) → Extends old new → len ≡ length old → cut ≡ take len new → AppendsPartOf old cut text
cut_back old new cut text len h h2 h3 = grind (arith, common_steps, take-append_seam, append-nil)

-- a byte before the digits that end a buffer
pub number_piece : (buffer digits : List ℕ) (size start at byte : ℕ) → length buffer ≡ size → start ≤ size → start ≡ at + 1 → drop start buffer ≡ digits
    → take (size - at) (drop at (set buffer at byte)) ≡ byte ∷ digits
number_piece buffer digits size start at byte long within next spelled = grind (arith, common_steps, drop-set, length-drop)

-- a byte that is put before what ends a buffer
pub put_before : (buffer rest : List ℕ) (at next byte : ℕ) → at < length buffer → next ≡ at + 1 → drop next buffer ≡ rest
    → drop at (set buffer at byte) ≡ byte ∷ rest
put_before buffer rest at next byte within is ends =
    drop-set buffer at byte within ∙ ap (λ (l : List ℕ). byte ∷ l) (ap (λ (i : ℕ). drop i buffer) (sym is) ∙ ends)

-- a number of two digits
pub two_digits : (n : ℕ) → 10 ≤ n → n < 100 → decimal n ≡ (48 + n / 10) ∷ (48 + n % 10) ∷ []
two_digits n some small =
    decimal_step n some (omega (arith, small)) ∙ ap (λ tens. tens ++ (48 + n % 10) ∷ []) (decimal_digit (n / 10) (omega (arith, small)))

-- The words of a line, space by space: for `first_words`.
use Rattle.script_core.proofs.Common.{common_steps, ◌≡◌, ◌≢◌, ◌∙◌, ℕ, suc, ◌+◌, ◌-◌, ◌<◌, ◌≤◌, false, List, [], ◌∷◌, ◌++◌, length, take, drop, sym, subst, ap, arith, lit<, ne_eqb, append_assoc, append-nil, ◌==◌, if◌then◌else◌, All, length-take, take-append-drop, take_all, drop-cons, cases_lt, slice_split_none, words_of}
use Rattle.std.specs.Str.{IsUtf8, IsCharBoundary}
use Rattle.std.proofs.Math.ListN.{get_or}
use Rattle.std.proofs.lemmas.List.{get_or-take, get_or-drop, length-drop, drop-drop}
use Rattle.std.proofs.lemmas.List.Elements.{All-from_get_or}
use Rattle.std.proofs.lemmas.List.Splits.{slice_split_at}
use Rattle.std.proofs.lemmas.Str.{IsCharBoundary-after_ascii}

-- words, and behind them a piece between spaces, which is one more where it isn't empty
abbrev pub with_piece : List (List ℕ) → List ℕ → List (List ℕ)
with_piece before piece = if length piece == 0 then before else before ++ piece ∷ []

-- the piece has no space
abbrev IsPlain : List ℕ → Type 0
IsPlain piece = All (λ byte. (byte == 32) ≡ false) piece

-- the words before a piece that ends the line, and its own
last_piece : (before : List (List ℕ)) (piece : List ℕ) → IsPlain piece → before ++ words_of piece ≡ with_piece before piece
last_piece before piece h = grind (arith, common_steps, append-nil, slice_split_none)

-- the same where a space ends the piece
next_piece : (before : List (List ℕ)) (piece rest : List ℕ) → IsPlain piece
    → before ++ words_of (piece ++ 32 ∷ rest) ≡ with_piece before piece ++ words_of rest
next_piece before piece rest h = grind (arith, common_steps, slice_split_at, append_assoc)

-- the words before one place of the line are read, of which no more than nine are kept, and from there to the other place no space stands
pub record Reached (line : List ℕ) (words : List (List ℕ)) (start at : ℕ) : Type 0 where
  pub before : List (List ℕ)
  pub taken : words ≡ take 9 before
  pub whole : before ++ words_of (drop start line) ≡ words_of line
  pub ordered : start ≤ at
  pub plain : (k : ℕ) → start ≤ k → k < at → get_or line k 0 ≢ 32
  pub cut : 0 < start → IsCharBoundary line start

-- so what stands between the two places is a piece
plain_piece : (line : List ℕ) (words : List (List ℕ)) (start at : ℕ) → Reached line words start at → IsPlain (take (at - start) (drop start line))
plain_piece line words start at reached =
    All-from_get_or (λ byte. (byte == 32) ≡ false) (take (at - start) (drop start line)) 0 (λ i within.
    let small : i < at - start = omega (arith, within, length-take (at - start) (drop start line)) in
    let is : get_or (take (at - start) (drop start line)) i 0 ≡ get_or line (start + i) 0 = get_or-take (at - start) (drop start line) i 0 small ∙ get_or-drop start line i 0 in
    ne_eqb (get_or (take (at - start) (drop start line)) i 0) 32 (λ e. reached.plain (start + i) (omega arith) (omega (arith, small)) (sym is ∙ e)))

-- a byte that is no space is read
pub reached_byte : (line : List ℕ) (words : List (List ℕ)) (start at : ℕ) → get_or line at 0 ≢ 32 → Reached line words start at
    → Reached line words start (at + 1)
reached_byte line words start at other reached = grind (arith, common_steps, cases_lt)

-- a space is read, and the piece before it is pushed
pub reached_space : (line : List ℕ) (words more : List (List ℕ)) (start at : ℕ) → IsUtf8 line → at < length line → get_or line at 0 ≡ 32
    → Reached line words start at
    → ((before : List (List ℕ)) → words ≡ take 9 before → more ≡ take 9 (with_piece before (take (at - start) (drop start line))))
    → Reached line more (at + 1) (at + 1)
reached_space line words more start at utf8 within space reached pushed =
    let piece = take (at - start) (drop start line) in
    let to : start + (at - start) ≡ at = omega (arith, reached.ordered) in
    let next : suc at ≡ at + 1 = omega arith in
    let rest : drop (at - start) (drop start line) ≡ 32 ∷ drop (at + 1) line =
    drop-drop (at - start) start line ∙ ap (λ n. drop n line) to ∙ drop-cons line at 0 within ∙ ap (λ byte. byte ∷ drop (suc at) line) space ∙ ap (λ n. 32 ∷ drop n line) next in
    let whole : drop start line ≡ piece ++ 32 ∷ drop (at + 1) line = sym (take-append-drop (at - start) (drop start line)) ∙ ap (λ l. piece ++ l) rest in
    record {
      before = with_piece reached.before piece;
      taken = pushed reached.before reached.taken;
      whole = sym (next_piece reached.before piece (drop (at + 1) line) (plain_piece line words start at reached)) ∙ ap (λ l. reached.before ++ words_of l) (sym whole) ∙ reached.whole;
      ordered = omega arith;
      plain = λ k from to. absurd (omega (arith, from, to));
      cut = λ some. IsCharBoundary-after_ascii line at utf8 within (rw space (lit< tt));
    }

-- the last piece is pushed
pub reached_end : (line : List ℕ) (words more : List (List ℕ)) (start at : ℕ) → at ≡ length line
    → Reached line words start at
    → ((before : List (List ℕ)) → words ≡ take 9 before → more ≡ take 9 (with_piece before (drop start line))) → more ≡ take 9 (words_of line)
reached_end line words more start at all reached pushed =
    let piece : take (at - start) (drop start line) ≡ drop start line = take_all (at - start) (drop start line) (omega (arith, all, length-drop start line)) in
    let plain = subst IsPlain piece (plain_piece line words start at reached) in
    pushed reached.before reached.taken ∙ ap (take 9) (sym (last_piece reached.before (drop start line) plain) ∙ reached.whole)

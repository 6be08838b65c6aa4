-- The lines of a text, and what they come to: for `HistoryCheck::end_line`, `grow`, `end` and others.
use Rattle.std.proofs.Common.{◌≡◌, ◌<◌, ◌≤◌, ℕ, ◌+◌, ◌==◌, true, false, nat_lt, List, [], ◌∷◌, ◌++◌, Ok, Err, length, refl, sym, ap, subst, ◌∙◌, inl, inr, arith, append_assoc, append-nil, length-append}
use Rattle.std.specs.List.{slice_split}
use Rattle.std.proofs.lemmas.Bool.{le-ltb, lt-ltb}
use Rattle.std.proofs.lemmas.Bool.Decides.{eqb_tells}
use Rattle.std.proofs.lemmas.List.Elements.{All-push}
use Rattle.std.proofs.lemmas.List.Splits.{slice_split_none, slice_split_at}
use Rattle.script_core.specs.declared.script.Cause.TheVariants.{TooLong}
use Rattle.script_core.specs.Words.{line_limit, without_empty_end}
use Rattle.history_text.specs.declared.line.HistoryLine.{HistoryLine as TextLine}
use Rattle.history_text.specs.HistoryReading.{LineGives}
use Rattle.history_judge.specs.Histories.{IsLegal}
use Rattle.history_check.specs.declared.judging.Judging.{Judging}
use Rattle.history_check.specs.Told.{InLine}
use Rattle.history_check.specs.Verdicts.{BytesCome, Extent, Faulty, Front, LinesCome, Verdict, Whole, ended, history_of, lines_told, requested_after, without_open_end}
use Rattle.history_check.specs.Checked.{AreDecided, LeadsTo}

-- ---- lines

-- what is split has a piece
piece_first : (bytes : List ℕ) → (piece : List ℕ) × (pieces : List (List ℕ)) × (slice_split (λ byte. byte == 10) bytes ≡ piece ∷ pieces)
piece_first [] = ([], [], refl)
piece_first (byte ∷ bytes) =
    let rest = piece_first bytes in
    elim (eqb_tells byte 10) [
      | inl ends ↦ ([], slice_split (λ b. b == 10) bytes, rw ends.0 refl)
      | inr goes ↦ (byte ∷ rest.0, rest.1, rw (goes.0, rest.2) refl)
    ]

keeps_first : (extent : Extent) (line piece : List ℕ) (pieces : List (List ℕ)) → ended extent (line ∷ piece ∷ pieces) ≡ line ∷ ended extent (piece ∷ pieces)
keeps_first Whole [] piece pieces = refl
keeps_first Whole (byte ∷ line) piece pieces = refl
keeps_first Front line piece pieces = refl

-- a line that a line feed ends is the first
pub lines_first : (extent : Extent) (line rest : List ℕ) → InLine line → lines_told extent (line ++ 10 ∷ rest) ≡ line ∷ lines_told extent rest
lines_first extent line rest on =
    let next = piece_first rest in
    let split = slice_split_at (λ (byte : ℕ). byte == 10) line 10 rest on refl in
    ap (ended extent) (split ∙ ap (λ (l : List (List ℕ)). line ∷ l) next.2)
    ∙ keeps_first extent line next.0 next.1 ∙ ap (λ (l : List (List ℕ)). line ∷ ended extent l) (sym next.2)

keeps_only : (line : List ℕ) → 0 < length line → without_empty_end (line ∷ []) ≡ line ∷ []
keeps_only [] some = absurd (omega (arith, some))
keeps_only (byte ∷ line) some = refl

-- a line that nothing ends is the only one of the whole, where it isn't empty
pub only_line : (line : List ℕ) → InLine line → 0 < length line → lines_told Whole line ≡ line ∷ []
only_line line on some = ap without_empty_end (slice_split_none (λ (byte : ℕ). byte == 10) line on) ∙ keeps_only line some

keeps_long : (line : List ℕ) → nat_lt line_limit (length line) ≡ true → without_open_end (line ∷ []) ≡ line ∷ []
keeps_long line long = rw long refl

keeps_no_short : (line : List ℕ) → nat_lt line_limit (length line) ≡ false → without_open_end (line ∷ []) ≡ []
keeps_no_short line short = rw short refl

-- and of a front, where it is too long
only_long : (extent : Extent) (line : List ℕ) → InLine line → line_limit < length line → lines_told extent line ≡ line ∷ []
only_long Whole line on long = only_line line on (omega (arith, long))
only_long Front line on long =
    ap without_open_end (slice_split_none (λ (byte : ℕ). byte == 10) line on) ∙ keeps_long line (lt-ltb line_limit (length line) long)

-- and it isn't told of where it isn't
pub no_line : (line : List ℕ) → InLine line → length line ≤ line_limit → lines_told Front line ≡ []
no_line line on short =
    ap without_open_end (slice_split_none (λ (byte : ℕ). byte == 10) line on) ∙ keeps_no_short line (le-ltb line_limit (length line) short)

-- behind bytes that don't end it the first line begins with these, where they are too many
long_begins : (extent : Extent) (line rest : List ℕ) → InLine line → line_limit < length line
    → (more : List ℕ) × (others : List (List ℕ)) × (lines_told extent (line ++ rest) ≡ (line ++ more) ∷ others)
long_begins extent line [] on long = (
  [],
  [],
  ap (lines_told extent) (append-nil line) ∙ only_long extent line on long ∙ ap (λ (l : List ℕ). l ∷ []) (sym (append-nil line)),
)
long_begins extent line (byte ∷ rest) on long = elim (eqb_tells byte 10) [
  | inl ends ↦ (
    [],
    lines_told extent rest,
    ap (λ (b : ℕ). lines_told extent (line ++ b ∷ rest)) ends.1 ∙ lines_first extent line rest on
        ∙ ap (λ (l : List ℕ). l ∷ lines_told extent rest) (sym (append-nil line)),
  )
  | inr goes ↦
      let longer : line_limit < length (line ++ byte ∷ []) = let is = length-append line (byte ∷ []) in omega (arith, long, is) in
      let found = long_begins extent (line ++ byte ∷ []) rest (All-push (λ (b : ℕ). (b == 10) ≡ false) line byte on goes.0) longer in (
        byte ∷ found.0,
        found.1,
        ap (lines_told extent) (sym (append_assoc line (byte ∷ []) rest)) ∙ found.2
            ∙ ap (λ (l : List ℕ). l ∷ found.1) (append_assoc line (byte ∷ []) found.0),
      )
]

-- ---- what lines come to

-- behind bytes with one more
behind_one : (judging : Judging) (extent : Extent) (bytes rest : List ℕ) (byte : ℕ) (verdict : Verdict)
    → BytesCome judging extent (bytes ++ byte ∷ rest) verdict → BytesCome judging extent ((bytes ++ byte ∷ []) ++ rest) verdict
behind_one judging extent bytes rest byte verdict come =
    subst (λ (l : List ℕ). BytesCome judging extent l verdict) (sym (append_assoc bytes (byte ∷ []) rest)) come

-- the line at hand ends, and is the first of these
at_end_of_line : (judging : Judging) (bytes line : List ℕ) (before : List TextLine) (extent : Extent) (rest : List ℕ) (verdict : Verdict) → InLine line
    → LeadsTo judging bytes before line → LinesCome judging extent before (line ∷ lines_told extent rest) verdict
    → BytesCome judging extent ((bytes ++ 10 ∷ []) ++ rest) verdict
at_end_of_line judging bytes line before extent rest verdict on leads come =
    behind_one judging extent bytes rest 10 verdict
    (leads extent (10 ∷ rest) verdict
    (subst (λ (ls : List (List ℕ)). LinesCome judging extent before ls verdict) (sym (lines_first extent line rest on)) come))

-- the line that is read leads on
pub line_read : (judging : Judging) (bytes line : List ℕ) (before : List TextLine) (said : TextLine) → InLine line → LeadsTo judging bytes before line
    → LineGives (requested_after before) line (Ok said) → IsLegal judging.runs (history_of (before ++ said ∷ []))
    → LeadsTo judging (bytes ++ 10 ∷ []) (before ++ said ∷ []) []
line_read judging bytes line before said on leads gives legal = λ extent rest verdict come.
    at_end_of_line judging bytes line before extent rest verdict on leads (Ok said, gives, inl (legal, come))

-- what the line that ends comes to decides
pub line_decides : (judging : Judging) (bytes line : List ℕ) (before : List TextLine) (verdict : Verdict) → InLine line → LeadsTo judging bytes before line
    → ((extent : Extent) (others : List (List ℕ)) → LinesCome judging extent before (line ∷ others) verdict)
    → AreDecided judging (bytes ++ 10 ∷ []) verdict
line_decides judging bytes line before verdict on leads come = λ extent rest.
    at_end_of_line judging bytes line before extent rest verdict on leads (come extent (lines_told extent rest))

-- the line grows
pub line_grows : (judging : Judging) (bytes line : List ℕ) (byte : ℕ) (before : List TextLine) → LeadsTo judging bytes before line
    → LeadsTo judging (bytes ++ byte ∷ []) before (line ++ byte ∷ [])
line_grows judging bytes line byte before leads = λ extent rest verdict come.
    behind_one judging extent bytes rest byte verdict
    (leads extent (byte ∷ rest) verdict
    (subst (λ (l : List ℕ). LinesCome judging extent before (lines_told extent l) verdict) (append_assoc line (byte ∷ []) rest) come))

long_line : (judging : Judging) (extent : Extent) (before : List TextLine) (line : List ℕ) (others : List (List ℕ)) → line_limit < length line
    → LinesCome judging extent before (line ∷ others) (Faulty (record { line = length before + 1; cause = TooLong }))
long_line judging extent before line others long =
    let is : nat_lt line_limit (length line) ≡ true = lt-ltb line_limit (length line) long in
    (Err TooLong, rw is refl, refl)

-- or it is too long then, whatever follows
pub line_too_long : (judging : Judging) (bytes line : List ℕ) (byte : ℕ) (before : List TextLine) → InLine line → (byte == 10) ≡ false
    → line_limit ≤ length line → LeadsTo judging bytes before line
    → AreDecided judging (bytes ++ byte ∷ []) (Faulty (record { line = length before + 1; cause = TooLong }))
line_too_long judging bytes line byte before on goes long leads = λ extent rest.
    let is = length-append line (byte ∷ []) in
    let longer : line_limit < length (line ++ byte ∷ []) = omega (arith, is, long) in
    let first = long_begins extent (line ++ byte ∷ []) rest (All-push (λ (b : ℕ). (b == 10) ≡ false) line byte on goes) longer in
    let more = length-append (line ++ byte ∷ []) first.0 in
    let longest : line_limit < length ((line ++ byte ∷ []) ++ first.0) = omega (arith, longer, more) in
    line_grows judging bytes line byte before leads extent rest _
    (subst (λ (ls : List (List ℕ)). LinesCome judging extent before ls (Faulty (record { line = length before + 1; cause = TooLong }))) (sym first.2)
    (long_line judging extent before ((line ++ byte ∷ []) ++ first.0) first.1 longest))

-- what was decided stays
pub still_decided : (judging : Judging) (bytes more : List ℕ) (verdict : Verdict) → AreDecided judging bytes verdict → AreDecided judging (bytes ++ more) verdict
still_decided judging bytes more verdict decided = λ extent rest.
    subst (λ (l : List ℕ). BytesCome judging extent l verdict) (sym (append_assoc bytes more rest)) (decided extent (more ++ rest))

-- the bytes come to what the line at hand comes to as the last one
pub last_leads : (judging : Judging) (bytes line : List ℕ) (before : List TextLine) (verdict : Verdict) → InLine line → 0 < length line
    → LeadsTo judging bytes before line → LinesCome judging Whole before (line ∷ []) verdict → BytesCome judging Whole bytes verdict
last_leads judging bytes line before verdict on some leads come =
    subst (λ (l : List ℕ). BytesCome judging Whole l verdict) (append-nil bytes)
    (leads Whole [] verdict
    (subst (λ (ls : List (List ℕ)). LinesCome judging Whole before ls verdict) (sym (ap (lines_told Whole) (append-nil line) ∙ only_line line on some)) come))

-- or to what their end comes to, where no byte is at hand
pub end_leads : (judging : Judging) (bytes line : List ℕ) (before : List TextLine) (verdict : Verdict) → line ≡ [] → LeadsTo judging bytes before line
    → LinesCome judging Whole before [] verdict → BytesCome judging Whole bytes verdict
end_leads judging bytes line before verdict none leads come =
    subst (λ (l : List ℕ). BytesCome judging Whole l verdict) (append-nil bytes)
    (leads Whole [] verdict
    (subst (λ (l : List ℕ). LinesCome judging Whole before (lines_told Whole (l ++ [])) verdict) (sym none) come))

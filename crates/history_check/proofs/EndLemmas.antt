-- What bytes come to, by what their lines come to: for `HistoryCheck::is_decided` and `HistoryCheck::end`.
use Rattle.std.proofs.Common.{◌≡◌, ◌<◌, ◌≤◌, ℕ, ◌+◌, ◌-◌, true, false, nat_lt, Bool, List, [], ◌∷◌, ◌++◌, length, take, refl, sym, ap, subst, ◌∙◌, arith, append_assoc, append-nil, length-append}
use Rattle.std.proofs.Math.Seq.{take-append-add, take-append_seam}
use Rattle.std.proofs.lemmas.Bool.{le-ltb, lt-ltb, ltb-true}
use Rattle.script_core.specs.Words.{line_limit}
use Rattle.history_text.specs.declared.line.HistoryLine.{HistoryLine as TextLine}
use Rattle.history_check.specs.declared.judging.Judging.{Judging}
use Rattle.history_check.specs.Told.{InLine}
use Rattle.history_check.specs.Verdicts.{AreJudged, BytesCome, Front, HistoryComes, LinesCome, Verdict, Whole, history_limit, lines_told, too_long}
use Rattle.history_check.specs.Checked.{AreDecided, LeadsTo}
use Rattle.history_check.proofs.LineLemmas.{no_line}

-- a text that isn't too long comes to what it comes to as a whole
pub comes_whole : (judging : Judging) (bytes : List ℕ) (verdict : Verdict) → length bytes ≤ history_limit → BytesCome judging Whole bytes verdict
    → HistoryComes judging bytes verdict
comes_whole judging bytes verdict short come = let is = le-ltb history_limit (length bytes) short in rw is come

-- one that is to what its front comes to
comes_front : (judging : Judging) (bytes : List ℕ) (verdict : Verdict) → history_limit < length bytes
    → BytesCome judging Front (take history_limit bytes) verdict → HistoryComes judging bytes verdict
comes_front judging bytes verdict long come = let is = lt-ltb history_limit (length bytes) long in rw is come

take_more_than : (n : ℕ) (bytes rest : List ℕ) → length bytes ≤ n → take n (bytes ++ rest) ≡ bytes ++ take (n - length bytes) rest
take_more_than n bytes rest short =
    let is : n ≡ length bytes + (n - length bytes) = omega (arith, short) in
    ap (λ (m : ℕ). take m (bytes ++ rest)) is ∙ take-append-add bytes rest (n - length bytes)

decided_where : (judging : Judging) (bytes rest : List ℕ) (verdict : Verdict) (is_long : Bool) → nat_lt history_limit (length (bytes ++ rest)) ≡ is_long
    → length bytes ≤ history_limit → AreDecided judging bytes verdict → HistoryComes judging (bytes ++ rest) verdict
decided_where judging bytes rest verdict true long short decided =
    comes_front judging (bytes ++ rest) verdict (ltb-true history_limit (length (bytes ++ rest)) long)
    (subst (λ (l : List ℕ). BytesCome judging Front l verdict) (sym (take_more_than history_limit bytes rest short))
    (decided Front (take (history_limit - length bytes) rest)))
decided_where judging bytes rest verdict false fits short decided =
    rw fits (decided Whole rest)

-- what decides the lines decides what the bytes come to
pub decided_all : (judging : Judging) (bytes : List ℕ) (verdict : Verdict) → length bytes ≤ history_limit → AreDecided judging bytes verdict
    → AreJudged judging bytes verdict
decided_all judging bytes verdict short decided = λ rest.
    decided_where judging bytes rest verdict (nat_lt history_limit (length (bytes ++ rest))) refl short decided

-- where nothing was found of as many bytes as a history may have, one more makes it too long
pub one_too_many : (judging : Judging) (bytes line : List ℕ) (byte : ℕ) (before : List TextLine) → length bytes ≡ history_limit
    → InLine line → length line ≤ line_limit → LeadsTo judging bytes before line → AreJudged judging (bytes ++ byte ∷ []) too_long
one_too_many judging bytes line byte before full on short leads = λ rest.
    let all = (bytes ++ byte ∷ []) ++ rest in
    let again = append_assoc bytes (byte ∷ []) rest in
    let count = length-append bytes (byte ∷ rest) in
    let long : history_limit < length (bytes ++ byte ∷ rest) = omega (arith, full, count) in
    let front : take history_limit (bytes ++ byte ∷ rest) ≡ bytes =
    ap (λ (n : ℕ). take n (bytes ++ byte ∷ rest)) (sym full) ∙ take-append_seam bytes (byte ∷ rest) in
    subst (λ (l : List ℕ). HistoryComes judging l too_long) (sym again)
    (comes_front judging (bytes ++ byte ∷ rest) too_long long
    (subst (λ (l : List ℕ). BytesCome judging Front l too_long) (sym (front ∙ sym (append-nil bytes)))
    (leads Front [] too_long
    (subst (λ (ls : List (List ℕ)). LinesCome judging Front before ls too_long)
    (sym (ap (lines_told Front) (append-nil line) ∙ no_line line on short)) refl))))

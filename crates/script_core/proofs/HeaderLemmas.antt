-- No process is spelled as the word of a header line, and header lines change nothing else: for `headers_change_nothing_else`.
use Rattle.std.proofs.lemmas.Bool.{or_parts}
use Rattle.script_core.proofs.FirstWordsLemmas.{MatchBool-map}
use Rattle.script_core.proofs.Common.{common_steps, ◌≡◌, ℕ, ◌+◌, ◌<◌, ◌^◌, ◌⊎◌, Bool, true, false, List, [], ◌∷◌, ◌++◌, get_or, codes, decimal, Result, Ok, Err, MatchBool, IfSome, slice_get, zero, suc, inl, inr, refl, sym, ap, subst, arith, lit<, Limits, Small, Request, Line, Cause, ScriptFault, lines_of, words_of, Meaning, Reading, Reads, LinesGive, LineGives, WordsGive, ProcessGives, ArrivalGives, is_comment}
use Rattle.std.proofs.Common.{is_ok}
use Rattle.std.specs.Bool.{IsFalse}
use Rattle.std.specs.Str.{bytes_eq}
use Rattle.script_core.specs.declared.line.Line.TheVariants as lines
use Rattle.script_core.specs.HeaderReading.{no_header}
use Rattle.script_core.specs.WithoutHeaders.{PlainReads, PlainLinesGive, PlainLineGives, PlainWordsGive, HeadersChangeNothingElse, is_header, plain_rules}
use Rattle.script_core.proofs.NumberLemmas.{BeginsPlainly-decimal}
use Rattle.script_core.proofs.ArgumentLemmas.{not_named}
use Rattle.script_core.proofs.ReadingLemmas.{small_process}

-- a number isn't spelled with a letter
pub not_spelled : (p : ℕ) (word : List ℕ) → p < 2 ^ 64 → 57 < get_or word 0 0 → bytes_eq (decimal p) word ≡ false
not_spelled p word small letter = grind (arith, common_steps, not_named, BeginsPlainly-decimal)

-- header lines begin with other words
abbrev IsNoHeaderWord : List ℕ → Type 0
IsNoHeaderWord word = (bytes_eq word (codes "policy") ≡ false) × (bytes_eq word (codes "limits") ≡ false)

pub IsNoHeaderWord-decimal : (p : ℕ) → p < 2 ^ 64 → (bytes_eq (decimal p) (codes "policy") ≡ false) × (bytes_eq (decimal p) (codes "limits") ≡ false)
IsNoHeaderWord-decimal p small = (not_spelled p (codes "policy") small (lit< tt), not_spelled p (codes "limits") small (lit< tt))

-- nothing but these arrivals was read
abbrev reading_of : List (ℕ × Request) → Reading
reading_of arrivals = record { header = no_header; arrivals = arrivals }

-- the meaning of these arrivals, or the fault
told : Result (List (ℕ × Request)) ScriptFault → Result Meaning ScriptFault
told (Ok arrivals) = Ok (record { rules = plain_rules; arrivals = arrivals })
told (Err fault) = Err fault

-- no header line
IsPlain : Result Line Cause → Type 0
IsPlain (Ok lines.Skipped) = Unit {0}
IsPlain (Ok (lines.Header header)) = ⊥
IsPlain (Ok (lines.Arrival p request)) = Unit {0}
IsPlain (Err cause) = Unit {0}

-- a choice by a test, each side passed on
pub MatchBool-join : (test : Bool) (P Q R : Type 0) → (P → R) → (Q → R) → MatchBool test P Q → R
MatchBool-join test P Q R f g h = grind (arith, common_steps)

plain_by : (expected result : Result Line Cause) → IsPlain expected → result ≡ expected → IsPlain result
plain_by expected result is e = subst IsPlain (sym e) is

plain_arrival : (p : ℕ) (next : Result Request Cause) (result : Result Line Cause) → ArrivalGives p next result → IsPlain result
unfolding IsPlain
plain_arrival p next result is = grind (arith, common_steps, plain_by)

plain_process : (limits : Limits) (first : List ℕ) (rest : List (List ℕ)) (result : Result Line Cause) → ProcessGives limits first rest result → IsPlain result
unfolding IsPlain
plain_process limits first rest result h = grind (arith, common_steps, plain_arrival, plain_by)

plain_words : (words : List (List ℕ)) (result : Result Line Cause) → PlainWordsGive words result → IsPlain result
unfolding IsPlain
plain_words words result h = grind (arith, common_steps, plain_by, MatchBool-join, IsPlain, plain_process)

plain_line : (line : List ℕ) (result : Result Line Cause) → PlainLineGives line result → IsPlain result
unfolding IsPlain
plain_line line result gives = grind (arith, common_steps, MatchBool-join, IsPlain, plain_by, plain_words)

-- the line is accepted, or doesn't begin as a header line does
abbrev IsSame : List (List ℕ) → Result Line Cause → Type 0
IsSame words result = (is_ok result ≡ true) ⊎ IsFalse (is_header words)

accepted_word : (limits : Limits) (first : List ℕ) (rest : List (List ℕ)) (result : Result Line Cause) → is_ok result ≡ true
    → ProcessGives limits first rest result → IsNoHeaderWord first
accepted_word limits first rest result ok (inl arrival) =
    subst IsNoHeaderWord (sym arrival.2) (IsNoHeaderWord-decimal arrival.0 (small_process limits arrival.0 arrival.1))
accepted_word limits first rest result ok (inr fault) = absurd (let refused : is_ok result ≡ false = ap is_ok fault.1 in cc)

no_header_word : (first : List ℕ) (rest : List (List ℕ)) (result : Result Line Cause) → IsSame (first ∷ rest) result
    → ProcessGives Small first rest result → IsNoHeaderWord first
no_header_word first rest result (inl ok) gives = accepted_word Small first rest result ok gives
no_header_word first rest result (inr none) gives = or_parts (bytes_eq first (codes "policy")) (bytes_eq first (codes "limits")) none

words_same : (arrivals : List (ℕ × Request)) (words : List (List ℕ)) (result : Result Line Cause) → IsSame words result → PlainWordsGive words result
    → WordsGive (reading_of arrivals) words result
words_same arrivals [] result same gives = gives
words_same arrivals (first ∷ rest) result same gives =
    MatchBool-map (is_comment first) _ _ _ _ (λ skipped. skipped)
    (λ process. let none = no_header_word first rest result same process in rw (none.0, none.1) process) gives

line_same : (arrivals : List (ℕ × Request)) (line : List ℕ) (result : Result Line Cause) → IsSame (words_of line) result → PlainLineGives line result
    → LineGives (reading_of arrivals) line result
line_same arrivals line result same gives = grind (arith, common_steps, MatchBool-map, words_same)

-- the lines from this number on are accepted, or the faulty one doesn't begin as a header line does
abbrev AreSame : ℕ → List (List ℕ) → Result (List (ℕ × Request)) ScriptFault → Type 0
AreSame number lines result =
    (is_ok result ≡ true)
    ⊎ ((fault : ScriptFault) (place : ℕ) → result ≡ Err fault → fault.line ≡ number + place
    → IfSome (slice_get lines place) (λ line. IsFalse (is_header (words_of line))))

same_rest : (number : ℕ) (line : List ℕ) (rest : List (List ℕ)) (result : Result (List (ℕ × Request)) ScriptFault)
    → AreSame number (line ∷ rest) result → AreSame (number + 1) rest result
same_rest number line rest result (inl ok) = inl ok
same_rest number line rest result (inr none) = inr (λ fault place is at. none fault (suc place) is (omega arith))

same_fault : (number : ℕ) (line : List ℕ) (rest : List (List ℕ)) (result : Result (List (ℕ × Request)) ScriptFault) (cause : Cause)
    → AreSame number (line ∷ rest) result → result ≡ Err (record { line = number; cause = cause }) → IsSame (words_of line) (Err cause)
same_fault number line rest result cause (inl ok) is = absurd (let refused : is_ok result ≡ false = ap is_ok is in cc)
same_fault number line rest result cause (inr none) is = inr (none (record { line = number; cause = cause }) zero is (omega arith))

lines_same : (number : ℕ) (arrivals : List (ℕ × Request)) (lines : List (List ℕ)) (result : Result (List (ℕ × Request)) ScriptFault)
    → AreSame number lines result → PlainLinesGive number arrivals lines result → LinesGive number (reading_of arrivals) lines (told result)
unfolding told IsPlain
lines_same number arrivals [] result same gives = ap told gives
lines_same number arrivals (line ∷ rest) result same (Ok lines.Skipped, gives, more) =
    (Ok lines.Skipped, line_same arrivals line (Ok lines.Skipped) (inl refl) gives, lines_same (number + 1) arrivals rest result (same_rest number line rest result same) more)
lines_same number arrivals (line ∷ rest) result same (Ok (lines.Header header), gives, more) = absurd (plain_line line (Ok (lines.Header header)) gives)
lines_same number arrivals (line ∷ rest) result same (Ok (lines.Arrival p request), gives, more) = (
  Ok (lines.Arrival p request),
  line_same arrivals line (Ok (lines.Arrival p request)) (inl refl) gives,
  lines_same (number + 1) (arrivals ++ (p, request) ∷ []) rest result (same_rest number line rest result same) more,
)
lines_same number arrivals (line ∷ rest) result same (Err cause, gives, more) =
    (Err cause, line_same arrivals line (Err cause) (same_fault number line rest result cause same more) gives, ap told more)

reads_same : (bytes : List ℕ) (result : Result (List (ℕ × Request)) ScriptFault) → AreSame 1 (lines_of bytes) result → PlainReads bytes result
    → Reads bytes (told result)
unfolding told
reads_same bytes result same reads = grind (arith, common_steps, MatchBool-map, told, lines_same)

-- header lines change nothing else
pub headers_only : HeadersChangeNothingElse
unfolding told
headers_only = grind (arith, common_steps, reads_same)

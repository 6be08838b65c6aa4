-- The lines of a script, of which a front was read: for `ScriptReader` and `parse`.
use Rattle.script_core.proofs.Common.{common_steps, ◌≡◌, ℕ, Option, ◌+◌, ◌<◌, ◌≤◌, ◌==◌, List, [], ◌∷◌, ◌++◌, length, take, drop, Some, None, IfSome, Result, Ok, Err, Bool, false, cond, All, MatchBool, inl, inr, refl, sym, ap, subst, arith, length-append, slice_split, onto_first, le-ltb, slice_split_none}
use Rattle.script_core.proofs.Common.{Request, Line, Cause, TooLong, ScriptFault, Header, Meaning, without_empty_end, lines_of, script_limit, Reading, LineGives, LinesGive, IsOfScript, Reads, reading_after, reading_of}
use Rattle.std.proofs.Common.{position}
use Rattle.std.proofs.lemmas.List.Splits.{slice_split_first}
use Rattle.std.proofs.lemmas.List.Sums.{fails_before_first, position_or_len_is}
use Rattle.memchr.specs.Find.{IsFirstByte}
use Rattle.script_core.specs.declared.line.Line.TheVariants as lines
use Rattle.script_core.specs.Reading.{IsArrival, ComesTo, IsAtHand, start}
use Rattle.script_core.specs.ScriptView.{IsReadUpTo, arrival_of}
use Rattle.script_core.proofs.FaultLemmas.{never_memory}

-- there is always a first piece
record HasFirst (parts : List (List ℕ)) : Type 0 where
  first : List ℕ
  rest : List (List ℕ)
  is : parts ≡ first ∷ rest

HasFirst-cons : (test : Bool) (byte : ℕ) (parts : List (List ℕ)) → HasFirst parts → HasFirst (cond test ([] ∷ parts) (onto_first byte parts))
HasFirst-cons test byte parts given = grind (arith, common_steps)

HasFirst-slice_split : (bytes : List ℕ) → HasFirst (slice_split (λ byte. byte == 10) bytes)
HasFirst-slice_split [] = record { first = []; rest = []; is = refl }
HasFirst-slice_split (byte ∷ bytes) = HasFirst-cons (byte == 10) byte (slice_split (λ byte. byte == 10) bytes) (HasFirst-slice_split bytes)

-- a first piece with others behind it is a line
without_end-more : (line : List ℕ) (parts : List (List ℕ)) → HasFirst parts → without_empty_end (line ∷ parts) ≡ line ∷ without_empty_end parts
without_end-more line parts given = grind (arith, common_steps)

-- where a search finds the first byte that passes
pub found_first : (test : ℕ → Bool) (bytes : List ℕ) (found : Option ℕ) → IsFirstByte test bytes found → found ≡ position test bytes
found_first test bytes None h = grind (arith, common_steps, position_or_len_is test bytes (length bytes) 0)
found_first test bytes (Some at) h = grind (arith, common_steps, position_or_len_is test bytes at 0)

-- the first line feed ends the first line
pub lines_cut : (bytes : List ℕ) (end : ℕ) → position (λ byte. byte == 10) bytes ≡ Some end
    → lines_of bytes ≡ take end bytes ∷ lines_of (drop (end + 1) bytes)
lines_cut bytes end is = grind (arith, common_steps, slice_split_first, without_end-more, HasFirst-slice_split)

no_feed : (bytes : List ℕ) → position (λ byte. byte == 10) bytes ≡ None → All (λ byte. (byte == 10) ≡ false) bytes
no_feed bytes is = grind (arith, common_steps, fails_before_first)

-- without one all bytes are the last line
pub lines_last : (bytes : List ℕ) → 0 < length bytes → position (λ byte. byte == 10) bytes ≡ None → lines_of bytes ≡ bytes ∷ []
lines_last bytes some is = grind (arith, common_steps, slice_split_none, no_feed)

-- a script that isn't too long says what its lines say
reads_lines : (bytes : List ℕ) (result : Result Meaning ScriptFault) → length bytes ≤ script_limit → LinesGive 1 start (lines_of bytes) result → Reads bytes result
reads_lines bytes result short given =
    subst (λ test. MatchBool test (result ≡ Err (record { line = 0; cause = TooLong })) (LinesGive 1 start (lines_of bytes) result)) (sym (le-ltb script_limit (length bytes) short)) given

-- the fault of the next line is that of the script
pub fault_next : (bytes rest more : List ℕ) (count : ℕ) (line : List ℕ) (header : Header) (at_top : Bool) (arrivals : List (ℕ × Request)) (cause : Cause)
    → IsReadUpTo bytes count header at_top arrivals rest → lines_of rest ≡ line ∷ lines_of more → LineGives (reading_of header arrivals) line (Err cause)
    → Reads bytes (Err (record { line = count + 1; cause = cause })) × IsOfScript cause
fault_next bytes rest more count line header at_top arrivals cause before cut gives = (
  reads_lines bytes _ before.fits (before.goes_on _ (rw cut (Err cause, gives, refl))),
  never_memory (reading_of header arrivals) line cause gives,
)

-- the line at hand is one of those that there are
comes_within : (number : ℕ) (reading : Reading) (lines : List (List ℕ)) (at_hand : ℕ) → ComesTo number reading lines at_hand → at_hand < number + length lines
comes_within number reading [] at_hand none = absurd none
comes_within number reading (line ∷ lines) at_hand (said, gives, inl here) = let same = here.0 in omega (arith, same)
comes_within number reading (line ∷ lines) at_hand (said, gives, inr later) =
    let rest = comes_within (number + 1) (reading_after reading said) lines at_hand later in omega (arith, rest)

-- an arrival stands in the line at hand
pub at_hand_next : (bytes rest more : List ℕ) (count : ℕ) (line : List ℕ) (header : Header) (at_top : Bool) (arrivals : List (ℕ × Request)) (said : Line)
    → IsReadUpTo bytes count header at_top arrivals rest → lines_of rest ≡ line ∷ lines_of more → LineGives (reading_of header arrivals) line (Ok said)
    → IsArrival said → IsAtHand bytes (count + 1)
at_hand_next bytes rest more count line header at_top arrivals said before cut gives arrival =
    let read = before.comes (count + 1) (rw cut (said, gives, inl (refl, arrival))) in
    let within = comes_within 1 start (lines_of bytes) (count + 1) read in
    record { fits = before.fits; read = read; within = omega (arith, within) }

-- what holds of each arrival holds of that of a line, if it is one
pub some_arrival : (said : Line) (P : ℕ × Request → Type 0) → ((p : ℕ) (request : Request) → said ≡ lines.Arrival p request → P (p, request))
    → IfSome (arrival_of said) P
some_arrival lines.Skipped P each = tt
some_arrival (lines.Header header) P each = tt
some_arrival (lines.Arrival p request) P each = each p request refl

-- there is something where an arrival stands behind others
pub some_behind : (arrivals : List (ℕ × Request)) (arrival : ℕ × Request) → ¬ (arrivals ++ arrival ∷ [] ≡ [])
some_behind arrivals arrival none = let many = ap length none in omega (arith, many, length-append arrivals (arrival ∷ []))

-- The arrivals of a script: their lines take no more bytes than it has, and each has seven with its line feed: for `outputs_are_short`.
use Rattle.script_core.proofs.Common.{common_steps, ◌≡◌, ℕ, ◌+◌, ◌*◌, ◌≤◌, Bool, List, [], ◌∷◌, ◌++◌, length, filter, Ok, Err, ap, arith, slice_split, onto_first, recursion_from_All, Limits, Request, Line, request_words, Meaning, IsWritable, Says, without_empty_end, words_of, script_limit, Reading, LineGives, LinesGive, Reads, limits_of, reading_after}
use Rattle.std.specs.List.{AllByRecursion as Each}
use Rattle.std.proofs.lemmas.Bool.{ltb-false}
use Rattle.std.proofs.lemmas.List.Splits.{length-slice_split}
use Rattle.script_core.specs.declared.line.Line.TheVariants as lines
use Rattle.script_core.proofs.RoundTripLemmas.{more_length, IsWord-process, IsWord-descriptor}
use Rattle.script_core.proofs.ProcessLemmas.{IsArrivalOf, accepted, success, arrival_said, arrivals_read}

-- ---- pieces

-- a byte more of the first piece is one more of all
onto_length : (byte : ℕ) (pieces : List (List ℕ)) → 1 ≤ length pieces → more_length (onto_first byte pieces) ≡ more_length pieces + 1
unfolding more_length
onto_length byte pieces some = grind (arith, common_steps)

-- pieces, each with a byte more, have one more than what was cut
split_length : (test : ℕ → Bool) (bytes : List ℕ) → more_length (slice_split test bytes) ≡ length bytes + 1
unfolding more_length
split_length test [] = omega arith
split_length test (byte ∷ bytes) = grind (arith, common_steps, length-slice_split, onto_length, more_length, split_length test bytes)

-- some of the words have no more bytes than all
filter_length : (test : List ℕ → Bool) (words : List (List ℕ)) → more_length (filter test words) ≤ more_length words
unfolding more_length
filter_length test [] = omega arith
filter_length test (word ∷ words) = grind (arith, common_steps, more_length, filter_length test words)

-- nor have the pieces without an empty end
without_end_length : (pieces : List (List ℕ)) → more_length (without_empty_end pieces) ≤ more_length pieces
unfolding more_length
without_end_length [] = omega arith
without_end_length ([] ∷ []) = omega arith
without_end_length ((byte ∷ bytes) ∷ []) = omega arith
without_end_length ([] ∷ next ∷ pieces) = let rest = without_end_length (next ∷ pieces) in omega (arith, rest)
without_end_length ((byte ∷ bytes) ∷ next ∷ pieces) = let rest = without_end_length (next ∷ pieces) in omega (arith, rest)

-- the words of two lists
both_length : (words more : List (List ℕ)) → more_length (words ++ more) ≡ more_length words + more_length more
unfolding more_length
both_length [] more = omega arith
both_length (word ∷ words) more = let rest = both_length words more in omega (arith, rest)

-- the words of a line, each with a byte more, have one more than it at most
words_length : (line : List ℕ) → more_length (words_of line) ≤ length line + 1
words_length line = grind (arith, common_steps, split_length, filter_length)

-- ---- a request

-- how many bytes the line of such a request has at least, with its line feed: a digit, and then each word behind its space
abbrev pub request_length : Request → ℕ
request_length request = 2 + more_length (request_words request)

-- it has seven: none is shorter than that of `1 exit`
pub seven_bytes : (limits : Limits) (request : Request) → IsWritable limits request → 7 ≤ request_length request
unfolding more_length
seven_bytes limits request h = grind (arith, common_steps, IsWord-descriptor)

-- words that say it are no shorter than its own
said_length : (words : List (List ℕ)) (request : Request) → Says words request → more_length (request_words request) ≤ more_length words
said_length words request h = grind (arith, common_steps, more_length, both_length)

-- the line of an arrival is no shorter than that of its request
arrival_length : (reading : Reading) (line : List ℕ) (p : ℕ) (request : Request) → LineGives reading line (Ok (lines.Arrival p request))
    → request_length request ≤ length line + 1
unfolding more_length
arrival_length reading line p request gives =
    let said = arrival_said reading line p request gives in
    let words = words_length line in
    let are = ap more_length said.are in
    let first = (IsWord-process (limits_of reading) p said.process).some in
    let rest = said_length said.rest request said.is_request.says in
    omega (arith, words, are, first, rest)

-- ---- a script

-- how many bytes the requests of all these arrivals take
unfoldable pub arrivals_length : List (ℕ × Request) → ℕ
arrivals_length [] = 0
arrivals_length (arrival ∷ arrivals) = request_length arrival.1 + arrivals_length arrivals

-- one arrival more
one_more_length : (arrivals : List (ℕ × Request)) (p : ℕ) (request : Request)
    → arrivals_length (arrivals ++ (p, request) ∷ []) ≡ arrivals_length arrivals + request_length request
unfolding arrivals_length
one_more_length [] p request = omega arith
one_more_length (arrival ∷ arrivals) p request = let rest = one_more_length arrivals p request in omega (arith, rest)

-- a line adds no more than its bytes and its line feed
grows : (reading : Reading) (line : List ℕ) (said : Line) → LineGives reading line (Ok said)
    → arrivals_length (reading_after reading said).arrivals ≤ arrivals_length reading.arrivals + (length line + 1)
grows reading line said h = grind (arith, common_steps, one_more_length, arrival_length)

-- so do all lines
in_lines : (number : ℕ) (reading : Reading) (lines : List (List ℕ)) (meaning : Meaning) → LinesGive number reading lines (Ok meaning)
    → arrivals_length meaning.arrivals ≤ arrivals_length reading.arrivals + more_length lines
unfolding more_length
in_lines number reading [] meaning gives = grind (arith, common_steps, success)
in_lines number reading (line ∷ rest) meaning (Ok said, gives, more) =
    grind (arith, common_steps, grows, in_lines (number + 1) (reading_after reading said) rest meaning more)
in_lines number reading (line ∷ rest) meaning (Err cause, gives, refused) = absurd (cc)

-- the requests of an accepted script take no more bytes than it may have, and a line feed
pub read_length : (bytes : List ℕ) (meaning : Meaning) → Reads bytes (Ok meaning) → arrivals_length meaning.arrivals ≤ script_limit + 1
unfolding arrivals_length
read_length bytes meaning reads = grind (arith, common_steps, accepted, ltb-false, in_lines, split_length, without_end_length)

-- each arrival takes seven
seventh : (limits : Limits) (arrivals : List (ℕ × Request)) → Each (IsArrivalOf limits) arrivals → 7 * length arrivals ≤ arrivals_length arrivals
unfolding arrivals_length
seventh limits [] are = omega arith
seventh limits (arrival ∷ arrivals) are = grind (arith, common_steps, seven_bytes, seventh limits arrivals)

-- so its arrivals are no more than that
pub few_read : (bytes : List ℕ) (meaning : Meaning) → Reads bytes (Ok meaning) → length meaning.arrivals ≤ script_limit + 1
few_read bytes meaning reads =
    let limits = meaning.rules.limits in
    let all = read_length bytes meaning reads in
    let each = seventh limits meaning.arrivals (recursion_from_All (IsArrivalOf limits) meaning.arrivals (arrivals_read bytes meaning reads)) in
    omega (arith, all, each)

-- The arrivals of a script: each is of one of its processes, and is said by the words of its line; for `parse`.
use Rattle.script_core.proofs.Common.{arith, ℕ, ◌≡◌, refl, sym, subst, Bool, true, List, [], ◌∷◌, Option, MatchOption, Result, Ok, Err, All, MatchBool, ◌+◌, decimal, common_steps, All-nil}
use Rattle.script_core.proofs.Common.{Limits, Request, Line, Cause, Word, ScriptFault, Meaning, IsProcess, IsWritable, Reading, limits_of, meaning_of, reading_after, is_comment, is_empty, CommandGives, RequestGives, ArrivalGives, ProcessGives, WordsGive, LineGives, LinesGive, Reads, Command, command_named, words_of}
use Rattle.std.proofs.lemmas.List.Elements.{All-push, All-weaker}
use Rattle.script_core.specs.declared.line.Line.TheVariants as lines
use Rattle.script_core.specs.ScriptText.{IsRequest}
use Rattle.script_core.specs.HeaderReading.{limits_said}
use Rattle.script_core.proofs.FirstWordsLemmas.{header_cases}

-- the arrival is of a process that the limits have, and its request is one that they have
abbrev pub IsArrivalOf : Limits → ℕ × Request → Type 0
IsArrivalOf limits arrival = IsProcess limits arrival.0 × IsWritable limits arrival.1

-- so is each
abbrev AreOfLimits : Reading → Type 0
AreOfLimits reading = All (IsArrivalOf (limits_of reading)) reading.arrivals

-- the words say this arrival: its process, and then its request
pub record SayArrival (limits : Limits) (words : List (List ℕ)) (p : ℕ) (request : Request) : Type 0 where
  pub process : IsProcess limits p
  pub rest : List (List ℕ)
  pub are : words ≡ decimal p ∷ rest
  pub is_request : IsRequest limits rest request

-- what the words of a line say keeps it so: header lines stand before all arrivals
Keeps : Reading → List (List ℕ) → Result Line Cause → Type 0
Keeps reading words (Ok lines.Skipped) = Unit {0}
Keeps reading words (Ok (lines.Header header)) = reading.arrivals ≡ []
Keeps reading words (Ok (lines.Arrival p request)) = SayArrival (limits_of reading) words p request
Keeps reading words (Err cause) = Unit {0}

keeps_by : (reading : Reading) (words : List (List ℕ)) (expected result : Result Line Cause) → Keeps reading words expected → result ≡ expected
    → Keeps reading words result
keeps_by reading words expected result is e = subst (Keeps reading words) (sym e) is

-- read as this request
abbrev read_as : Request → Result Request Cause
read_as request = Ok request

-- a choice by a test, each side leading to the same
join_by : (test : Bool) (P Q R : Type 0) → (test ≡ true → P → R) → (Q → R) → MatchBool test P Q → R
join_by test P Q R f g h = grind (arith, common_steps)

of_command : (limits : Limits) (words : List (List ℕ)) (arguments : List (List ℕ)) (request : Request) (command : Option Command)
    → MatchOption command (read_as request ≡ Err Word) (λ command. CommandGives limits words command arguments (Ok request))
    → IsRequest limits words request
of_command limits words arguments request command h = grind (arith, common_steps, join_by)

of_request : (limits : Limits) (words : List (List ℕ)) (request : Request) → RequestGives limits words (Ok request) → IsRequest limits words request
of_request limits [] request gives = absurd (cc)
of_request limits (name ∷ arguments) request gives = of_command limits (name ∷ arguments) arguments request (command_named limits name) gives

keeps_arrival : (reading : Reading) (p : ℕ) (first : List ℕ) (rest : List (List ℕ)) (next : Result Request Cause) (result : Result Line Cause)
    → IsProcess (limits_of reading) p → first ≡ decimal p → RequestGives (limits_of reading) rest next → ArrivalGives p next result
    → Keeps reading (first ∷ rest) result
unfolding Keeps
keeps_arrival reading p first rest next result h h2 h3 h4 = grind (arith, common_steps, keeps_by, of_request)

keeps_process : (reading : Reading) (first : List ℕ) (rest : List (List ℕ)) (result : Result Line Cause) → ProcessGives (limits_of reading) first rest result
    → Keeps reading (first ∷ rest) result
unfolding Keeps
keeps_process reading first rest result h = grind (arith, common_steps, keeps_arrival, keeps_by)

empty_is : (arrivals : List (ℕ × Request)) → is_empty arrivals ≡ true → arrivals ≡ []
empty_is arrivals e = grind (arith, common_steps)

keeps_words : (reading : Reading) (words : List (List ℕ)) (result : Result Line Cause) → WordsGive reading words result → Keeps reading words result
unfolding Keeps
keeps_words reading [] result gives = keeps_by reading [] (Ok lines.Skipped) result tt gives
keeps_words reading (first ∷ rest) result gives =
    let words = first ∷ rest in
    join_by (is_comment first) _ _ (Keeps reading words result) (λ e. keeps_by reading words (Ok lines.Skipped) result tt)
    (header_cases reading.header (is_empty reading.arrivals) lines.Header first rest _ (Keeps reading words result) result
    (λ argument cause refused is. keeps_by reading words (Err cause) result tt is)
    (λ more top is. keeps_by reading words (Ok (lines.Header more)) result (empty_is reading.arrivals top) is) (keeps_process reading first rest result)) gives

keeps_line : (reading : Reading) (line : List ℕ) (result : Result Line Cause) → LineGives reading line result → Keeps reading (words_of line) result
unfolding Keeps
keeps_line reading line result gives = grind (arith, common_steps, join_by, Keeps, keeps_by, keeps_words)

-- the words of a line that is an arrival say it
pub arrival_said : (reading : Reading) (line : List ℕ) (p : ℕ) (request : Request) → LineGives reading line (Ok (lines.Arrival p request))
    → SayArrival (limits_of reading) (words_of line) p request
unfolding Keeps
arrival_said reading line p request gives = keeps_line reading line (Ok (lines.Arrival p request)) gives

-- behind an arrival a line changes no rules
pub rules_kept : (reading : Reading) (line : List ℕ) (said : Line) → ¬ (reading.arrivals ≡ []) → LineGives reading line (Ok said)
    → (meaning_of (reading_after reading said)).rules ≡ (meaning_of reading).rules
unfolding Keeps
rules_kept reading line lines.Skipped some gives = refl
rules_kept reading line (lines.Header header) some gives = absurd (some (keeps_line reading line (Ok (lines.Header header)) gives))
rules_kept reading line (lines.Arrival p request) some gives = refl

-- no arrivals are of processes under any limits
none_yet : (limits : Limits) (arrivals : List (ℕ × Request)) → arrivals ≡ [] → All (IsArrivalOf limits) arrivals
none_yet limits arrivals e = subst (All (IsArrivalOf limits)) (sym e) (All-nil (IsArrivalOf limits))

kept : (reading : Reading) (words : List (List ℕ)) (said : Line) → Keeps reading words (Ok said) → AreOfLimits reading
    → AreOfLimits (reading_after reading said)
unfolding Keeps
kept reading words lines.Skipped is before = before
kept reading words (lines.Header header) is before = none_yet (limits_said header) reading.arrivals is
kept reading words (lines.Arrival p request) is before = grind (arith, common_steps, All-push)

-- a script that is accepted
abbrev pub accepted : Meaning → Result Meaning ScriptFault
accepted meaning = Ok meaning

-- two meanings that are both accepted are the same
pub success : (meaning other : Meaning) → accepted meaning ≡ accepted other → meaning ≡ other
success meaning other e = cc

of_lines : (number : ℕ) (reading : Reading) (lines : List (List ℕ)) (meaning : Meaning) → AreOfLimits reading → LinesGive number reading lines (Ok meaning)
    → All (IsArrivalOf meaning.rules.limits) meaning.arrivals
of_lines number reading [] meaning before gives =
    subst (λ (m : Meaning). All (IsArrivalOf m.rules.limits) m.arrivals) (sym (success meaning (meaning_of reading) gives)) before
of_lines number reading (line ∷ rest) meaning before (Ok said, gives, more) =
    of_lines (number + 1) (reading_after reading said) rest meaning (kept reading (words_of line) said (keeps_line reading line (Ok said) gives) before) more
of_lines number reading (line ∷ rest) meaning before (Err cause, gives, refused) = absurd (cc)

-- the arrivals of an accepted script are of its limits
pub arrivals_read : (bytes : List ℕ) (meaning : Meaning) → Reads bytes (Ok meaning) → All (IsArrivalOf meaning.rules.limits) meaning.arrivals
arrivals_read bytes meaning reads = grind (arith, common_steps, join_by, of_lines, All-nil)

pub processes_read : (bytes : List ℕ) (meaning : Meaning) → Reads bytes (Ok meaning)
    → All (λ arrival. IsProcess meaning.rules.limits arrival.0) meaning.arrivals
processes_read bytes meaning reads = grind (arith, common_steps, All-weaker, arrivals_read)

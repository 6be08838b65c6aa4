-- How a script is read and run in the language without header lines, and that header lines change nothing else (this project's
-- choice).
use Rattle.std.specs.Prelude.{◌≡◌, ℕ, zero, suc, ◌+◌, ◌||◌, Bool, false, IsFalse, nat_lt, MatchBool, MatchResult, Option, None, IfSome, Result, Ok, Err, List, [], ◌∷◌, ◌++◌, length, slice_get, flat_map, codes, bytes_eq}
use Rattle.fd_table.specs.declared.Limits.TheVariants.{Small}
use Rattle.wait_core.specs.declared.Policy.TheVariants.{Held}
use Rattle.lock_manager.specs.declared.request.Rules.{Rules}
use Rattle.lock_manager.specs.declared.request.Request.{Request}
use Rattle.lock_manager.specs.State.{State}
use Rattle.session_core.specs.Event.{Event}
use Rattle.session_core.specs.Mail.{requests_sent}
use Rattle.session_core.specs.Draining.{IsDrain}
use Rattle.script_core.specs.declared.line.Line.{Line}
use Rattle.script_core.specs.declared.line.Line.TheVariants as lines
use Rattle.script_core.specs.declared.script.Cause.{Cause}
use Rattle.script_core.specs.declared.script.Cause.TheVariants.{Byte, TooLong}
use Rattle.script_core.specs.declared.script.ScriptFault.{ScriptFault}
use Rattle.script_core.specs.Words.{lines_of, words_of, is_printable, line_limit, script_limit}
use Rattle.script_core.specs.Reading.{Reads, ProcessGives, is_comment}
use Rattle.script_core.specs.EntryText.{entry_line}
use Rattle.script_core.specs.ReportText.{IsReport}
use Rattle.script_core.specs.Output.{IsOutput}

-- the rules of a script without header lines
abbrev pub plain_rules : Rules
plain_rules = record { policy = Held; limits = Small }

-- the words of a line: none or a comment, which is skipped; else one of the 16 processes and a request
abbrev pub PlainWordsGive : List (List ℕ) → Result Line Cause → Type 0
PlainWordsGive [] result = result ≡ Ok lines.Skipped
PlainWordsGive (first ∷ rest) result = MatchBool (is_comment first) (result ≡ Ok lines.Skipped) (ProcessGives Small first rest result)

-- a line: too long, with a byte that isn't printable, or words
abbrev pub PlainLineGives : List ℕ → Result Line Cause → Type 0
PlainLineGives line result =
    MatchBool (nat_lt line_limit (length line)) (result ≡ Err TooLong)
    (MatchBool (is_printable line) (PlainWordsGive (words_of line) result) (result ≡ Err Byte))

-- the arrivals after a line that says this
abbrev pub arrivals_after : List (ℕ × Request) → Line → List (ℕ × Request)
arrivals_after arrivals lines.Skipped = arrivals
arrivals_after arrivals (lines.Header header) = arrivals
arrivals_after arrivals (lines.Arrival p request) = arrivals ++ (p, request) ∷ []

-- the lines from this number on, behind these arrivals: the first fault is told with its line
abbrev pub PlainLinesGive : ℕ → List (ℕ × Request) → List (List ℕ) → Result (List (ℕ × Request)) ScriptFault → Type 0
PlainLinesGive number arrivals [] result = result ≡ Ok arrivals
PlainLinesGive number arrivals (line ∷ lines) result =
    (next : Result Line Cause) × PlainLineGives line next
    × MatchResult next (λ said. PlainLinesGive (number + 1) (arrivals_after arrivals said) lines result)
    (λ cause. result ≡ Err (record { line = number; cause = cause }))

-- a script of the language without header lines: its arrivals, or the first fault of its first faulty line
abbrev pub PlainReads : List ℕ → Result (List (ℕ × Request)) ScriptFault → Type 0
PlainReads bytes result =
    MatchBool (nat_lt script_limit (length bytes)) (result ≡ Err (record { line = 0; cause = TooLong }))
    (PlainLinesGive 1 [] (lines_of bytes) result)

-- whether the first of the words is one of those that header lines begin with
abbrev pub is_header : List (List ℕ) → Bool
is_header [] = false
is_header (first ∷ rest) = bytes_eq first (codes "policy") || bytes_eq first (codes "limits")

-- the line with this number, from 1 on
abbrev pub line_numbered : List ℕ → ℕ → Option (List ℕ)
line_numbered bytes zero = None
line_numbered bytes (suc place) = slice_get (lines_of bytes) place

-- the first word of the line with this number isn't that of a header line
abbrev pub IsNoHeaderLine : List ℕ → ℕ → Type 0
IsNoHeaderLine bytes number = IfSome (line_numbered bytes number) (λ line. IsFalse (is_header (words_of line)))

-- the output in the language without header lines: the lines of the journal that the arrivals make under the held policy and
-- small limits, with 16 processes, and then the report
pub record IsPlainOutput (bytes text : List ℕ) : Type 0 where
  pub arrivals : List (ℕ × Request)
  pub accepted : PlainReads bytes (Ok arrivals)
  pub journal : List Event
  pub state : State
  pub drained : IsDrain plain_rules 16 arrivals journal state
  pub report : List ℕ
  pub is_report : IsReport 16 state journal (λ p. length (requests_sent p arrivals)) report
  pub is : text ≡ flat_map entry_line journal ++ report

-- what the language without header lines accepts is read with the policy held, small limits and the same arrivals, and has the
-- same output; and what it refuses has the same fault, where the first word of the faulty line isn't that of a header line
pub record HeadersChangeNothingElse : Type 0 where
  pub accepted : (bytes : List ℕ) (arrivals : List (ℕ × Request)) → PlainReads bytes (Ok arrivals)
      → Reads bytes (Ok (record { rules = plain_rules; arrivals = arrivals }))
  pub same_output : (bytes text : List ℕ) → IsPlainOutput bytes text → IsOutput bytes text
  pub refused : (bytes : List ℕ) (fault : ScriptFault) → IsNoHeaderLine bytes fault.line → PlainReads bytes (Err fault) → Reads bytes (Err fault)

-- What the text of a history comes to (the words are this project's choice).
use Rattle.std.specs.Prelude.{◌≡◌, ℕ, ◌+◌, ◌-◌, ◌==◌, map, not, slice_index, nat_lt, if◌then◌else◌, ⊤, true, MatchBool, MatchResult, Option, option_map, Result, List, [], ◌∷◌, ◌++◌, filter, flat_map, length, take}
use Rattle.std.specs.List.{slice_split}
use Rattle.range_core.specs.Facts.{MatchFact}
use Rattle.script_core.specs.declared.script.Cause.{Cause}
use Rattle.script_core.specs.declared.script.Cause.TheVariants.{TooLong}
use Rattle.script_core.specs.declared.script.ScriptFault.{ScriptFault}
use Rattle.script_core.specs.Words.{line_limit, without_empty_end}
use Rattle.history_core.specs.declared.request.Action.{Action}
use Rattle.history_core.specs.declared.request.Answer.{Answer}
use Rattle.history_core.specs.Locks.{FileLocks}
use Rattle.history_core.specs.Permitted.{may_wait}
use Rattle.history_text.specs.declared.line.HistoryLine.{HistoryLine as TextLine}
use Rattle.history_text.specs.declared.line.HistoryLine.TheVariants as texts
use Rattle.history_text.specs.HistoryReading.{LineGives}
use Rattle.history_judge.specs.Histories.{Answered, HistoryLine, IsLegal, MayEnd, Sent}
use Rattle.history_judge.specs.FilesApart.{open_after}
use Rattle.history_judge.specs.declared.order.FileHappening.{FileHappening}
use Rattle.history_judge.specs.HistoryOrders.{IsLeft, Leave, no_locks}
use Rattle.history_check.specs.declared.judging.Judging.{Judging}
use Rattle.history_check.specs.declared.open_waits.OpenWait.{OpenWait}

-- how many bytes a history may have: 2 ^ 40
abbrev pub history_limit : ℕ
history_limit = 1099511627776

-- what a line of the text says of the history: nothing where it is skipped
abbrev pub said_by : TextLine → List HistoryLine
said_by texts.Skipped = []
said_by (texts.Sent file request) = Sent file request ∷ []
said_by (texts.Answered id answer) = Answered id answer ∷ []

-- the history that lines of a text tell
abbrev pub history_of : List TextLine → List HistoryLine
history_of lines = flat_map said_by lines

-- what the open request of an ID asks for, if one is open behind these lines
abbrev pub requested_after : List TextLine → ℕ → Option Action
requested_after lines id = option_map (λ sending. sending.request.action) (open_after (history_of lines) id)

-- the requests that may wait and are open behind one line more, which has this number
abbrev pub waits_behind : ℕ → List OpenWait → TextLine → List OpenWait
waits_behind number waits texts.Skipped = waits
waits_behind number waits (texts.Sent file request) =
    if may_wait request.action then waits ++ record { id = request.id; since = number } ∷ [] else waits
waits_behind number waits (texts.Answered id answer) = filter (λ wait. not (wait.id == id)) waits

-- the numbers of the lines that tell something, with one line more, which has this number
abbrev pub numbers_behind : ℕ → List ℕ → TextLine → List ℕ
numbers_behind number numbers texts.Skipped = numbers
numbers_behind number numbers (texts.Sent file request) = numbers ++ number ∷ []
numbers_behind number numbers (texts.Answered id answer) = numbers ++ number ∷ []

-- what one line after another makes of it, the first of which has this number
abbrev pub behind_all : {X : Type 0} → (ℕ → X → TextLine → X) → ℕ → X → List TextLine → X
behind_all behind number x [] = x
behind_all behind number x (line ∷ lines) = behind_all behind (number + 1) (behind number x line) lines

-- the requests that may wait and that these lines leave open, in the order in which they were sent, each with the number of its line
abbrev pub waits_after : List TextLine → List OpenWait
waits_after lines = behind_all waits_behind 1 [] lines

-- the numbers of those lines that tell something
abbrev pub numbers_after : List TextLine → List ℕ
numbers_after lines = behind_all numbers_behind 1 [] lines

-- what happened behind so many lines that tell something, by the number of the last of them
abbrev pub by_number : List ℕ → FileHappening → FileHappening
by_number numbers happening = record happening { behind = slice_index numbers (happening.behind - 1) }

-- what a text comes to: the history is legal; or it is, and this is an order of its effects; or this is its first answer that isn't
-- possible; or these waits are open at its end, and no order leaves them all waiting; or its first faulty line has this fault
pub data Verdict : Type 0 where
  Legal : Verdict
  Ordered : List FileHappening → Verdict
  Illegal : ℕ → Answer → Verdict
  LostWakeUps : List OpenWait → Verdict
  Faulty : ScriptFault → Verdict

-- an order that is told was asked for, and may have come about
abbrev pub IsSound : Judging → Verdict → Type 0
IsSound judging Legal = ⊤
IsSound judging (Ordered told) = (judging.order ≡ true) × ((last : ℕ → FileLocks) × Leave no_locks told last)
IsSound judging (Illegal number answer) = ⊤
IsSound judging (LostWakeUps waits) = ⊤
IsSound judging (Faulty fault) = ⊤

-- how much of a text is judged: all of it, or as many of its first bytes as a history may have
pub data Extent : Type 0 where
  Whole : Extent
  Front : Extent

-- the pieces without the last one, unless that is too long already
abbrev pub without_open_end : List (List ℕ) → List (List ℕ)
without_open_end [] = []
without_open_end (piece ∷ []) = if nat_lt line_limit (length piece) then piece ∷ [] else []
without_open_end (piece ∷ next ∷ pieces) = piece ∷ without_open_end (next ∷ pieces)

-- the pieces that are lines
abbrev pub ended : Extent → List (List ℕ) → List (List ℕ)
ended Whole pieces = without_empty_end pieces
ended Front pieces = without_open_end pieces

-- the lines of the text; of a front those of which something is told, whatever follows: each that a line feed ends, and one that is too long
abbrev pub lines_told : Extent → List ℕ → List (List ℕ)
lines_told extent bytes = ended extent (slice_split (λ byte. byte == 10) bytes)

-- an order of the effects of these lines is told
abbrev pub OrderComes : Judging → List TextLine → Verdict → Type 0
OrderComes judging lines verdict =
    (order : List FileHappening) × IsLeft judging.runs (history_of lines) order × (verdict ≡ Ordered (map (by_number (numbers_after lines)) order))

-- where it is asked for
abbrev pub LegalComes : Judging → List TextLine → Verdict → Type 0
LegalComes judging lines verdict = MatchBool judging.order (OrderComes judging lines verdict) (verdict ≡ Legal)

-- what a legal history comes to at its end: where it is asked for, each open wait has to wait still
abbrev pub EndComes : Judging → List TextLine → Verdict → Type 0
EndComes judging lines verdict =
    MatchBool judging.open_waits
    (MatchFact (MayEnd judging.runs (history_of lines)) (LegalComes judging lines verdict) (verdict ≡ LostWakeUps (waits_after lines)))
    (LegalComes judging lines verdict)

-- the verdict of a text that is too long, of which nothing was told before
abbrev pub too_long : Verdict
too_long = Faulty (record { line = 0; cause = TooLong })

-- behind the last line the text ends, or it is too long
abbrev pub EndsBy : Judging → Extent → List TextLine → Verdict → Type 0
EndsBy judging Whole lines verdict = EndComes judging lines verdict
EndsBy judging Front lines verdict = verdict ≡ too_long

-- the line of this number is an answer that isn't possible
abbrev pub IsRefused : ℕ → TextLine → Verdict → Type 0
IsRefused number texts.Skipped verdict = ⊥
IsRefused number (texts.Sent file request) verdict = ⊥
IsRefused number (texts.Answered id answer) verdict = verdict ≡ Illegal number answer

-- the lines behind these: the first that is faulty, or with which the history is no longer legal, decides
abbrev pub LinesCome : Judging → Extent → List TextLine → List (List ℕ) → Verdict → Type 0
LinesCome judging extent before [] verdict = EndsBy judging extent before verdict
LinesCome judging extent before (line ∷ lines) verdict =
    (next : Result TextLine Cause) × LineGives (requested_after before) line next
    × MatchResult next
    (λ said. MatchFact (IsLegal judging.runs (history_of (before ++ said ∷ [])))
    (LinesCome judging extent (before ++ said ∷ []) lines verdict) (IsRefused (length before + 1) said verdict))
    (λ cause. verdict ≡ Faulty (record { line = length before + 1; cause = cause }))

-- all lines that are told of these bytes
abbrev pub BytesCome : Judging → Extent → List ℕ → Verdict → Type 0
BytesCome judging extent bytes verdict = LinesCome judging extent [] (lines_told extent bytes) verdict

-- a text: where it is too long, what its front comes to, and else what it comes to as a whole
abbrev pub HistoryComes : Judging → List ℕ → Verdict → Type 0
HistoryComes judging bytes verdict =
    MatchBool (nat_lt history_limit (length bytes)) (BytesCome judging Front (take history_limit bytes) verdict) (BytesCome judging Whole bytes verdict)

-- whatever follows these bytes, they come to this
abbrev pub AreJudged : Judging → List ℕ → Verdict → Type 0
AreJudged judging bytes verdict = (rest : List ℕ) → HistoryComes judging (bytes ++ rest) verdict

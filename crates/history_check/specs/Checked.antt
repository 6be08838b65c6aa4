-- How far a history was judged.
use Rattle.std.specs.Prelude.{◌≡◌, ◌≢◌, ℕ, ◌+◌, ◌≤◌, ⊤, true, Option, Some, None, option_map, Ok, List, [], ◌∷◌, ◌++◌, length}
use Rattle.script_core.specs.Words.{line_limit}
use Rattle.history_core.specs.declared.request.Action.{Action}
use Rattle.history_text.specs.declared.line.HistoryLine.{HistoryLine as TextLine}
use Rattle.history_text.specs.declared.line.HistoryLine.TheVariants as texts
use Rattle.history_text.specs.HistoryReading.{LineGives}
use Rattle.history_judge.specs.declared.judge.HistoryJudge.{HistoryJudge}
use Rattle.history_judge.specs.declared.order.FileHappening.{FileHappening}
use Rattle.history_judge.specs.JudgeView.{Exceeds, Knows, keeps_order, open_in}
use Rattle.history_check.specs.declared.judging.Judging.{Judging}
use Rattle.history_check.specs.declared.check.Finding.{Finding}
use Rattle.history_check.specs.declared.check.Finding.TheVariants as findings
use Rattle.history_check.specs.declared.check.HistoryCheck.{HistoryCheck}
use Rattle.history_check.specs.Verdicts.{BytesCome, Extent, Faulty, HistoryComes, Illegal, Legal, LinesCome, LostWakeUps, Ordered, Verdict, Whole, history_of, lines_told, numbers_after, numbers_behind, requested_after, too_long, waits_after, waits_behind}
use Rattle.history_check.specs.Told.{InLine}

-- what the open request of an ID asks for, by what the judge has read
abbrev pub requested_in : HistoryJudge → ℕ → Option Action
requested_in judge id = option_map (λ opened. opened.request.action) (open_in judge id)

-- an ID that is sent is free, and one that is answered is open
abbrev pub IsNamed : (ℕ → Option Action) → TextLine → Type 0
IsNamed requested texts.Skipped = ⊤
IsNamed requested (texts.Sent file request) = requested request.id ≡ None
IsNamed requested (texts.Answered id answer) = requested id ≢ None

-- how many lines came before the one at hand
abbrev pub lines_in : HistoryCheck → ℕ
lines_in check = check.before

-- just these lines were read, under these terms
pub record HasRead (judging : Judging) (check : HistoryCheck) (before : List TextLine) : Type 0 where
  pub is_judging : check.judging ≡ judging
  pub knows : Knows judging.runs check.judge (history_of before)
  pub counted : check.before ≡ length before
  pub waits : check.waits.items ≡ waits_after before
  pub keeps : judging.order ≡ true → keeps_order check.judge ≡ true
  pub numbers : judging.order ≡ true → check.numbers.items ≡ numbers_after before

-- whatever follows the bytes, they come to what the line at hand comes to with what follows it, behind these lines
abbrev pub LeadsTo : Judging → List ℕ → List TextLine → List ℕ → Type 0
LeadsTo judging bytes before line =
    (extent : Extent) (rest : List ℕ) (verdict : Verdict) → LinesCome judging extent before (lines_told extent (line ++ rest)) verdict
    → BytesCome judging extent (bytes ++ rest) verdict

-- whatever follows the bytes, their lines come to this
abbrev pub AreDecided : Judging → List ℕ → Verdict → Type 0
AreDecided judging bytes verdict = (extent : Extent) (rest : List ℕ) → BytesCome judging extent (bytes ++ rest) verdict

-- the lines before the one at hand were read of the bytes
pub record HasReadBytes (judging : Judging) (check : HistoryCheck) (bytes : List ℕ) : Type 0 where
  pub before : List TextLine
  pub read : HasRead judging check before
  pub leads : LeadsTo judging bytes before check.line.items
  pub in_line : InLine check.line.items
  pub short : length check.line.items ≤ line_limit

-- the line at hand, of this number, was read, and said this
pub record Passes (old new : HistoryCheck) (number : ℕ) (said : TextLine) : Type 0 where
  pub judging : new.judging ≡ old.judging
  pub judge : new.judge ≡ old.judge
  pub waits : new.waits.items ≡ waits_behind number old.waits.items said
  pub numbers : old.judging.order ≡ true → new.numbers.items ≡ numbers_behind number old.numbers.items said
  pub line : new.line.items ≡ []
  pub before : new.before ≡ number
  pub found : new.found ≡ old.found

-- what is found is this verdict
abbrev pub verdict_of : HistoryCheck → Finding → Verdict
verdict_of check (findings.Illegal answer) = Illegal (check.before + 1) answer
verdict_of check (findings.Faulty cause) = Faulty (record { line = check.before + 1; cause = cause })
verdict_of check findings.LostWakeUps = LostWakeUps check.waits.items
verdict_of check findings.TooLong = too_long

-- nothing was found of the bytes, or what was decides whatever follows
abbrev pub IsFoundOf : Judging → HistoryCheck → List ℕ → Option Finding → Type 0
IsFoundOf judging check bytes None = HasReadBytes judging check bytes
IsFoundOf judging check bytes (Some finding) = AreDecided judging bytes (verdict_of check finding)

-- so far the bytes were judged
unfoldable pub HasChecked : Judging → HistoryCheck → List ℕ → Type 0
HasChecked judging check bytes = IsFoundOf judging check bytes check.found

-- the line was read behind these, and nothing was found; or what was decides, whatever lines follow
abbrev pub IsFoundAt : Judging → HistoryCheck → List TextLine → List ℕ → Option Finding → Type 0
IsFoundAt judging new before line None =
    (said : TextLine) × LineGives (requested_after before) line (Ok said) × HasRead judging new (before ++ said ∷ []) × (new.line.items ≡ [])
IsFoundAt judging new before line (Some finding) =
    (extent : Extent) (lines : List (List ℕ)) → LinesCome judging extent before (line ∷ lines) (verdict_of new finding)

-- so the line at hand was judged behind these
unfoldable pub Judges : Judging → HistoryCheck → HistoryCheck → List TextLine → Type 0
Judges judging old new before = IsFoundAt judging new before old.line.items new.found

-- each line of the bytes was read, and they come to what their end comes to; or what was found decides
abbrev pub AreLinesRead : Judging → HistoryCheck → List ℕ → Option Finding → Type 0
AreLinesRead judging check bytes None =
    (before : List TextLine) × HasRead judging check before
    × ((verdict : Verdict) → LinesCome judging Whole before [] verdict → BytesCome judging Whole bytes verdict)
AreLinesRead judging check bytes (Some finding) = BytesCome judging Whole bytes (verdict_of check finding)

-- so it is of what was found
unfoldable pub HasReadLines : Judging → HistoryCheck → List ℕ → Type 0
HasReadLines judging check bytes = AreLinesRead judging check bytes check.found

-- the verdict where the history is legal, and this order is kept, if one
abbrev pub legal_of : Option (List FileHappening) → Verdict
legal_of None = Legal
legal_of (Some told) = Ordered told

-- the verdict where this was found
abbrev pub verdict_at : HistoryCheck → Option Finding → Verdict
verdict_at check None = legal_of (option_map (λ order. order.items) check.order)
verdict_at check (Some finding) = verdict_of check finding

-- the verdict by what was found
abbrev pub verdict_in : HistoryCheck → Verdict
verdict_in check = verdict_at check check.found

-- the bytes were judged to their end
abbrev pub HasJudged : Judging → HistoryCheck → List ℕ → Type 0
HasJudged judging check bytes = HistoryComes judging bytes (verdict_in check)

-- the bytes begin with legal lines behind which more possibilities than the limit would be kept
pub record IsLimited (judging : Judging) (bytes : List ℕ) : Type 0 where
  pub before : List TextLine
  pub rest : List (List ℕ)
  pub leads : (verdict : Verdict) → LinesCome judging Whole before rest verdict → BytesCome judging Whole bytes verdict
  pub judge : HistoryJudge
  pub knows : Knows judging.runs judge (history_of before)
  pub exceeds : Exceeds judge judging.limit

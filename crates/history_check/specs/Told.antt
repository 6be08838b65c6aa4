-- What is told of a history (the words are this project's choice).
use Rattle.std.specs.Prelude.{◌≡◌, ℕ, ◌==◌, false, List, [], ◌∷◌, ◌++◌, All, codes, decimal, flat_map}
use Rattle.history_core.specs.declared.request.Answer.{Answer}
use Rattle.history_text.specs.HistoryText.{answer_text}
use Rattle.history_judge.specs.HistoryOrders.{no_locks}
use Rattle.history_check.specs.declared.judging.LockStates.{LockStates}
use Rattle.history_check.specs.OrderTold.{IsOrderText}
use Rattle.history_check.specs.declared.judging.HistoryOutcome.{HistoryOutcome}
use Rattle.history_check.specs.declared.judging.HistoryOutcome.TheVariants as outcomes
use Rattle.history_check.specs.declared.open_waits.OpenWait.{OpenWait}
use Rattle.history_check.specs.Verdicts.{Faulty, Illegal, Legal, LostWakeUps, Ordered, Verdict}

-- the line that tells the first answer that isn't possible
abbrev pub illegal_line : ℕ → Answer → List ℕ
illegal_line number answer = codes "line " ++ decimal number ++ codes ": " ++ answer_text answer ++ codes " isn't possible" ++ 10 ∷ []

-- the line of an open wait
abbrev pub wait_line : OpenWait → List ℕ
wait_line wait = decimal wait.id ++ codes " waits since " ++ decimal wait.since ++ 10 ∷ []

-- a line of a comment
abbrev pub comment_line : List ℕ → List ℕ
comment_line line = 35 ∷ line ++ 10 ∷ []

-- no byte ends a line
abbrev pub InLine : List ℕ → Type 0
InLine bytes = All (λ byte. (byte == 10) ≡ false) bytes

-- the text is lines that begin with `#`
pub record IsComment (text : List ℕ) : Type 0 where
  pub lines : List (List ℕ)
  pub in_line : All InLine lines
  pub are : text ≡ flat_map comment_line lines

-- what is printed of a verdict: nothing where the history is faulty, or legal with no order kept; each effect of the order, with the
-- locks behind the lines that are asked for; the first answer that isn't possible, with lines of comments
-- behind it; or each open wait
abbrev pub IsTold : LockStates → Verdict → List ℕ → Type 0
IsTold states Legal text = text ≡ []
IsTold states (Ordered told) text = IsOrderText states 0 no_locks told text
IsTold states (Illegal number answer) text = (comment : List ℕ) × IsComment comment × (text ≡ illegal_line number answer ++ comment)
IsTold states (LostWakeUps waits) text = text ≡ flat_map wait_line waits
IsTold states (Faulty fault) text = text ≡ []

-- the verdict without what is printed of it
abbrev pub outcome_of : Verdict → HistoryOutcome
outcome_of Legal = outcomes.Legal
outcome_of (Ordered told) = outcomes.Legal
outcome_of (Illegal number answer) = outcomes.Illegal
outcome_of (LostWakeUps waits) = outcomes.LostWakeUps
outcome_of (Faulty fault) = outcomes.Faulty fault

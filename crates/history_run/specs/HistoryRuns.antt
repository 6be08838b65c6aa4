-- What a judgement of a history does with its source and its sink (the words are this project's choice).
use Rattle.std.specs.Prelude.{◌≡◌, ℕ, ◌+◌, ◌≤◌, ◌⊎◌, ⊤, Bool, true, IsTrue, Option, List, length}
use Rattle.std.specs.Io.KnownBytes.{Appends, Consumes, IsAtEnd}
use Rattle.replay_core.specs.Devices.{TakesFront}
use Rattle.history_core.specs.declared.search.SearchFault.{SearchFault}
use Rattle.history_core.specs.declared.search.SearchFault.TheVariants as searches
use Rattle.history_check.specs.declared.check.HistoryCheck.{HistoryCheck}
use Rattle.history_check.specs.declared.judging.HistoryOutcome.{HistoryOutcome}
use Rattle.history_check.specs.declared.judging.HistoryOutcome.TheVariants as outcomes
use Rattle.history_check.specs.declared.judging.Judging.{Judging}
use Rattle.history_check.specs.Checked.{HasChecked, IsLimited, lines_in, verdict_in}
use Rattle.history_check.specs.Told.{IsTold, outcome_of}
use Rattle.history_check.specs.Verdicts.{AreJudged, HistoryComes, IsSound, Verdict, history_limit}
use Rattle.history_run.specs.declared.runs.HistoryFault.{HistoryFault}
use Rattle.history_run.specs.declared.runs.HistoryFault.TheVariants as faults

-- what was read comes to this: it is all that the source had, or it decides, whatever follows
pub record IsJudged (judging : Judging) (old new : Option (List ℕ)) (verdict : Verdict) : Type 0 where
  pub input : List ℕ
  pub consumed : Consumes old new input
  pub judged : (IsAtEnd new × HistoryComes judging input verdict) ⊎ AreJudged judging input verdict

-- what was read has this outcome, and of what is told of it so much was written
pub record Tells (judging : Judging) (read_old read_new : Option (List ℕ)) (outcome : HistoryOutcome) (Written : List ℕ → Type 0) : Type 0 where
  pub verdict : Verdict
  pub judged : IsJudged judging read_old read_new verdict
  pub is_outcome : outcome ≡ outcome_of verdict
  pub text : List ℕ
  pub told : IsTold judging.states verdict text
  pub written : Written text

-- it was written as a whole
abbrev pub WritesTold : Judging → HistoryOutcome → (read_old read_new written_old written_new : Option (List ℕ)) → Type 0
WritesTold judging outcome read_old read_new written_old written_new =
    Tells judging read_old read_new outcome (λ text. Appends written_old written_new text)

-- a front of it was written
abbrev pub WritesFront : Judging → HistoryOutcome → (read_old read_new written_old written_new : Option (List ℕ)) → Type 0
WritesFront judging outcome read_old read_new written_old written_new =
    Tells judging read_old read_new outcome (λ text. TakesFront written_old written_new text)

-- what was read begins with legal lines behind which more possibilities than the limit would be kept
pub record Exceeds (judging : Judging) (old new : Option (List ℕ)) : Type 0 where
  pub input : List ℕ
  pub consumed : Consumes old new input
  pub limited : IsLimited judging input

-- of what is told of the history so much was written
pub record TellsSome (judging : Judging) (check : HistoryCheck) (Written : List ℕ → Type 0) : Type 0 where
  pub text : List ℕ
  pub told : IsTold judging.states (verdict_in check) text
  pub written : Written text

-- a history for which something is printed: a legal one where an order is kept
abbrev pub IsPrinted : Judging → HistoryOutcome → Type 0
IsPrinted judging outcomes.Legal = judging.order ≡ true
IsPrinted judging outcomes.Illegal = ⊤
IsPrinted judging outcomes.LostWakeUps = ⊤
IsPrinted judging (outcomes.Faulty fault) = ⊥

-- reading ends so: the source failed, the limit was reached, or a growth was refused
abbrev pub IsReadFault : Judging → Option (List ℕ) → Option (List ℕ) → Bool → HistoryFault → Type 0
IsReadFault judging old new failed faults.Read = IsTrue failed
IsReadFault judging old new failed faults.Limit = Exceeds judging old new
IsReadFault judging old new failed (faults.Memory memory) = ⊤
IsReadFault judging old new failed faults.Write = ⊥

-- so much was read and judged, and as many bytes more may come
pub record IsReadTo (judging : Judging) (old new : Option (List ℕ)) (check : HistoryCheck) (left : ℕ) : Type 0 where
  pub input : List ℕ
  pub consumed : Consumes old new input
  pub count : length input + left ≡ history_limit
  pub checked : HasChecked judging check input
  pub few : lines_in check ≤ length input

-- these bytes can't be judged to their end: the limit is reached, or a growth was refused
abbrev pub IsEndFault : Judging → List ℕ → HistoryFault → Type 0
IsEndFault judging bytes faults.Limit = IsLimited judging bytes
IsEndFault judging bytes (faults.Memory memory) = ⊤
IsEndFault judging bytes faults.Read = ⊥
IsEndFault judging bytes faults.Write = ⊥

-- what was read, judged to its end
pub record IsRead (judging : Judging) (old new : Option (List ℕ)) (check : HistoryCheck) : Type 0 where
  pub judged : IsJudged judging old new (verdict_in check)
  pub sound : IsSound judging (verdict_in check)
  pub few : lines_in check ≤ history_limit + 1

-- why a search ended, as a fault of the run
abbrev pub fault_of : SearchFault → HistoryFault
fault_of searches.Limit = faults.Limit
fault_of (searches.Memory memory) = faults.Memory memory

-- the exit status: 4 where the limit was reached
abbrev pub fault_status : HistoryFault → ℕ
fault_status faults.Read = 1
fault_status faults.Write = 1
fault_status (faults.Memory memory) = 1
fault_status faults.Limit = 4

-- What is told of a history that was judged: for `judge_history` and `write_told`.
use Rattle.std.proofs.Common.{◌≡◌, ℕ, List, OnOk, Option, Result, Ok, Err, sym, subst}
use Rattle.history_check.specs.declared.check.HistoryCheck.{HistoryCheck}
use Rattle.history_check.specs.declared.judging.HistoryOutcome.{HistoryOutcome}
use Rattle.history_check.specs.declared.judging.Judging.{Judging}
use Rattle.history_check.specs.Checked.{verdict_in}
use Rattle.history_check.specs.Told.{IsTold, outcome_of}
use Rattle.history_run.specs.HistoryRuns.{IsRead, Tells, TellsSome}

-- what was read has this outcome, and so much was written
pub tells : (judging : Judging) (old new : Option (List ℕ)) (check : HistoryCheck) (outcome : HistoryOutcome) (Written : List ℕ → Type 0)
    → IsRead judging old new check → outcome ≡ outcome_of (verdict_in check) → TellsSome judging check Written → Tells judging old new outcome Written
tells judging old new check outcome Written read is some = record {
  verdict = verdict_in check;
  judged = read.judged;
  is_outcome = is;
  text = some.text;
  told = some.told;
  written = some.written;
}

-- so much is told of the history as was written
pub told_where : {T E : Type 0} (result : Result T E) (judging : Judging) (check : HistoryCheck) (told text : List ℕ) (Written : List ℕ → Type 0) → text ≡ told
    → IsTold judging.states (verdict_in check) told → OnOk result (Written text) → OnOk result (TellsSome judging check Written)
told_where (Ok done) judging check told text Written is so written = record {
  text = text;
  told = subst (IsTold judging.states (verdict_in check)) (sym is) so;
  written = written;
}
told_where (Err error) judging check told text Written is so written = tt

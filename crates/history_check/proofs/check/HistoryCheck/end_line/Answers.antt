use Rattle.std.proofs.Common.{Err, List, ℕ, refl, subst}
use Rattle.history_text.specs.HistoryReading.{LineGives}
use Rattle.history_check.specs.Checked.{requested_in}
use Rattle.history_check.proofs.CheckLemmas.{line_faulty}
use Rattle.history_check.proofs.check.HistoryCheck.end_line.Goals as goal

pub returns-in-Err-clause-judges : goal.returns-in-Err-clause-judges
returns-in-Err-clause-judges c = λ judging before read.
    let old = c.args.self.now in
    line_faulty judging old _ before c.in-Err.cause read
    (subst (λ (l : List ℕ). LineGives (requested_in old.judge) l (Err c.in-Err.cause)) c.deref.ensures.value c.in-Err.ensures) refl refl

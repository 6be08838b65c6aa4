use Rattle.script_core.proofs.Common.{Some, Err, refl, sym, ◌∙◌, ap, subst, err_from_is_err_and, rules_at, processes_at, AreLeft}
use Rattle.script_core.specs.JournalView.{HasChecked, HasReported, ReportsAt}
use Rattle.script_core.proofs.JournalSeamLemmas.{left_first, report_taken, report_refused}
use Rattle.script_core.proofs.journal.JournalReader.judge.Goals as goal
use Rattle.script_core.proofs.journal.JournalReader.judge.Goals.{in-Some, in-None+in_ok-report-in-None}

pub returns-in_err-answer : goal.returns-in_err-answer
unfolding HasChecked HasReported
returns-in_err-answer c =
    let failed = err_from_is_err_and c.from_residual-in_err-answer.result c.from_residual-in_err-answer.ensures.1 in
    rw (failed.1, failed.2)
    (λ reading read.
    let left : AreLeft reading.place reading.entries reading.report c.match-take.report =
    elim c.match-take.branch [
      | in-Some w ↦ subst (λ l. AreLeft reading.place reading.entries reading.report l) (sym w.report-is)
          (subst (λ r. ReportsAt reading.place reading.entries reading.report r) (sym c.take.ensures.value ∙ w.in-Some.is) read.reported)
      | in-None+in_ok-report-in-None w ↦
          left_first reading.place reading.entries reading.report c.match-take.report _
          (subst (λ r. ReportsAt reading.place reading.entries reading.report r) (sym c.take.ensures.value ∙ w.in-None.is) read.reported) read.checked.run
          (λ T run. w.in_ok-report-in-None.ensures.are (rules_at reading.place) (processes_at reading.place) reading.entries T read.checked run) w.in_ok-report-in-None.ensures.few w.report-is
    ] in
    report_refused c.locks_have_one_report.ensures c.args.self.now _ reading c.args.text.now c.match-take.report c.in_err-answer.field-0.0 read left
    (λ is. c.in_err-answer.ensures.illegal (ap (λ fault. Err fault) is)) refl refl refl
    (ap (λ l. Some l) (c.in_err-answer.ensures.refused c.in_err-answer.field-0.0 refl)))

pub returns : goal.returns
unfolding HasChecked HasReported
returns c = λ reading read.
    let left : AreLeft reading.place reading.entries reading.report c.match-take.report =
    elim c.match-take.branch [
      | in-Some w ↦ subst (λ l. AreLeft reading.place reading.entries reading.report l) (sym w.report-is)
          (subst (λ r. ReportsAt reading.place reading.entries reading.report r) (sym c.take.ensures.value ∙ w.in-Some.is) read.reported)
      | in-None+in_ok-report-in-None w ↦
          left_first reading.place reading.entries reading.report c.match-take.report _
          (subst (λ r. ReportsAt reading.place reading.entries reading.report r) (sym c.take.ensures.value ∙ w.in-None.is) read.reported) read.checked.run
          (λ T run. w.in_ok-report-in-None.ensures.are (rules_at reading.place) (processes_at reading.place) reading.entries T read.checked run) w.in_ok-report-in-None.ensures.few w.report-is
    ] in
    report_taken c.args.self.now _ reading c.args.text.now c.match-take.report c.next-answer.new.self read left c.in_ok-answer.ensures.goes_on c.next-answer.ensures.last
    refl refl refl refl

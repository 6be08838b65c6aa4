use Rattle.script_core.proofs.Common.{◌≡◌, ◌∙◌, sym, subst, mode_in, flock_mode_in, IsHeldReport, State, StandsFor, manager_in}
use Rattle.std.proofs.lemmas.Result.{IfOk-weaker}
use Rattle.script_core.specs.ReportText.{WritesReport}
use Rattle.script_core.proofs.ReportLemmas.{report_written}
use Rattle.script_core.proofs.write.write_report.Goals as goal

pub returns-clause-ok : goal.returns-clause-ok
returns-clause-ok c =
    let sequencer = c.args.sequencer.now in
    let locks = c.deref.result.now in
    let waits = c.deref-2.result.now in
    let old = c.args.out.now.items in
    let new = c.append_report.new.text.items in
    let held : (S : State) → StandsFor (manager_in sequencer) S → IsHeldReport (mode_in S.changes) (flock_mode_in S.flock_changes) locks =
    λ S stands. subst (IsHeldReport (mode_in S.changes) (flock_mode_in S.flock_changes)) (sym c.deref.ensures.value)
    (c.in_ok-locks.ensures S (subst (λ m. StandsFor m S) (sym c.manager.ensures) stands)) in
    let waiting : (S : State) → StandsFor (manager_in sequencer) S → waits ≡ S.waits =
    λ S stands. c.deref-2.ensures.value ∙ c.in_ok-waits.ensures S (subst (λ m. StandsFor m S) (sym c.manager-2.ensures) stands) in
    IfOk-weaker c.append_report.result (λ unit. WritesReport sequencer c.args.sent.now locks waits old new) _
    (λ unit writes. report_written sequencer c.args.sent.now locks waits old new held waiting writes) c.append_report.ensures.ok

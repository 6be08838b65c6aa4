use Rattle.session_core.proofs.Common.{[], Err, sym, subst, take}
use Rattle.session_core.specs.Checking.{Checks, HasAccepted}
use Rattle.session_core.proofs.runs.ReplayLemmas.{no_run, take_next}
use Rattle.session_core.proofs.check.check_journal.Goals as goal

pub returns-in-Err-Illegal : goal.returns-in-Err-Illegal
returns-in-Err-Illegal c =
    let entries = c.args.entries.now in
    let entry = c.entry-item.result in
    let before = take c.loop-entry.entry-index entries in
    let checks =
    subst (λ fault. Checks c.args.rules c.args.processes c.next.new.self before entry (Err fault)) c.in-Err-Illegal.field-0-is
    (c.in-Err-Illegal.ensures.checks c.args.rules c.args.processes before c.loop-entry.invariant) in
    let all =
    no_run c.args.rules c.args.processes entries c.loop-entry.entry-index entry c.loop-entry-test.true c.entry-item.is (checks.2.none []) in
    ((λ no. cc), (λ run. absurd (all run.0 run.1)))

pub loop-entry-preserved : goal.loop-entry-preserved
loop-entry-preserved c =
    let entries = c.args.entries.now in
    let before = take c.loop-entry.entry-index entries in
    subst (λ events. HasAccepted c.args.rules c.args.processes c.next.new.self events)
    (sym (take_next entries c.loop-entry.entry-index c.entry-item.result c.loop-entry-test.true c.entry-item.is))
    (c.in-Ok.ensures.checks c.args.rules c.args.processes before c.loop-entry.invariant)

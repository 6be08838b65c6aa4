use Rattle.session_core.proofs.Common.{◌∙◌, ap, sym, subst, length, Err, [], HasRun, manager_of, events_in, sent_of}
use Rattle.std.proofs.lemmas.Result.{err_from_is_err_and}
use Rattle.session_core.specs.declared.TheConstants.{N_MAX}
use Rattle.session_core.proofs.runs.DrainLemmas.{too_many, Err-unique}
use Rattle.session_core.proofs.SessionLemmas.{session_holds}
use Rattle.session_core.proofs.runs.SequencerLemmas.{HasRun-more, all_run}
use Rattle.session_core.proofs.run.run_all.Goals as goal

pub returns-in_err-deliver-clause-full : goal.returns-in_err-deliver-clause-full
returns-in_err-deliver-clause-full c full =
    let told = err_from_is_err_and c.from_residual-in_err-deliver.result c.from_residual-in_err-deliver.ensures.1 in
    let at_most = c.in_err-deliver.ensures.full (ap (λ fault. Err fault) (sym told.2 ∙ Err-unique c.from_residual-in_err-deliver.result told.0 _ told.1 full)) _ c.loop-p.invariant.told in
    let sent = c.loop-p.invariant.sent _ in
    (_, too_many c.args.arrivals.now c.loop-p.p-index _ N_MAX c.loop-p-test.true (ap length (sym sent) ∙ at_most))

pub loop-p-init : goal.loop-p-init
loop-p-init c =
    subst (λ l. HasRun c.args.rules c.args.processes [] c.in_ok-sequencer.sequencer l) (sym c.new-journal.ensures.items) c.in_ok-sequencer.ensures

pub loop-p-preserved : goal.loop-p-preserved
loop-p-preserved c =
    HasRun-more c.args.rules c.args.processes c.args.arrivals.now c.loop-p.p-index _ c.loop-p.sequencer c.deliver.new.self c.loop-p.journal.items _
    c.loop-p-test.true c.loop-p.invariant c.in_ok-deliver.ensures.ok

pub returns-clause-drained : goal.returns-clause-drained
unfolding manager_of events_in
returns-clause-drained c =
    let h = all_run c.args.rules c.args.processes c.args.arrivals.now c.loop-p.p-index c.loop-p.sequencer c.loop-p.journal.items c.loop-p-test.false c.loop-p.invariant in
    (h.state, rw c.of.ensures.journal h.drained, rw c.of.ensures.sequencer h.stands)

pub returns-clause-sent : goal.returns-clause-sent
unfolding sent_of
returns-clause-sent c p =
    let h = all_run c.args.rules c.args.processes c.args.arrivals.now c.loop-p.p-index c.loop-p.sequencer c.loop-p.journal.items c.loop-p-test.false c.loop-p.invariant in
    rw (c.of.ensures.journal, c.of.ensures.sequencer) (h.sent p)

pub returns-clause-rules : goal.returns-clause-rules
unfolding manager_of
returns-clause-rules c = rw c.of.ensures.sequencer c.loop-p.invariant.rules_are

pub returns-clause-processes : goal.returns-clause-processes
unfolding manager_of
returns-clause-processes c = rw c.of.ensures.sequencer c.loop-p.invariant.processes_are

pub returns-clause-holds : goal.returns-clause-holds
returns-clause-holds c = session_holds c.of.result

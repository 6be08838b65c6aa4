use Rattle.std.proofs.Common.{List, sym, subst}
use Rattle.session_core.specs.Event.{Event}
use Rattle.session_core.specs.SessionView.{events_in}
use Rattle.script_search.specs.Complete.{IsCompleteRun}
use Rattle.shown_run.specs.ShownRuns.{IsOutcomeOf}
use Rattle.shown_run.proofs.DrainLemmas.{complete_drain}
use Rattle.shown_run.proofs.runs.outcome_of.Goals as goal

pub outcome_in-requires-clause-read : goal.outcome_in-requires-clause-read
outcome_in-requires-clause-read c = (c.args.bytes.now, c.in_ok-script.ensures.accepted)

pub outcome_in-requires-clause-run : goal.outcome_in-requires-clause-run
outcome_in-requires-clause-run c =
    let script = c.in_ok-script.script in
    let drained = c.in_ok-session.ensures in (
      drained.0,
      subst (λ (journal : List Event). IsCompleteRun script journal drained.0) (sym c.journal.ensures.events)
          (complete_drain c.runs_are_fronts.ensures script (events_in c.in_ok-session.session) drained.0 drained.1),
    )

pub returns-clause-outcome : goal.returns-clause-outcome
returns-clause-outcome c =
    let script = c.in_ok-script.script in
    let drained = c.in_ok-session.ensures in
    record {
      script = script;
      accepted = c.in_ok-script.ensures.accepted;
      journal = events_in c.in_ok-session.session;
      state = drained.0;
      drained = drained.1;
      is_outcome = subst (λ (journal : List Event). IsOutcomeOf c.args.fail_on.now script journal c.in_ok-outcome.outcome) c.journal.ensures.events
          c.in_ok-outcome.ensures;
    }

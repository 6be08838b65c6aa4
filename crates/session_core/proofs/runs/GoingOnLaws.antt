-- Every run goes on, whatever a live process requests: for `every_run_goes_on`.
use Rattle.session_core.proofs.Common.{ℕ, ◌+◌, refl, sym, subst, length, List, [], ◌∷◌, Rules, State, opening_state, Event, Leads, events_of}
use Rattle.lock_manager.specs.SomeOutcome.{IsWhole, StepHasSomeOutcome}
use Rattle.session_core.specs.GoingOn.{EveryRunGoesOn}
use Rattle.session_core.proofs.LeadsLemmas.{Leads-push}
use Rattle.session_core.proofs.runs.JournalLemmas.{AreNumbered-push}

-- events lead to a state that has what a step asks, from one that has
Leads-whole : StepHasSomeOutcome → (rules : Rules) (processes : ℕ) (S : State) (events : List Event) (T : State) → IsWhole S
    → Leads rules processes S events T → IsWhole T
Leads-whole some rules processes S [] T whole leads = subst IsWhole (sym leads) whole
Leads-whole some rules processes S (event ∷ events) T whole leads =
    Leads-whole some rules processes leads.0 events T
    (some.kept rules processes S event.p event.n event.request event.notes leads.0 whole leads.1) leads.2

pub goes_on : StepHasSomeOutcome → EveryRunGoesOn
goes_on some rules processes events S p request run live none =
    let n : ℕ = length (events_of p events) + 1 in
    some.some rules processes S p n request (Leads-whole some rules processes opening_state events S some.opening run.leads) live
    (λ notes T step.
    let event : Event = record { p = p; n = n; request = request; notes = notes } in
    none event T refl refl
    (record {
      leads = Leads-push rules processes opening_state events S event T run.leads step;
      numbered = AreNumbered-push events event refl run.numbered;
    }))

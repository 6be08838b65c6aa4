-- What events lead to: one state, through a state between, and by one event more; for `Replay::answered`, `Session::arrive`, `check_journal` and
-- others.
use Rattle.session_core.proofs.Common.{ℕ, ◌≡◌, refl, sym, ◌∙◌, subst, List, [], ◌∷◌, ◌++◌, Rules, State, StepHasOneOutcome, Event, IsStep, Leads}

-- one more step
pub Leads-push : (rules : Rules) (processes : ℕ) (S : State) (events : List Event) (T : State) (event : Event) (U : State)
    → Leads rules processes S events T → IsStep rules processes T event U → Leads rules processes S (events ++ event ∷ []) U
Leads-push rules processes S [] T event U leads step = (U, subst (λ X. IsStep rules processes X event U) leads step, refl)
Leads-push rules processes S (e ∷ events) T event U leads step =
    (leads.0, leads.1, Leads-push rules processes leads.0 events T event U leads.2 step)

-- what leads through two lists of events leads through a state between them
pub Leads-split : (rules : Rules) (processes : ℕ) (S : State) (xs ys : List Event) (T : State) → Leads rules processes S (xs ++ ys) T
    → (U : State) × Leads rules processes S xs U × Leads rules processes U ys T
Leads-split rules processes S [] ys T h = (S, refl, h)
Leads-split rules processes S (x ∷ xs) ys T h =
    let rest = Leads-split rules processes h.0 xs ys T h.2 in (rest.0, (h.0, h.1, rest.1), rest.2)

-- events lead to one state
pub Leads-unique : StepHasOneOutcome → (rules : Rules) (processes : ℕ) (S : State) (events : List Event) (T U : State)
    → Leads rules processes S events T → Leads rules processes S events U → T ≡ U
Leads-unique one rules processes S [] T U h k = h ∙ sym k
Leads-unique one rules processes S (event ∷ events) T U h k =
    let outcome : (event.notes ≡ event.notes) × (h.0 ≡ k.0) =
    one rules processes S event.p event.n event.request event.notes event.notes h.0 k.0 h.1 k.1 in
    Leads-unique one rules processes k.0 events T U (subst (λ X. Leads rules processes X events T) outcome.1 h.2) k.2

-- A list of arrivals has one drain, since a step has one outcome: for `arrivals_have_one_drain`.
use Rattle.session_core.proofs.Common.{common_steps, ℕ, ◌≡◌, ◌+◌, ◌<◌, refl, sym, ◌∙◌, ap, subst, arith, length, List, [], ◌∷◌, ◌++◌, Option, Some, IsNone, cases_lt, Rules, Request, ProcState, State, opening_state, Step, StepHasOneOutcome, Event, IsStep, events_of, requests_sent, next_untaken, IsDrained, IsNext}
use Rattle.std.proofs.Common.{append-nil, append_assoc}
use Rattle.session_core.specs.Draining.{DrainsMail, DrainsFrom}
use Rattle.session_core.specs.OneDrain.{ArrivalsHaveOneDrain}

no_mail : (mail : Option Request) (request : Request) → mail ≡ Some request → IsNone mail → ⊥
no_mail mail request is none = let nothing : IsNone (Some request) = subst IsNone is none in cc

not_below : (states : ℕ → ProcState) (sent : ℕ → List Request) (events : List Event) (event next : Event)
    → IsNext states sent events event → IsNext states sent events next → event.p < next.p → ⊥
not_below states sent events event next h k below = no_mail (next_untaken sent events event.p) event.request h.request (k.least event.p below h.live)

-- the next event is of one process
next_process : (states : ℕ → ProcState) (sent : ℕ → List Request) (events : List Event) (event next : Event)
    → IsNext states sent events event → IsNext states sent events next → event.p ≡ next.p
next_process states sent events event next h k = grind (arith, common_steps, cases_lt, not_below)

-- where mail is taken one event is next, and it leaves one state
next_event : StepHasOneOutcome → (rules : Rules) (processes : ℕ) (sent : ℕ → List Request) (events : List Event) (S : State) (event next : Event) (T U : State)
    → IsNext S.states sent events event → IsStep rules processes S event T → IsNext S.states sent events next → IsStep rules processes S next U
    → (event ≡ next) × (T ≡ U)
next_event one rules processes sent events S event next T U h step k other =
    let p : event.p ≡ next.p = next_process S.states sent events event next h k in
    let n : event.n ≡ next.n = h.number ∙ ap (λ q. length (events_of q events) + 1) p ∙ sym k.number in
    let found : next_untaken sent events next.p ≡ Some event.request = subst (λ q. next_untaken sent events q ≡ Some event.request) p h.request in
    let request : event.request ≡ next.request = let same = sym found ∙ k.request in cc in
    let first = subst (λ q. Step rules processes S q event.n event.request event.notes T) p step in
    let second = subst (λ m. Step rules processes S next.p m event.request event.notes T) n first in
    let third = subst (λ r. Step rules processes S next.p next.n r event.notes T) request second in
    let outcome : (event.notes ≡ next.notes) × (T ≡ U) = one rules processes S next.p next.n next.request event.notes next.notes T U third other in
    ((λ i. record { p = p i; n = n i; request = request i; notes = outcome.0 i }), outcome.1)

-- what is taken until there is no mail is one list of events, and leaves one state
DrainsMail-unique : StepHasOneOutcome
    → (rules : Rules) (processes : ℕ) (sent : ℕ
    → List Request) (events : List Event) (S : State) (more : List Event) (T : State) (others : List Event) (U : State)
    → DrainsMail rules processes sent events S more T → DrainsMail rules processes sent events S others U → (more ≡ others) × (T ≡ U)
DrainsMail-unique one rules processes sent events S [] T [] U h k = (refl, h.0 ∙ sym k.0)
DrainsMail-unique one rules processes sent events S [] T (next ∷ others) U h k = grind (arith, common_steps, no_mail, append-nil)
DrainsMail-unique one rules processes sent events S (event ∷ more) T [] U h k = grind (arith, common_steps, no_mail, append-nil)
DrainsMail-unique one rules processes sent events S (event ∷ more) T (next ∷ others) U h k =
    let same : (event ≡ next) × (h.0.1 ≡ k.0.1) =
    next_event one rules processes sent events S event next h.0.1 k.0.1 h.0.0 h.0.2 k.0.0 k.0.2 in
    let first : DrainsMail rules processes sent (events ++ event ∷ []) h.0.1 more T =
    (h.0.3, subst (λ l. IsDrained T.states sent l) (sym (append_assoc events (event ∷ []) more)) h.1) in
    let second : DrainsMail rules processes sent (events ++ next ∷ []) k.0.1 others U =
    (k.0.3, subst (λ l. IsDrained U.states sent l) (sym (append_assoc events (next ∷ []) others)) k.1) in
    let moved : DrainsMail rules processes sent (events ++ event ∷ []) h.0.1 others U =
    subst (λ e. DrainsMail rules processes sent (events ++ e ∷ []) h.0.1 others U) (sym same.0)
    (subst (λ X. DrainsMail rules processes sent (events ++ next ∷ []) X others U) (sym same.1) second) in
    let rest : (more ≡ others) × (T ≡ U) = DrainsMail-unique one rules processes sent (events ++ event ∷ []) h.0.1 more T others U first moved in
    ((λ i. same.0 i ∷ rest.0 i), rest.1)

-- arrival by arrival
DrainsFrom-unique : StepHasOneOutcome
    → (rules : Rules) (processes : ℕ) (arrived : List (ℕ × Request)) (events : List Event) (S : State) (later : List (ℕ × Request))
    (journal : List Event) (T : State) (other : List Event) (U : State)
    → DrainsFrom rules processes arrived events S later journal T → DrainsFrom rules processes arrived events S later other U → (journal ≡ other) × (T ≡ U)
DrainsFrom-unique one rules processes arrived events S [] journal T other U h k = (h.0 ∙ sym k.0, h.1 ∙ sym k.1)
DrainsFrom-unique one rules processes arrived events S (arrival ∷ later) journal T other U h k =
    let same : (h.0 ≡ k.0) × (h.1 ≡ k.1) =
    DrainsMail-unique one rules processes (λ p. requests_sent p (arrived ++ arrival ∷ [])) events S h.0 h.1 k.0 k.1 h.2 k.2 in
    let moved : DrainsFrom rules processes (arrived ++ arrival ∷ []) (events ++ h.0) h.1 later other U =
    subst (λ more. DrainsFrom rules processes (arrived ++ arrival ∷ []) (events ++ more) h.1 later other U) (sym same.0)
    (subst (λ X. DrainsFrom rules processes (arrived ++ arrival ∷ []) (events ++ k.0) X later other U) (sym same.1) k.3) in
    DrainsFrom-unique one rules processes (arrived ++ arrival ∷ []) (events ++ h.0) h.1 later journal T other U h.3 moved

-- from the opening
pub IsDrain-unique : StepHasOneOutcome → ArrivalsHaveOneDrain
IsDrain-unique one rules processes arrivals journal other T U h k =
    DrainsFrom-unique one rules processes [] [] opening_state arrivals journal T other U h k

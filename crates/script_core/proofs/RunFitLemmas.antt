-- The entries of an output can be written, and are a run: for `outputs_are_legal` and `outputs_are_short`.
use Rattle.script_core.proofs.Common.{common_steps, ◌≡◌, ℕ, zero, suc, ◌+◌, ◌^◌, ◌<◌, ◌≤◌, ◌==◌, List, [], ◌∷◌, ◌++◌, length, length-append, All, Some, None, IfSome, slice_get, ⊎_elim, refl, sym, ap, ◌∙◌, subst, arith, eq-eqb, ne_eqb, append_assoc, append-nil, cases_eq, All-from_recursion, recursion_from_All, filter-append}
use Rattle.script_core.proofs.Common.{opening_descriptors, Rules, Request, State, opening_state, IsSettled, marked, Event, Leads, IsStep, IsRun, AreNumbered, events_of, requests_sent, script_limit, IsWritableNote, IsWritableEvent, processes_in}
use Rattle.std.specs.List.{AllByRecursion as Each}
use Rattle.session_core.specs.Draining.{TakesMail, DrainsFrom}
use Rattle.script_core.specs.Output.{IsOutput}
use Rattle.script_core.proofs.ProcessLemmas.{IsArrivalOf, arrivals_read}
use Rattle.script_core.proofs.lengths.ArrivalLengthLemmas.{few_read}
use Rattle.script_core.proofs.FitLemmas.{Fits, each_append, settles_fit, settles_settled, nothing_granted, marked_fits}
use Rattle.script_core.proofs.OutcomeFitLemmas.{request_fits}

-- ---- a step

-- the event can be written, and the state behind it fits
record StepFits (rules : Rules) (event : Event) (T : State) : Type 0 where
  after : Fits rules.limits T
  settled : IsSettled rules.policy T
  writable : IsWritableEvent rules.limits event

step_fits : (rules : Rules) (processes : ℕ) (S : State) (event : Event) (T : State) → Fits rules.limits S → IsSettled rules.policy S
    → IsArrivalOf rules.limits (event.p, event.request) → event.n < 2 ^ 64 → IsStep rules processes S event T → StepFits rules event T
step_fits rules processes S event T fits settled of small step =
    let o = request_fits rules processes S event.p event.n event.request step.outcome
    (record { fits = fits; settled = settled; live = step.live; process = of.0; number = small }) of.1 step.comes_to in
    let told = step.outcome.told in
    let grants = step.grants in
    let behind = marked S event.p event.request step.outcome in
    let s = settles_fit rules.limits rules.policy behind grants T (marked_fits rules.limits S event.p event.request step.outcome o.after) step.settles in
    let notes = each_append (IsWritableNote rules.limits) told grants o.told s.told in
    let count = s.count in
    let size : length event.notes ≡ length told + length grants = ap length step.are_notes ∙ length-append told grants in
    let few : length event.notes ≤ 64 =
    ⊎_elim (λ all. omega (arith, size, count, all))
    (λ rest.
    let none : length grants ≡ 0 = ap length (nothing_granted rules.policy behind grants T rest.1 step.settles) in
    let own = rest.0 in omega (arith, size, none, own)) o.few in
    record {
      after = s.after;
      settled = settles_settled rules.policy behind grants T step.settles;
      writable = record {
        process = of.0;
        number = small;
        request = of.1;
        notes = subst (All (IsWritableNote rules.limits)) (sym step.are_notes) (All-from_recursion (IsWritableNote rules.limits) (told ++ grants) notes);
        few = few;
      };
    }

-- ---- mail

-- what a process sent is what arrived of it
abbrev SentOf : (ℕ × Request → Type 0) → ℕ → List (ℕ × Request) → Type 0
SentOf P p arrivals =
    (k : ℕ) (request : Request) → slice_get (requests_sent p arrivals) k ≡ Some request → P (p, request) × (k < length arrivals)

sent_here : (P : ℕ × Request → Type 0) (p q : ℕ) (first : Request) (arrivals : List (ℕ × Request)) (k : ℕ) (request : Request) → q ≡ p
    → P (q, first) → SentOf P p arrivals → slice_get (first ∷ requests_sent p arrivals) k ≡ Some request → P (p, request) × (k < length arrivals + 1)
sent_here P p q first arrivals zero request same own later is = grind (arith, common_steps)
sent_here P p q first arrivals (suc k) request same own later is =
    let rest = later k request is in let below = rest.1 in (rest.0, omega (arith, below))

sent_of : (P : ℕ × Request → Type 0) (p : ℕ) (arrivals : List (ℕ × Request)) → Each P arrivals → SentOf P p arrivals
sent_of P p [] all k request is = absurd (let bad : None ≡ Some request = is in cc)
sent_of P p ((q, first) ∷ arrivals) all k request is =
    ⊎_elim
    (λ same.
    let own : requests_sent p ((q, first) ∷ arrivals) ≡ first ∷ requests_sent p arrivals = rw (eq-eqb q p same) refl in
    let here = sent_here P p q first arrivals k request same all.0 (sent_of P p arrivals all.1) (ap (λ l. slice_get l k) (sym own) ∙ is) in
    let below = here.1 in (here.0, omega (arith, below)))
    (λ differs.
    let others : requests_sent p ((q, first) ∷ arrivals) ≡ requests_sent p arrivals = rw (ne_eqb q p differs) refl in
    let rest = sent_of P p arrivals all.1 k request (ap (λ l. slice_get l k) (sym others) ∙ is) in
    let below = rest.1 in (rest.0, omega (arith, below)))
    (cases_eq q p)

-- what is taken, with events that can be written before it
pub record TakesFit (rules : Rules) (more : List Event) (T : State) : Type 0 where
  pub after : Fits rules.limits T
  pub settled : IsSettled rules.policy T
  pub writable : Each (IsWritableEvent rules.limits) more
  pub numbers : Each (λ event. event.n ≤ script_limit + 1) more

takes_fit : (rules : Rules) (processes : ℕ) (arrivals : List (ℕ × Request)) (events : List Event) (S : State) (more : List Event) (T : State)
    → Each (IsArrivalOf rules.limits) arrivals → length arrivals ≤ script_limit + 1 → Fits rules.limits S → IsSettled rules.policy S
    → TakesMail rules processes (λ p. requests_sent p arrivals) events S more T → TakesFit rules more T
takes_fit rules processes arrivals events S [] T of few fits settled takes =
    record { after = subst (Fits rules.limits) (sym takes) fits; settled = subst (IsSettled rules.policy) (sym takes) settled; writable = tt; numbers = tt }
takes_fit rules processes arrivals events S (event ∷ more) T of few fits settled (next, between, step, rest) =
    let arrived = sent_of (IsArrivalOf rules.limits) event.p arrivals of (length (events_of event.p events)) event.request next.request in
    let below = arrived.1 in
    let number = next.number in
    let first = step_fits rules processes S event between fits settled arrived.0 (omega (arith, below, number, few)) step in
    let later = takes_fit rules processes arrivals (events ++ event ∷ []) between more T of few first.after first.settled rest in
    record {
      after = later.after;
      settled = later.settled;
      writable = (first.writable, later.writable);
      numbers = (omega (arith, below, number, few), later.numbers);
    }

drains_fit : (rules : Rules) (processes : ℕ) (arrived : List (ℕ × Request)) (events : List Event) (S : State) (later : List (ℕ × Request))
    (journal : List Event) (T : State) → Each (IsArrivalOf rules.limits) (arrived ++ later) → length (arrived ++ later) ≤ script_limit + 1
    → TakesFit rules events S → DrainsFrom rules processes arrived events S later journal T → TakesFit rules journal T
drains_fit rules processes arrived events S [] journal T of few fits drains =
    subst (λ l. TakesFit rules l T) (sym drains.0) (subst (λ X. TakesFit rules events X) (sym drains.1) fits)
drains_fit rules processes arrived events S (arrival ∷ later) journal T of few fits (more, between, takes, rest) =
    let now = arrived ++ arrival ∷ [] in
    let cut : arrived ++ arrival ∷ later ≡ now ++ later = sym (append_assoc arrived (arrival ∷ []) later) in
    let all = subst (Each (IsArrivalOf rules.limits)) cut of in
    let many : length (now ++ later) ≤ script_limit + 1 = subst (λ l. length l ≤ script_limit + 1) cut few in
    let size = length-append now later in
    let first = takes_fit rules processes now events S more between (each_front (IsArrivalOf rules.limits) now later all) (omega (arith, many, size)) fits.after
    fits.settled takes.0 in
    drains_fit rules processes now (events ++ more) between later journal T all many
    (record {
      after = first.after;
      settled = first.settled;
      writable = each_append (IsWritableEvent rules.limits) events more fits.writable first.writable;
      numbers = each_append (λ (event : Event). event.n ≤ script_limit + 1) events more fits.numbers first.numbers;
    }) rest
  where
    each_front : {X : Type 0} (P : X → Type 0) (xs ys : List X) → Each P (xs ++ ys) → Each P xs
    each_front P [] ys all = tt
    each_front P (x ∷ xs) ys all = (all.0, each_front P xs ys all.1)

-- ---- a drain is a run

leads_then : (rules : Rules) (processes : ℕ) (S : State) (xs ys : List Event) (U T : State) → Leads rules processes S xs U → Leads rules processes U ys T
    → Leads rules processes S (xs ++ ys) T
leads_then rules processes S [] ys U T first second = subst (λ X. Leads rules processes X ys T) first second
leads_then rules processes S (x ∷ xs) ys U T first second = (first.0, first.1, leads_then rules processes first.0 xs ys U T first.2 second)

push_each : {X : Type 0} (Q : ℕ → X → Type 0) (xs : List X) (x : X) → ((k : ℕ) → IfSome (slice_get xs k) (Q k)) → Q (length xs) x
    → (k : ℕ) → IfSome (slice_get (xs ++ x ∷ []) k) (Q k)
push_each Q [] x before is zero = is
push_each Q [] x before is (suc k) = tt
push_each Q (y ∷ xs) x before is zero = before zero
push_each Q (y ∷ xs) x before is (suc k) = push_each (λ k. Q (suc k)) xs x (λ k. before (suc k)) is k

numbered_more : (events : List Event) (event : Event) → AreNumbered events → event.n ≡ length (events_of event.p events) + 1
    → AreNumbered (events ++ event ∷ [])
numbered_more events event before number p place =
    let cut = filter-append (λ (other : Event). other.p == p) events (event ∷ []) in
    let Q = λ (k : ℕ) (other : Event). other.n ≡ k + 1 in
    ⊎_elim
    (λ same.
    let own : events_of p (events ++ event ∷ []) ≡ events_of p events ++ event ∷ [] = cut ∙ rw (eq-eqb event.p p same) refl in
    subst (λ l. IfSome (slice_get l place) (Q place)) (sym own)
    (push_each Q (events_of p events) event (before p) (number ∙ ap (λ q. length (events_of q events) + 1) same) place))
    (λ differs.
    let own : events_of p (events ++ event ∷ []) ≡ events_of p events = cut ∙ rw (ne_eqb event.p p differs) (append-nil (events_of p events)) in
    subst (λ l. IfSome (slice_get l place) (Q place)) (sym own) (before p place))
    (cases_eq event.p p)

takes_run : (rules : Rules) (processes : ℕ) (sent : ℕ → List Request) (events : List Event) (S : State) (more : List Event) (T : State)
    → AreNumbered events → TakesMail rules processes sent events S more T → Leads rules processes S more T × AreNumbered (events ++ more)
takes_run rules processes sent events S [] T numbered takes = (takes, subst AreNumbered (sym (append-nil events)) numbered)
takes_run rules processes sent events S (event ∷ more) T numbered (next, between, step, rest) =
    let later = takes_run rules processes sent (events ++ event ∷ []) between more T (numbered_more events event numbered next.number) rest in
    ((between, step, later.0), subst AreNumbered (append_assoc events (event ∷ []) more) later.1)

drains_run : (rules : Rules) (processes : ℕ) (arrived : List (ℕ × Request)) (events : List Event) (S : State) (later : List (ℕ × Request))
    (journal : List Event) (T : State) → Leads rules processes opening_state events S → AreNumbered events
    → DrainsFrom rules processes arrived events S later journal T → IsRun rules processes journal T
drains_run rules processes arrived events S [] journal T leads numbered drains = grind (arith, common_steps)
drains_run rules processes arrived events S (arrival ∷ later) journal T leads numbered (more, between, takes, rest) =
    let first = takes_run rules processes (λ p. requests_sent p (arrived ++ arrival ∷ [])) events S more between numbered takes.0 in
    drains_run rules processes (arrived ++ arrival ∷ []) (events ++ more) between later journal T
    (leads_then rules processes opening_state events more S between leads first.0) first.1 rest

-- ---- an output

pub run_of_output : (bytes text : List ℕ) (output : IsOutput bytes text)
    → IsRun output.script.rules (processes_in output.script) output.journal output.state
run_of_output bytes text output = grind (arith, common_steps, drains_run)

opening_fits : (rules : Rules) → Fits rules.limits opening_state × IsSettled rules.policy opening_state
unfolding opening_state opening_descriptors
opening_fits rules = grind (arith, common_steps, eq-eqb, cases_eq)

pub output_fits : (bytes text : List ℕ) (output : IsOutput bytes text) → TakesFit output.script.rules output.journal output.state
output_fits bytes text output =
    let script = output.script in
    let opening = opening_fits script.rules in
    drains_fit script.rules (processes_in script) [] [] opening_state script.arrivals output.journal output.state
    (recursion_from_All (IsArrivalOf script.rules.limits) script.arrivals (arrivals_read bytes script output.accepted))
    (few_read bytes script output.accepted)
    (record { after = opening.0; settled = opening.1; writable = tt; numbers = tt }) output.drained

pub writable_output : (bytes text : List ℕ) (output : IsOutput bytes text) → All (IsWritableEvent output.script.rules.limits) output.journal
writable_output bytes text output =
    All-from_recursion (IsWritableEvent output.script.rules.limits) output.journal (output_fits bytes text output).writable

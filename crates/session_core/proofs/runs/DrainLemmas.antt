-- Draining: one more event taken, and one more arrival; for `Sequencer::deliver` and `run_all`.
use Rattle.session_core.proofs.Common.{common_steps, rules, ℕ, suc, ◌≡◌, ◌+◌, ◌<◌, refl, sym, ◌∙◌, ap, subst, arith, eq-eqb, length, length-append, List, [], ◌∷◌, ◌++◌, Result, Err, get_or, take, drop, ◌==◌, if◌then◌else◌, cases_eq, append-nil, append_assoc, map-append, filter-append, Rules, Request, ProcState, State, opening_state, Event, IsStep, requests_sent, IsNext, IsDrained}
use Rattle.std.proofs.lemmas.List.{take-append-drop, drop_more}
use Rattle.session_core.specs.Draining.{TakesMail, DrainsMail, DrainsFrom, IsDrain}

-- what is next doesn't depend on how the states, the mail and the events are written
pub IsNext-along : (states states' : ℕ → ProcState) (sent sent' : ℕ → List Request) (events events' : List Event) (event : Event)
    → ((p : ℕ) → states p ≡ states' p) → ((p : ℕ) → sent p ≡ sent' p) → events ≡ events' → IsNext states sent events event
    → IsNext states' sent' events' event
IsNext-along states states' sent sent' events events' event same_states same_sent same_events h = grind (arith, common_steps)

pub IsDrained-along : (states states' : ℕ → ProcState) (sent sent' : ℕ → List Request) (events events' : List Event)
    → ((p : ℕ) → states p ≡ states' p) → ((p : ℕ) → sent p ≡ sent' p) → events ≡ events' → IsDrained states sent events
    → IsDrained states' sent' events'
IsDrained-along states states' sent sent' events events' same_states same_sent same_events h = grind (arith, common_steps)

pub DrainsMail-along : (rules rules' : Rules) (processes processes' : ℕ) (sent sent' : ℕ → List Request) (events events' : List Event)
    (S : State) (more : List Event) (T : State) → rules ≡ rules' → processes ≡ processes' → ((p : ℕ) → sent p ≡ sent' p)
    → events ≡ events' → DrainsMail rules processes sent events S more T → DrainsMail rules' processes' sent' events' S more T
DrainsMail-along rules rules' processes processes' sent sent' events events' S more T same_rules same_processes same_sent same_events h =
    grind (arith, common_steps)

-- one more event taken
pub TakesMail-push : (rules : Rules) (processes : ℕ) (sent : ℕ → List Request) (events : List Event) (S : State) (more : List Event)
    (T : State) (event : Event) (U : State) → TakesMail rules processes sent events S more T
    → IsNext T.states sent (events ++ more) event → IsStep rules processes T event U
    → TakesMail rules processes sent events S (more ++ event ∷ []) U
TakesMail-push rules processes sent events S [] T event U takes next step =
    let here : IsNext T.states sent events event = subst (λ l. IsNext T.states sent l event) (append-nil events) next in
    (subst (λ X. IsNext X.states sent events event) takes here, U, subst (λ X. IsStep rules processes X event U) takes step, refl)
TakesMail-push rules processes sent events S (e ∷ more) T event U takes next step = (
  takes.0,
  takes.1,
  takes.2,
  TakesMail-push rules processes sent (events ++ e ∷ []) takes.1 more T event U takes.3
      (subst (λ l. IsNext T.states sent l event) (sym (append_assoc events (e ∷ []) more)) next) step,
)

-- one more arrival, and the mail taken after it
DrainsFrom-push : (rules : Rules) (processes : ℕ) (arrived : List (ℕ × Request)) (events : List Event) (S : State)
    (later : List (ℕ × Request)) (journal : List Event) (T : State) (arrival : ℕ × Request) (more : List Event) (U : State)
    → DrainsFrom rules processes arrived events S later journal T
    → DrainsMail rules processes (λ p. requests_sent p (arrived ++ later ++ arrival ∷ [])) journal T more U
    → DrainsFrom rules processes arrived events S (later ++ arrival ∷ []) (journal ++ more) U
DrainsFrom-push rules processes arrived events S [] journal T arrival more U drains mail =
    let all : arrived ++ [] ++ arrival ∷ [] ≡ arrived ++ arrival ∷ [] = ap (λ l. l ++ arrival ∷ []) (append-nil arrived) in
    let first = subst (λ l. DrainsMail rules processes (λ p. requests_sent p l) journal T more U) all mail in
    let second = subst (λ l. DrainsMail rules processes (λ p. requests_sent p (arrived ++ arrival ∷ [])) l T more U) drains.0 first in
    let third = subst (λ X. DrainsMail rules processes (λ p. requests_sent p (arrived ++ arrival ∷ [])) events X more U) drains.1 second in
    (more, U, third, (ap (λ l. l ++ more) drains.0, refl))
DrainsFrom-push rules processes arrived events S (a ∷ later) journal T arrival more U drains mail =
    let all : arrived ++ (a ∷ later) ++ arrival ∷ [] ≡ arrived ++ a ∷ [] ++ later ++ arrival ∷ [] =
    ap (λ l. l ++ arrival ∷ []) (sym (append_assoc arrived (a ∷ []) later)) in (
      drains.0,
      drains.1,
      drains.2,
      DrainsFrom-push rules processes (arrived ++ a ∷ []) (events ++ drains.0) drains.1 later journal T arrival more U drains.3
          (subst (λ l. DrainsMail rules processes (λ p. requests_sent p l) journal T more U) all mail),
    )

pub IsDrain-push : (rules : Rules) (processes : ℕ) (arrivals : List (ℕ × Request)) (journal : List Event) (T : State)
    (arrival : ℕ × Request) (more : List Event) (U : State) → IsDrain rules processes arrivals journal T
    → DrainsMail rules processes (λ p. requests_sent p (arrivals ++ arrival ∷ [])) journal T more U
    → IsDrain rules processes (arrivals ++ arrival ∷ []) (journal ++ more) U
IsDrain-push rules processes arrivals journal T arrival more U drains mail =
    DrainsFrom-push rules processes [] [] opening_state arrivals journal T arrival more U drains mail

-- what was sent with one arrival more
pub requests_sent-push : (p : ℕ) (arrivals : List (ℕ × Request)) (q : ℕ) (request : Request)
    → requests_sent p (arrivals ++ (q, request) ∷ []) ≡ (if p == q then requests_sent p arrivals ++ request ∷ [] else requests_sent p arrivals)
requests_sent-push p arrivals q request = grind (arith, common_steps, filter-append, eq-eqb, map-append, append-nil, cases_eq)

requests_sent-append : (p : ℕ) (xs ys : List (ℕ × Request)) → requests_sent p (xs ++ ys) ≡ requests_sent p xs ++ requests_sent p ys
requests_sent-append p xs ys = grind (arith, common_steps, filter-append, map-append)

-- one arrival past the most is too many
pub too_many : (arrivals : List (ℕ × Request)) (i : ℕ) (d : ℕ × Request) (most : ℕ) → i < length arrivals
    → length (requests_sent (get_or arrivals i d).0 (take i arrivals)) ≡ most
    → most < length (requests_sent (get_or arrivals i d).0 arrivals)
too_many arrivals i d most within full =
    let p = (get_or arrivals i d).0 in
    let rest = drop (i + 1) arrivals in
    let split : arrivals ≡ take i arrivals ++ get_or arrivals i d ∷ rest =
    sym (take-append-drop i arrivals) ∙ ap (λ l. take i arrivals ++ l) (drop_more arrivals i d within) in
    let requests : requests_sent p arrivals ≡ requests_sent p (take i arrivals) ++ requests_sent p (get_or arrivals i d ∷ rest) =
    ap (requests_sent p) split ∙ requests_sent-append p (take i arrivals) (get_or arrivals i d ∷ rest) in
    let own : requests_sent p (get_or arrivals i d ∷ rest) ≡ (get_or arrivals i d).1 ∷ requests_sent p rest = rw (eq-eqb p p refl) refl in
    let long : length (requests_sent p arrivals) ≡ length (requests_sent p (take i arrivals)) + suc (length (requests_sent p rest)) =
    ap length requests ∙ length-append (requests_sent p (take i arrivals)) (requests_sent p (get_or arrivals i d ∷ rest))
    ∙ ap (λ l. length (requests_sent p (take i arrivals)) + length l) own in
    omega arith

-- an answer has one fault
pub Err-unique : {T E : Type 0} (result : Result T E) (x y : E) → result ≡ Err x → result ≡ Err y → x ≡ y
Err-unique result x y first second = cc

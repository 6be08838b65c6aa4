-- The run of a script is a complete one: for `outcome_of`.
use Rattle.std.proofs.Common.{◌≡◌, ◌∙◌, ℕ, zero, suc, ◌+◌, Some, List, [], ◌∷◌, ◌++◌, length, slice_get, map, filter, ◌==◌, append_assoc, append-nil, refl, sym, ap, subst}
use Rattle.std.specs.Prelude.{IsNone}
use Rattle.std.proofs.lemmas.Bool.{false≢true}
use Rattle.std.proofs.lemmas.List.{length-map, map-append}
use Rattle.std.proofs.lemmas.List.Elements.{filter-append}
use Rattle.lock_manager.specs.declared.request.Request.{Request}
use Rattle.lock_manager.specs.State.{State, opening_state}
use Rattle.session_core.specs.Event.{Event}
use Rattle.session_core.specs.Runs.{events_of}
use Rattle.session_core.specs.Mail.{requests_sent, requests_taken}
use Rattle.session_core.specs.Draining.{IsDrain, IsDrained, DrainsFrom, TakesMail}
use Rattle.session_core.proofs.MailLemmas.{slice_get-behind}
use Rattle.script_core.specs.ScriptText.{Meaning}
use Rattle.script_core.specs.Output.{processes_in}
use Rattle.explore_core.specs.Orders.{IsFront}
use Rattle.script_orders.specs.Fronts.{RunsAreFronts}
use Rattle.script_search.specs.Complete.{IsCompleteRun}

-- what stands in a front of a list stands in the list
there_still : (xs ys : List Request) (i : ℕ) (x : Request) → slice_get xs i ≡ Some x → slice_get (xs ++ ys) i ≡ Some x
there_still [] ys i x there = absurd (cc)
there_still (y ∷ xs) ys zero x there = there
there_still (y ∷ xs) ys (suc i) x there = there_still xs ys i x there

-- what a process sent in two parts
sent_both : (p : ℕ) (xs ys : List (ℕ × Request)) → requests_sent p (xs ++ ys) ≡ requests_sent p xs ++ requests_sent p ys
sent_both p xs ys =
    ap (map (λ (arrival : ℕ × Request). arrival.1)) (filter-append (λ (arrival : ℕ × Request). arrival.0 == p) xs ys)
    ∙ map-append (λ (arrival : ℕ × Request). arrival.1) (filter (λ (arrival : ℕ × Request). arrival.0 == p) xs)
    (filter (λ (arrival : ℕ × Request). arrival.0 == p) ys)

-- nothing stands behind a list where nothing comes next
nothing_left : (rest : List Request) → IsNone (slice_get rest 0) → rest ≡ []
nothing_left [] none = refl
nothing_left (x ∷ rest) none = absurd (false≢true (sym none))

module _ (runs : RunsAreFronts) (script : Meaning) where
  -- what was sent by the time that the first of the arrivals came
  abbrev sent : List (ℕ × Request) → ℕ → List Request
  sent arrived p = requests_sent p arrived

  takes_front : (arrived later : List (ℕ × Request)) (events : List Event) (S : State) (more : List Event) (T : State) → script.arrivals ≡ arrived ++ later
      → IsFront script events S → TakesMail script.rules (processes_in script) (sent arrived) events S more T → IsFront script (events ++ more) T
  takes_front arrived later events S [] T is front takes =
      subst (λ (X : State). IsFront script (events ++ []) X) (sym takes)
      (subst (λ (l : List Event). IsFront script l S) (sym (append-nil events)) front)
  takes_front arrived later events S (event ∷ more) T is front takes =
      let next = takes.0 in
      let all : requests_sent event.p script.arrivals ≡ requests_sent event.p arrived ++ requests_sent event.p later =
      ap (requests_sent event.p) is ∙ sent_both event.p arrived later in
      let there : slice_get (requests_sent event.p script.arrivals) (length (events_of event.p events)) ≡ Some event.request =
      ap (λ (l : List Request). slice_get l (length (events_of event.p events))) all
      ∙ there_still (requests_sent event.p arrived) (requests_sent event.p later) (length (events_of event.p events)) event.request next.request in
      subst (λ (l : List Event). IsFront script l T) (append_assoc events (event ∷ []) more)
      (takes_front arrived later (events ++ event ∷ []) takes.1 more T is (runs.more script events S event takes.1 front takes.2 next.number there) takes.3)

  drains_front : (arrived : List (ℕ × Request)) (events : List Event) (S : State) (later : List (ℕ × Request)) (journal : List Event) (T : State)
      → script.arrivals ≡ arrived ++ later → IsFront script events S → IsDrained S.states (sent arrived) events
      → DrainsFrom script.rules (processes_in script) arrived events S later journal T
      → IsFront script journal T × IsDrained T.states (sent script.arrivals) journal
  drains_front arrived events S [] journal T is front drained drains =
      let all : script.arrivals ≡ arrived = is ∙ append-nil arrived in (
        subst (λ (X : State). IsFront script journal X) (sym drains.1) (subst (λ (l : List Event). IsFront script l S) (sym drains.0) front),
        subst (λ (a : List (ℕ × Request)). IsDrained T.states (sent a) journal) (sym all)
            (subst (λ (X : State). IsDrained X.states (sent arrived) journal) (sym drains.1)
            (subst (λ (l : List Event). IsDrained S.states (sent arrived) l) (sym drains.0) drained)),
      )
  drains_front arrived events S (arrival ∷ later) journal T is front drained drains =
      let now = arrived ++ arrival ∷ [] in
      let cut : script.arrivals ≡ now ++ later = is ∙ sym (append_assoc arrived (arrival ∷ []) later) in
      drains_front now (events ++ drains.0) drains.1 later journal T cut (takes_front now later events S drains.0 drains.1 cut front drains.2.0) drains.2.1
      drains.3

  pub complete_drain : (journal : List Event) (S : State) → IsDrain script.rules (processes_in script) script.arrivals journal S
      → IsCompleteRun script journal S
  complete_drain journal S drains =
      let opening : IsFront script [] opening_state =
      record {
        run = record { leads = refl; numbered = λ p n. tt };
        taken_in_order = λ p of. (requests_sent p script.arrivals, refl);
      } in
      let end = drains_front [] [] opening_state script.arrivals journal S refl opening (λ p live. refl) drains in
      record {
        front = end.0;
        all_taken = λ p process live.
            let prefix = end.0.taken_in_order p process in
            let taken = requests_taken p journal in
            let long : length taken ≡ length (events_of p journal) = length-map (events_of p journal) (λ (e : Event). e.request) in
            let next : slice_get (requests_sent p script.arrivals) (length (events_of p journal)) ≡ slice_get prefix.0 0 =
            ap (λ (n : ℕ). slice_get (requests_sent p script.arrivals) n) (sym long) ∙ ap (λ (l : List Request). slice_get l (length taken)) prefix.1
            ∙ slice_get-behind taken prefix.0 in
            let none = nothing_left prefix.0 (subst IsNone next (end.1 p live)) in
            sym (prefix.1 ∙ ap (λ (l : List Request). taken ++ l) none ∙ append-nil taken);
      }

-- Runs made again: their fronts, the one state that they leave, and one more event; for `Replay::answered`, `check_journal`,
-- `JournalChecker::manager` and others.
use Rattle.session_core.proofs.Common.{common_steps, rules, ℕ, zero, suc, ◌≡◌, ◌≢◌, ◌+◌, ◌-◌, ◌<◌, ◌≤◌, None, refl, sym, ◌∙◌, ap, subst, arith, length, List, [], ◌∷◌, ◌++◌, ⊎_elim, Some, IfSome, slice_get, get_or, set, take, drop, length-append, ◌==◌, cases_eq, cases_lt, append_assoc, filter-append}
use Rattle.session_core.proofs.Common.{Rules, Note, Unborn, State, opening_state, Step, StepHasOneOutcome, StandsFor, rules_of, processes_of, Event, IsStep, IsRun, events_of, answers_in, answers_to, latest, last_of, processes_in}
use Rattle.std.proofs.Common.{get_or-set_same, get_or-set_other, replicate}
use Rattle.std.specs.declared.vec.Vec.{Vec}
use Rattle.std.specs.declared.alloc.Global.{Global}
use Rattle.std.proofs.lemmas.List.{take-append-drop, take_more}
use Rattle.session_core.specs.declared.check.Replay.{Replay}
use Rattle.session_core.specs.Runs.{AreNumbered}
use Rattle.session_core.specs.declared.check.Expected.{Expected}
use Rattle.session_core.specs.declared.check.Expected.TheVariants.{Notes}
use Rattle.session_core.specs.Legality.{WouldHave}
use Rattle.session_core.specs.Checking.{IsAfter}
use Rattle.session_core.specs.Replaying.{HasMade, IsNextOf, IsOutOfTurn, Makes, Repeats, count_of}
use Rattle.session_core.proofs.tallies.Tally.{Tallies}
use Rattle.session_core.proofs.LeadsLemmas.{Leads-split, Leads-unique}
use Rattle.session_core.proofs.runs.RunLaws.{counted_answers}
use Rattle.session_core.proofs.runs.HeadlineLaws.{replayed_tallied, answers_counted, before_birth}
use Rattle.session_core.proofs.LastLemmas.{AreNumberedFrom, AreLastAnswers-push, last_past, latest_number, number_in}
use Rattle.session_core.proofs.MailLemmas.{slice_get-behind}
use Rattle.session_core.proofs.runs.JournalLemmas.{events_of-push_own, events_of-push_other, IsReplayed-push}

IfSome-front : {X : Type 0} (P : X → Type 0) (xs ys : List X) (place : ℕ) → IfSome (slice_get (xs ++ ys) place) P
    → IfSome (slice_get xs place) P
IfSome-front P [] ys place h = tt
IfSome-front P (x ∷ xs) ys zero h = h
IfSome-front P (x ∷ xs) ys (suc place) h = IfSome-front P xs ys place h

AreNumbered-front : (xs ys : List Event) → AreNumbered (xs ++ ys) → AreNumbered xs
AreNumbered-front xs ys h p place =
    IfSome-front (λ event. event.n ≡ place + 1) (events_of p xs) (events_of p ys) place
    (subst (λ l. IfSome (slice_get l place) (λ event. event.n ≡ place + 1)) (filter-append (λ event. event.p == p) xs ys) (h p place))

-- a front of a run is a run
pub IsRun-front : (rules : Rules) (processes : ℕ) (xs ys : List Event) (T : State) → IsRun rules processes (xs ++ ys) T
    → (S : State) × IsRun rules processes xs S
IsRun-front rules processes xs ys T run =
    let split = Leads-split rules processes opening_state xs ys T run.leads in
    (split.0, record { leads = split.1; numbered = AreNumbered-front xs ys run.numbered })

-- the last event of a run is a step from the state that the others leave, and has the next number of its process
record IsLastStep (rules : Rules) (processes : ℕ) (S : State) (events : List Event) (event : Event) (T : State) : Type 0 where
  step : IsStep rules processes S event T
  number : event.n ≡ length (events_of event.p events) + 1

IsRun-last : StepHasOneOutcome → (rules : Rules) (processes : ℕ) (events : List Event) (S : State) (event : Event) (T : State)
    → IsRun rules processes events S → IsRun rules processes (events ++ event ∷ []) T → IsLastStep rules processes S events event T
IsRun-last one rules processes events S event T before run =
    let split = Leads-split rules processes opening_state events (event ∷ []) T run.leads in
    let same : split.0 ≡ S = Leads-unique one rules processes opening_state events split.0 S split.1 before.leads in
    let last : IsStep rules processes split.0 event split.2.0 = split.2.1 in
    let place = length (events_of event.p events) in
    let found : slice_get (events_of event.p (events ++ event ∷ [])) place ≡ Some event =
    ap (λ l. slice_get l place) (events_of-push_own event.p events event refl) ∙ slice_get-behind (events_of event.p events) (event ∷ []) in
    record {
      step = subst (λ X. IsStep rules processes X event T) same (subst (λ X. IsStep rules processes split.0 event X) (sym split.2.2) last);
      number = subst (λ o. IfSome o (λ e. e.n ≡ place + 1)) found (run.numbered event.p place);
    }

-- the run that was made, under the rules that are given
made_run : (rules : Rules) (processes : ℕ) (replay : Replay) (events : List Event) → (made : HasMade rules processes replay events)
    → IsRun rules processes events made.replayed.state
made_run rules processes replay events made = grind (arith, common_steps)

pub run_of : (rules : Rules) (processes : ℕ) (replay : Replay) (events : List Event) → HasMade rules processes replay events
    → (T : State) × IsRun rules processes events T
run_of rules processes replay events made = (made.replayed.state, made_run rules processes replay events made)

-- an event with which the run goes on is the next of its process
IsNextOf-run : StepHasOneOutcome → (rules : Rules) (processes : ℕ) (replay : Replay) (events : List Event) (event : Event) (T : State)
    → HasMade rules processes replay events → IsRun rules processes (events ++ event ∷ []) T → IsNextOf replay event
IsNextOf-run one rules processes replay events event T made run =
    let r = made.replayed in
    let last = IsRun-last one rules processes events r.state event T (made_run rules processes replay events made) run in
    let tallied = replayed_tallied replay.manager events (rw made.processes_are made.some) r in
    let born = tallied.tallies.born event.p (λ unborn. let no = sym last.step.live ∙ unborn in cc) in
    record {
      able = record { low = born.low; high = born.high; live = r.stands.states event.p ∙ last.step.live };
      number = last.number ∙ ap (λ k. k + 1) (sym (made.counts event.p));
    }

-- where no run goes on with the event, none begins with the events before it and then it
not_begun : (rules : Rules) (processes : ℕ) (events : List Event) (event : Event)
    → ((T : State) → ¬ IsRun rules processes (events ++ event ∷ []) T)
    → (more : List Event) (T : State) → ¬ IsRun rules processes (events ++ event ∷ more) T
not_begun rules processes events event none more T run =
    let front =
    IsRun-front rules processes (events ++ event ∷ []) more T
    (subst (λ l. IsRun rules processes l T) (sym (append_assoc events (event ∷ []) more)) run) in
    none front.0 front.1

not_next : (replay : Replay) (event : Event) (expected : Expected) → IsOutOfTurn replay event expected → ¬ IsNextOf replay event
not_next replay event expected h h2 = grind (arith, common_steps)

WouldHave-out_of_turn : (rules : Rules) (processes : ℕ) (replay : Replay) (events : List Event) (event : Event) (expected : Expected)
    → (made : HasMade rules processes replay events) → IsOutOfTurn replay event expected
    → WouldHave rules processes events made.replayed.state event expected
WouldHave-out_of_turn rules processes replay events event expected made h = grind (arith, common_steps)

-- where the event is out of turn it is illegal
pub Repeats-out_of_turn : StepHasOneOutcome → (old new : Replay) (event : Event) (expected : Expected) → IsOutOfTurn old event expected
    → Repeats old new event (Some expected)
Repeats-out_of_turn one old new event expected out rules processes events made =
    record {
      state = made.replayed.state;
      run = made_run rules processes old events made;
      would_have = WouldHave-out_of_turn rules processes old events event expected made out;
      none =
          not_begun rules processes events event
          (λ T run. not_next old event expected out (IsNextOf-run one rules processes old events event T made run));
    }

count_elsewhere : (counts : List ℕ) (place n p : ℕ) → suc place ≢ p → count_of (set counts place n) p ≡ count_of counts p
count_elsewhere counts place n p h = grind (arith, common_steps, get_or-set_other)

-- the counts with one more request of the process of one more event
count_of-push : (counts : List ℕ) (place : ℕ) (events : List Event) (event : Event) → suc place ≡ event.p → place < length counts
    → event.n ≡ count_of counts event.p + 1 → ((p : ℕ) → count_of counts p ≡ length (events_of p events)) → (p : ℕ)
    → count_of (set counts place event.n) p ≡ length (events_of p (events ++ event ∷ []))
count_of-push counts place events event h h2 h3 h4 p =
    grind (arith, common_steps, events_of-push_own, length-append, get_or-set_same, events_of-push_other, count_elsewhere, cases_eq)

-- one more event, which the replay's manager told: the event's process and number are the next, and so many notes were told
pub Makes-told : (old new : Replay) (event : Event) (place : ℕ) (notes : List Note) → IsNextOf old event → place ≡ event.p - 1
    → new.taken.items ≡ set old.taken.items place event.n → rules_of new.manager ≡ rules_of old.manager
    → processes_of new.manager ≡ processes_of old.manager
    → ((S : State) → StandsFor old.manager S → (T : State)
    × Step (rules_of old.manager) (processes_of old.manager) S event.p event.n event.request notes T × StandsFor new.manager T)
    → processes_in new.answers ≡ processes_in old.answers
    → ((p : ℕ) → 1 ≤ p → p ≤ processes_in old.answers → last_of new.answers p ≡ latest (last_of old.answers p) (answers_in p 0 notes))
    → Makes old new (record event { notes = notes })
Makes-told old new event place notes next at taken same_rules same_processes steps as_many latest_told rules processes events made =
    let told : Event = record event { notes = notes } in
    let number : event.n ≡ length (events_of event.p events) + 1 = next.number ∙ ap (λ k. k + 1) (made.counts event.p) in
    let low : 1 ≤ event.p = next.able.low in
    let high : event.p ≤ processes_of old.manager = next.able.high in
    let many : length old.taken.items ≡ processes_of old.manager = old.one_each in
    let there : suc place ≡ event.p = omega arith in
    let within : place < length old.taken.items = omega arith in
    record {
      some = made.some;
      rules_are = same_rules ∙ made.rules_are;
      processes_are = same_processes ∙ made.processes_are;
      replayed = IsReplayed-push old.manager new.manager events told number same_rules same_processes steps made.replayed;
      counts = λ p.
          subst (λ counts. count_of counts p ≡ length (events_of p (events ++ told ∷ []))) (sym taken)
          (count_of-push old.taken.items place events told there within next.number made.counts p);
      answered = AreLastAnswers-push processes old.answers new.answers events (events ++ told ∷ []) told refl as_many latest_told made.answered;
    }

-- the step of the event's request was made, and told other notes: the event is illegal
pub Repeats-other_notes : StepHasOneOutcome → (old new : Replay) (event : Event) (notes : Vec Note Global) → notes.items ≢ event.notes
    → Makes old new (record event { notes = notes.items }) → Repeats old new event (Some (Notes notes))
Repeats-other_notes one old new event notes other makes rules processes events made =
    let told : Event = record event { notes = notes.items } in
    let state = made.replayed.state in
    let run = made_run rules processes old events made in
    let more = run_of rules processes new (events ++ told ∷ []) (makes rules processes events made) in
    let made_step = (IsRun-last one rules processes events state told more.0 run more.1).step in
    record {
      state = state;
      run = run;
      would_have = (other, more);
      none =
          not_begun rules processes events event
          (λ T run'.
          let step = (IsRun-last one rules processes events state event T run run').step in
          other (one rules processes state event.p event.n event.request notes.items event.notes more.0 T made_step step).0);
    }

count_of-zeros : (many p : ℕ) → count_of (replicate many 0) p ≡ 0
count_of-zeros many p = grind (arith, common_steps)

-- at the opening no event was made
pub HasMade-opening : (rules : Rules) (processes : ℕ) (replay : Replay) (many : ℕ) → 1 ≤ processes → rules_of replay.manager ≡ rules
    → processes_of replay.manager ≡ processes → StandsFor replay.manager opening_state → replay.taken.items ≡ replicate many 0
    → processes_in replay.answers ≡ processes → ((p : ℕ) → last_of replay.answers p ≡ None)
    → HasMade rules processes replay []
HasMade-opening rules processes replay many some rules_are processes_are opening zeros as_many none = grind (arith, common_steps, count_of-zeros)

-- the events so far with this one are so many of all
pub take_next : (events : List Event) (i : ℕ) (event : Event) → i < length events → event ≡ get_or events i event
    → take (i + 1) events ≡ take i events ++ event ∷ []
take_next events i event within at = take_more events i event within ∙ ap (λ e. take i events ++ e ∷ []) (sym at)

-- where the events so far have no run with this one, all of them have none
pub no_run : (rules : Rules) (processes : ℕ) (events : List Event) (i : ℕ) (event : Event) → i < length events
    → event ≡ get_or events i event → ((T : State) → IsRun rules processes (take i events ++ event ∷ []) T → ⊥) → (T : State)
    → IsRun rules processes events T → ⊥
no_run rules processes events i event within at none T run =
    let all : events ≡ take (i + 1) events ++ drop (i + 1) events = sym (take-append-drop (i + 1) events) in
    let front = IsRun-front rules processes (take (i + 1) events) (drop (i + 1) events) T (subst (λ l. IsRun rules processes l T) all run) in
    none front.0 (subst (λ l. IsRun rules processes l front.0) (take_next events i event within at) front.1)

-- the manager of what was made stands for each state that the events leave
pub after_made : StepHasOneOutcome → (rules : Rules) (processes : ℕ) (replay : Replay) (events : List Event) → HasMade rules processes replay events
    → IsAfter rules processes events replay.manager
after_made one rules processes replay events made = grind (arith, common_steps, made_run, Leads-unique)

-- a process that isn't there is unborn
unborn_outside : (processes : ℕ) (S : State) (taken answered : ℕ → ℕ) → Tallies processes S taken answered → (p : ℕ)
    → (1 ≤ p → p ≤ processes → ⊥) → S.states p ≡ Unborn
unborn_outside processes S taken answered t p outside = grind (arith, common_steps)

-- it was answered nothing
answers_outside : (rules : Rules) (processes : ℕ) (replay : Replay) (events : List Event) (p : ℕ) → HasMade rules processes replay events
    → (1 ≤ p → p ≤ processes → ⊥) → length (answers_to p events) ≡ 0
answers_outside rules processes replay events p made outside =
    let r = made.replayed in
    let some : 1 ≤ processes_of replay.manager = rw made.processes_are made.some in
    let tallied = replayed_tallied replay.manager events some r in
    let unborn = unborn_outside (processes_of replay.manager) r.state _ _ tallied.tallies p (λ low high. outside low (subst (λ n. p ≤ n) made.processes_are high)) in
    ap length (before_birth replay.manager events some r p (r.stands.states p ∙ unborn)).1

-- the number of the last answer to a process, also of one that isn't there, is how many answers there are
pub answered_made : (rules : Rules) (processes : ℕ) (replay : Replay) (events : List Event) (p : ℕ) → HasMade rules processes replay events
    → number_in (last_of replay.answers p) ≡ length (answers_to p events)
answered_made rules processes replay events zero made = sym (answers_outside rules processes replay events 0 made (λ low high. omega arith))
answered_made rules processes replay events (suc place) made =
    ⊎_elim
    (λ (past : processes < suc place).
    ap number_in (last_past replay.answers (suc place) (rw made.answered.one_each past))
    ∙ sym (answers_outside rules processes replay events (suc place) made (λ low high. omega arith)))
    (λ (within : suc place ≤ processes).
    ap number_in (made.answered.latest_is (suc place) (omega arith) within)
    ∙ latest_number 0 None (answers_to (suc place) events) refl numbered
    ∙ omega arith)
    (cases_lt processes (suc place))
  where
    numbered : AreNumberedFrom 0 (answers_to (suc place) events)
    numbered at =
        let r = made.replayed in
        let some : 1 ≤ processes_of replay.manager = rw made.processes_are made.some in
        let tallied = replayed_tallied replay.manager events some r in
        counted_answers 0 (answers_to (suc place) events) (answers_counted (processes_of replay.manager) events r.state tallied (suc place)) at

-- What a sequencer takes, one event after another, and with one arrival more: for `Sequencer::deliver`, `drain` and `run_all`.
use Rattle.session_core.proofs.Common.{rules, ℕ, zero, suc, ◌≡◌, ◌+◌, ◌-◌, ◌<◌, ◌≤◌, refl, sym, ◌∙◌, ap, subst, arith, eq-eqb, ne_eqb, length, List, [], ◌∷◌, ◌++◌, Some, drop, take, slice_get, get_or, ⊎_elim, inr, Result, Ok, Err, ◌==◌, if◌then◌else◌, IsNone, cases_eq, append_assoc}
use Rattle.session_core.proofs.Common.{Rules, Request, Live, StandsFor, rules_of, processes_of, state_at, Event, events_of, requests_sent, next_untaken, IsNext, IsDrained, manager_in, sent_by, waiting_at, HasTold, HasNoMail, HasRun}
use Rattle.std.proofs.Common.{OnErr}
use Rattle.std.specs.Prelude.{◌⊎◌}
use Rattle.std.proofs.lemmas.List.{length-drop, take_all, take_more}
use Rattle.session_core.specs.declared.sequencer.Sequencer.{Sequencer}
use Rattle.session_core.specs.Draining.{TakesMail}
use Rattle.session_core.specs.SequencerView.{first_waiting, HasNoneWaitingBelow, Tells, TellsOf, sent_with}
use Rattle.session_core.specs.Deliveries.{TakesOf, TellsSome, Delivers, DeliversNothing, RunsOn}
use Rattle.session_core.proofs.MailLemmas.{next_untaken-waits, next_untaken-more, all_taken}
use Rattle.session_core.proofs.runs.DrainLemmas.{IsNext-along, IsDrained-along, DrainsMail-along, TakesMail-push, IsDrain-push, requests_sent-push}

-- how many requests of the processes up to this one wait
abbrev pub waiting_left : (ℕ → List Request) → ℕ → ℕ
waiting_left waiting zero = 0
waiting_left waiting (suc k) = length (waiting (suc k)) + waiting_left waiting k

-- the first of one process was taken, and nothing of the others
abbrev pub IsTakenOf : (ℕ → List Request) → (ℕ → List Request) → ℕ → Type 0
IsTakenOf old new p = (q : ℕ) → new q ≡ (if q == p then drop 1 (old q) else old q)

waiting_left-past : (old new : ℕ → List Request) (p k : ℕ) → IsTakenOf old new p → k < p → waiting_left new k ≡ waiting_left old k
waiting_left-past old new p zero taken past = refl
waiting_left-past old new p (suc k) taken past =
    let rest = waiting_left-past old new p k taken (omega arith) in
    let same : new (suc k) ≡ old (suc k) = taken (suc k) ∙ rw (ne_eqb (suc k) p (λ e. absurd (omega arith))) refl in
    rw (same, rest) refl

-- so fewer wait then
pub waiting_left-taken : (old new : ℕ → List Request) (p k : ℕ) → IsTakenOf old new p → 1 ≤ p → p ≤ k → 0 < length (old p)
    → waiting_left new k < waiting_left old k
waiting_left-taken old new p zero taken low high some = absurd (omega arith)
waiting_left-taken old new p (suc k) taken low high some =
    ⊎_elim
    (λ here.
    let rest = waiting_left-past old new p k taken (omega arith) in
    let first : length (new (suc k)) ≡ length (old (suc k)) - 1 = (let is : new (suc k) ≡ drop 1 (old (suc k)) = taken (suc k) ∙ rw (eq-eqb (suc k) p here) refl in ap length is ∙ length-drop 1 (old (suc k))) in
    let one : 0 < length (old (suc k)) = subst (λ q. 0 < length (old q)) (sym here) some in
    omega arith)
    (λ other.
    let rest = waiting_left-taken old new p k taken low (omega arith) some in
    let same : new (suc k) ≡ old (suc k) = taken (suc k) ∙ rw (ne_eqb (suc k) p other) refl in
    let long = ap length same in
    omega arith)
    (cases_eq (suc k) p)

-- the next request of a process is the first that waits
next_is_first : (sequencer : Sequencer) (journal : List Event) (p : ℕ) → next_untaken (sent_by sequencer journal) journal p ≡ first_waiting sequencer p
unfolding sent_by waiting_at
next_is_first sequencer journal p = next_untaken-waits sequencer.mailboxes.items journal p

-- where no live process has mail at the sequencer, all is taken
drained : (sequencer : Sequencer) (journal : List Event) → HasNoMail sequencer
    → IsDrained (state_at (manager_in sequencer)) (sent_by sequencer journal) journal
drained sequencer journal none p live = subst IsNone (sym (next_is_first sequencer journal p)) (none p live)

-- what was told is the next event
next_told : (old new : Sequencer) (p : ℕ) (request : Request) (journal : List Event) (event : Event) → state_at (manager_in old) p ≡ Live
    → first_waiting old p ≡ Some request → HasNoneWaitingBelow old p → Tells old new p request journal event
    → IsNext (state_at (manager_in old)) (sent_by old journal) journal event
next_told old new p request journal event live first none tells =
    record {
      live = rw tells.process live;
      request = rw (tells.process, tells.request_is) (next_is_first old journal p ∙ first);
      least = rw tells.process (λ q below alive. subst IsNone (sym (next_is_first old journal q)) (none q below alive));
      number = rw tells.process tells.number;
    }

-- one more was taken
pub TakesOf-push : (old between new : Sequencer) (journal more : List Event) (p : ℕ) (request : Request) (event : Event)
    → state_at (manager_in between) p ≡ Live → first_waiting between p ≡ Some request → HasNoneWaitingBelow between p
    → TakesOf old between (sent_by old journal) journal more → Tells between new p request (journal ++ more) event
    → TakesOf old new (sent_by old journal) journal (more ++ event ∷ [])
TakesOf-push old between new journal more p request event live first none some tells =
    let all : (journal ++ more) ++ event ∷ [] ≡ journal ++ (more ++ event ∷ []) = append_assoc journal more (event ∷ []) in
    record {
      told = subst (HasTold new) all tells.told;
      sent = λ q. ap (λ l. sent_by new l q) (sym all) ∙ tells.sent q ∙ some.sent q;
      rules = tells.rules ∙ some.rules;
      processes = tells.processes ∙ some.processes;
      goes_on = λ S stands.
          let g = some.goes_on S stands in
          let step = tells.step g.0 g.2 in
          let next = IsNext-along (state_at (manager_in between)) g.0.states (sent_by between (journal ++ more)) (sent_by old journal) _ _ event (λ q. g.2.states q) some.sent refl (next_told between new p request (journal ++ more) event live first none tells) in
          (step.0, TakesMail-push _ _ (sent_by old journal) journal S more g.0 event step.0 g.1 next (rw (sym some.rules, sym some.processes) step.1), step.2);
    }

-- it arrived, and then so much was taken
pub TakesOf-arrived : (old between new : Sequencer) (journal more : List Event) (p : ℕ) (request : Request) → manager_in between ≡ manager_in old
    → ((q : ℕ) → sent_by between journal q ≡ sent_with old journal p request q)
    → TakesOf between new (sent_by between journal) journal more → TakesOf old new (sent_with old journal p request) journal more
TakesOf-arrived old between new journal more p request same arrived takes =
    let all : sent_by between journal ≡ sent_with old journal p request = λ i q. arrived q i in
    record {
      told = takes.told;
      sent = λ q. takes.sent q ∙ arrived q;
      rules = takes.rules ∙ ap rules_of same;
      processes = takes.processes ∙ ap processes_of same;
      goes_on = λ S stands.
          let g = takes.goes_on S (subst (λ m. StandsFor m S) (sym same) stands) in
          let mail = subst (λ m. TakesMail (rules_of m) (processes_of m) (sent_by between journal) journal S more g.0) same g.1 in
          (g.0, subst (λ sent. TakesMail (rules_of (manager_in old)) (processes_of (manager_in old)) sent journal S more g.0) all mail, g.2);
    }

-- of a process without mail all that it sent was taken
all_sent_taken : (sequencer : Sequencer) (journal : List Event) (p : ℕ) → IsNone (first_waiting sequencer p)
    → length (sent_by sequencer journal p) ≡ length (events_of p journal)
unfolding sent_by waiting_at
all_sent_taken sequencer journal p none = all_taken sequencer.mailboxes.items journal p none

-- where no live process has mail, the request that comes to one is the next event
next_passed : (old new : Sequencer) (p : ℕ) (request : Request) (journal : List Event) (event : Event) → state_at (manager_in old) p ≡ Live
    → HasNoMail old → TellsOf old new p request (sent_with old journal p request) journal event
    → IsNext (state_at (manager_in old)) (sent_with old journal p request) journal event
next_passed old new p request journal event live none tells =
    record {
      live = rw tells.process live;
      request = rw (tells.process, tells.request_is) (next_untaken-more (sent_by old journal) journal p request (all_sent_taken old journal p (none p live)));
      least = rw tells.process (λ q below alive.
          let same : sent_with old journal p request q ≡ sent_by old journal q = rw (ne_eqb q p (λ e. absurd (omega (arith, e, below)))) refl in
          subst (λ l. IsNone (slice_get l (length (events_of q journal)))) (sym same) (drained old journal none q alive));
      number = rw tells.process tells.number;
    }

-- it was taken as it came, and then so much more was
pub TakesOf-passed : (old between new : Sequencer) (journal more : List Event) (p : ℕ) (request : Request) (event : Event)
    → state_at (manager_in old) p ≡ Live → HasNoMail old → TellsOf old between p request (sent_with old journal p request) journal event
    → TakesOf between new (sent_by between (journal ++ event ∷ [])) (journal ++ event ∷ []) more
    → TakesOf old new (sent_with old journal p request) journal (event ∷ more)
TakesOf-passed old between new journal more p request event live none tells takes =
    let all = sent_with old journal p request in
    let whole : (journal ++ event ∷ []) ++ more ≡ journal ++ event ∷ more = append_assoc journal (event ∷ []) more in
    let sent : sent_by between (journal ++ event ∷ []) ≡ all = λ i q. tells.sent q i in
    record {
      told = subst (HasTold new) whole takes.told;
      sent = λ q. ap (λ l. sent_by new l q) (sym whole) ∙ takes.sent q ∙ tells.sent q;
      rules = takes.rules ∙ tells.rules;
      processes = takes.processes ∙ tells.processes;
      goes_on = λ S stands.
          let step = tells.step S stands in
          let g = takes.goes_on step.0 step.2 in
          let under = subst (λ r. TakesMail r (processes_of (manager_in between)) (sent_by between (journal ++ event ∷ [])) (journal ++ event ∷ []) step.0 more g.0) tells.rules g.1 in
          let among = subst (λ n. TakesMail (rules_of (manager_in old)) n (sent_by between (journal ++ event ∷ [])) (journal ++ event ∷ []) step.0 more g.0) tells.processes under in
          let later = subst (λ s. TakesMail (rules_of (manager_in old)) (processes_of (manager_in old)) s (journal ++ event ∷ []) step.0 more g.0) sent among in
          let next = IsNext-along (state_at (manager_in old)) S.states all all journal journal event (λ q. stands.states q) (λ q. refl) refl
          (next_passed old between p request journal event live none tells) in
          (g.0, (next, step.0, step.1, later), g.2);
    }

-- so it came, and what was taken then stands behind the text: of one that went to its mailbox
pub Delivers-arrived : (old between new : Sequencer) (p : ℕ) (request : Request) (before after : List Event) → manager_in between ≡ manager_in old
    → ((journal : List Event) (q : ℕ) → sent_by between journal q ≡ sent_with old journal p request q)
    → ((journal : List Event) → HasTold old journal → HasTold between journal) → TellsSome between new before after
    → Delivers old new p request before after
Delivers-arrived old between new p request before after same arrived kept tells =
    record {
      more = tells.more;
      is = tells.is;
      takes = λ journal told. TakesOf-arrived old between new journal tells.more p request same (arrived journal) (tells.takes journal (kept journal told));
    }

-- and of one that was taken as it came
pub Delivers-passed : (old between new : Sequencer) (p : ℕ) (request : Request) (event : Event) (before middle after : List Event)
    → state_at (manager_in old) p ≡ Live → HasNoMail old
    → ((journal : List Event) → HasTold old journal → TellsOf old between p request (sent_with old journal p request) journal event)
    → middle ≡ before ++ event ∷ [] → TellsSome between new middle after → Delivers old new p request before after
Delivers-passed old between new p request event before middle after live none passed added tells =
    record {
      more = event ∷ tells.more;
      is = tells.is ∙ ap (λ l. l ++ tells.more) added ∙ append_assoc before (event ∷ []) tells.more;
      takes = λ journal told.
          let first = passed journal told in
          TakesOf-passed old between new journal tells.more p request event live none first (tells.takes (journal ++ event ∷ []) first.told);
    }

-- whatever a refusal is
pub delivers_anyhow : {T E : Type 0} (result : Result T E) (old new : Sequencer) (p : ℕ) (request : Request) (before after : List Event)
    → Delivers old new p request before after → OnErr result (DeliversNothing old new before after ⊎ Delivers old new p request before after)
delivers_anyhow (Ok x) old new p request before after delivers = tt
delivers_anyhow (Err e) old new p request before after delivers = inr delivers

-- the arrivals were run with one more: it came, and all that could be taken then was
pub HasRun-delivered : (rules : Rules) (processes : ℕ) (arrivals : List (ℕ × Request)) (old new : Sequencer) (journal more : List Event) (p : ℕ)
    (request : Request) → HasRun rules processes arrivals old journal → TakesOf old new (sent_with old journal p request) journal more → HasNoMail new
    → HasRun rules processes (arrivals ++ (p, request) ∷ []) new (journal ++ more)
HasRun-delivered rules processes arrivals old new journal more p request h takes rest =
    let all = sent_with old journal p request in
    let g = takes.goes_on h.state h.stands in
    let sent : (q : ℕ) → all q ≡ requests_sent q (arrivals ++ (p, request) ∷ []) =
    λ q. ap (λ l. if q == p then l ++ request ∷ [] else l) (h.sent q) ∙ sym (requests_sent-push q arrivals p request) in
    let left = IsDrained-along (state_at (manager_in new)) g.0.states (sent_by new (journal ++ more)) all _ _ (λ q. g.2.states q) takes.sent refl (drained new (journal ++ more) rest) in
    let mail = DrainsMail-along _ rules _ processes all (λ q. requests_sent q (arrivals ++ (p, request) ∷ [])) journal journal h.state more g.0 h.rules_are h.processes_are sent refl (g.1, left) in
    record {
      rules_are = takes.rules ∙ h.rules_are;
      processes_are = takes.processes ∙ h.processes_are;
      told = takes.told;
      sent = λ q. takes.sent q ∙ sent q;
      state = g.0;
      drained = IsDrain-push rules processes arrivals journal h.state (p, request) more g.0 h.drained mail;
      stands = g.2;
      rest = rest;
    }

-- so what was delivered until nothing more could be taken is run on
pub RunsOn-delivered : (old new : Sequencer) (p : ℕ) (request : Request) (before after : List Event) → Delivers old new p request before after
    → HasNoMail new → RunsOn old new before after p request
RunsOn-delivered old new p request before after delivers rest =
    record {
      more = delivers.more;
      is = delivers.is;
      runs = λ rules processes arrivals journal h.
          HasRun-delivered rules processes arrivals old new journal delivers.more p request h (delivers.takes journal h.told) rest;
    }

-- one arrival more of a list
pub HasRun-more : (rules : Rules) (processes : ℕ) (arrivals : List (ℕ × Request)) (i : ℕ) (d : ℕ × Request) (old new : Sequencer)
    (before after : List Event) → i < length arrivals → HasRun rules processes (take i arrivals) old before
    → RunsOn old new before after (get_or arrivals i d).0 (get_or arrivals i d).1 → HasRun rules processes (take (i + 1) arrivals) new after
HasRun-more rules processes arrivals i d old new before after within h on =
    rw (take_more arrivals i d within, on.is) (on.runs rules processes (take i arrivals) before h)

-- up to the last one
pub all_run : (rules : Rules) (processes : ℕ) (arrivals : List (ℕ × Request)) (i : ℕ) (sequencer : Sequencer) (journal : List Event)
    → length arrivals ≤ i → HasRun rules processes (take i arrivals) sequencer journal → HasRun rules processes arrivals sequencer journal
all_run rules processes arrivals i sequencer journal end h = subst (λ l. HasRun rules processes l sequencer journal) (take_all i arrivals end) h

-- The headline, from what a session keeps: its journal is a run whose state the manager stands for; for `Replay::answered`, `Session::arrive`,
-- `check_journal` and others.
use Rattle.session_core.proofs.Common.{rules, ℕ, ◌≡◌, ◌+◌, ◌<◌, ◌≤◌, ◌⊎◌, sym, ◌∙◌, ap, subst, arith, length, List, ◌∷◌, ◌++◌, ⊎_elim, Option, Some, None, IfSome, All, slice_get, common_steps, cases_lt, length-map, All-from_recursion, IfSome_then}
use Rattle.session_core.proofs.Common.{Request, ProcState, Manager, State, opening_state, rules_of, processes_of, state_at, Event, Leads, events_of, requests_taken, answers_to, IsWaiting, IsEnded, told_process, Holds}
use Rattle.std.proofs.Common.{IfNone, map, option_map}
use Rattle.std.specs.List.{AllByRecursion as Each}
use Rattle.std.proofs.lemmas.List.{nil_from_length}
use Rattle.std.proofs.lemmas.Option.{slice_get_within}
use Rattle.lock_manager.specs.ManagerView.{IsSafeManager}
use Rattle.session_core.specs.Mail.{IsPrefixOf, reply_to}
use Rattle.session_core.specs.Draining.{IsReplayed}
use Rattle.session_core.specs.Headline.{LeavesAlone, IsQuietBeforeBirth, IsQuietAfterEnd, IsAnsweredInTurn, AreWithinLimits}
use Rattle.session_core.proofs.tallies.Tally.{AreCountedFrom, TallyAt, Each-map}
use Rattle.session_core.proofs.runs.RunLaws.{numbers_of, AreNext, AreNext-numbered, IsTallied, Leads-tallied, Leads-quiet_after, opening_tallies, answers_from-numbers, IsStrictlyIncreasing-counted, counted_answers, found_answer}

-- nothing taken and nothing answered
abbrev pub none : ℕ → ℕ
none q = 0

-- the numbers of a replayed journal follow one another
replayed_next : (manager : Manager) (journal : List Event) → IsReplayed manager journal → AreNext none journal
replayed_next manager journal r = grind (arith, common_steps, AreNext-numbered)

-- what a replayed journal leaves
pub replayed_tallied : (manager : Manager) (journal : List Event) → 1 ≤ processes_of manager → (r : IsReplayed manager journal)
    → IsTallied (processes_of manager) none none journal r.state
replayed_tallied manager journal some r = search (rules, Leads-tallied, opening_tallies, replayed_next)

-- the numbers of the answers to a process count from 1
pub answers_counted : (processes : ℕ) (journal : List Event) (T : State) → IsTallied processes none none journal T → (p : ℕ)
    → AreCountedFrom 0 (map (λ answer. answer.0) (answers_to p journal))
answers_counted processes journal T t p = subst (λ l. AreCountedFrom 0 l) (sym (answers_from-numbers p 1 journal)) (t.counted p)

-- how many of them there are
pub length-answers : (p : ℕ) (journal : List Event) → length (answers_to p journal) ≡ length (numbers_of p journal)
length-answers p journal =
    sym (length-map (answers_to p journal) (λ answer. answer.0)) ∙ ap length (answers_from-numbers p 1 journal)

-- how many answers there are to a process that stands so
tally_of : (processes : ℕ) (journal : List Event) (T : State) → IsTallied processes none none journal T → (p : ℕ)
    → TallyAt (T.states p) (length (events_of p journal)) (length (answers_to p journal))
tally_of processes journal T t p = grind (arith, common_steps, numbers_of, length-answers)

pub at_most_taken : (state : ProcState) (taken answered : ℕ) → TallyAt state taken answered → answered ≤ taken
at_most_taken state taken answered h = grind (arith, common_steps)

-- a process with a taken request that wasn't answered waits or has ended, and it was the last
unanswered_last : (state : ProcState) (taken answered place : ℕ) → TallyAt state taken answered → answered ≤ place → place < taken
    → (taken ≡ place + 1) × (IsWaiting state ⊎ IsEnded state)
unanswered_last state taken answered place h h2 h3 = grind (arith, common_steps)

IfNone-always : {X : Type 0} (o : Option X) (P : Type 0) → P → IfNone o P
IfNone-always None P h = h
IfNone-always (Some x) P h = tt

in_turn : (manager : Manager) (journal : List Event) → 1 ≤ processes_of manager → IsReplayed manager journal → (p : ℕ)
    → IsAnsweredInTurn manager journal p
in_turn manager journal some r p place event found =
    let t = replayed_tallied manager journal some r in
    let number : event.n ≡ place + 1 =
    subst (λ o. IfSome o (λ e. e.n ≡ place + 1)) found (r.run.numbered p place) in
    let taken = length (events_of p journal) in
    let answered = length (answers_to p journal) in
    ⊎_elim
    (λ within.
    let at = found_answer 0 (answers_to p journal) place event.n (answers_counted (processes_of manager) journal r.state t p) (omega arith) within in
    let is : reply_to p event.n journal ≡ Some at.0.1 = ap (λ o. option_map (λ answer. answer.1) o) at.1 in
    subst (λ o. IfNone o ((taken ≡ place + 1) × (IsWaiting (state_at manager p) ⊎ IsEnded (state_at manager p)))) (sym is) tt)
    (λ past.
    let last = unanswered_last (r.state.states p) taken answered place (tally_of (processes_of manager) journal r.state t p) past
    (slice_get_within (events_of p journal) place event found) in
    let stands = r.stands.states p in
    IfNone-always (reply_to p event.n journal) ((taken ≡ place + 1) × (IsWaiting (state_at manager p) ⊎ IsEnded (state_at manager p)))
    (last.0, subst (λ state. IsWaiting state ⊎ IsEnded state) (sym stands) last.1))
    (cases_lt place answered)

pub before_birth : (manager : Manager) (journal : List Event) → 1 ≤ processes_of manager → IsReplayed manager journal → (p : ℕ)
    → IsQuietBeforeBirth manager journal p
before_birth manager journal some r p unborn =
    let t = replayed_tallied manager journal some r in
    let nothing : (length (events_of p journal) ≡ 0) × (length (answers_to p journal) ≡ 0) =
    subst (λ state. TallyAt state (length (events_of p journal)) (length (answers_to p journal))) (sym (r.stands.states p) ∙ unborn)
    (tally_of (processes_of manager) journal r.state t p) in
    (nil_from_length (events_of p journal) nothing.0, nil_from_length (answers_to p journal) nothing.1)

quiet : (manager : Manager) (journal : List Event) → 1 ≤ processes_of manager → IsReplayed manager journal → IsQuietAfterEnd journal
quiet manager journal some r p before event after is ends =
    let next : AreNext none (before ++ event ∷ after) = subst (λ l. AreNext none l) is (replayed_next manager journal r) in
    All-from_recursion (LeavesAlone p) after
    (Leads-quiet_after (rules_of manager) (processes_of manager) opening_state before event after r.state none none
    (opening_tallies (processes_of manager) some) next
    (subst (λ l. Leads (rules_of manager) (processes_of manager) opening_state l r.state) is r.run.leads) p ends)

-- the headline holds where the journal is a run that leaves the manager's state, its requests are those that were sent,
-- the manager is safe, and there are no more processes and requests than there may be
pub Holds-from : (manager : Manager) (sent : ℕ → List Request) (journal : List Event) → AreWithinLimits manager sent
    → ((p : ℕ) → IsPrefixOf (requests_taken p journal) (sent p)) → IsSafeManager manager → IsReplayed manager journal
    → Holds manager sent journal
Holds-from manager sent journal within in_order safe r =
    let some = within.some in
    let t = replayed_tallied manager journal some r in
    record {
      taken_in_order = in_order;
      answered_once = λ p. IsStrictlyIncreasing-counted 0 _ (answers_counted (processes_of manager) journal r.state t p);
      answers_numbered = λ p place.
          IfSome_then (slice_get (answers_to p journal) place)
          (counted_answers 0 (answers_to p journal) (answers_counted (processes_of manager) journal r.state t p) place)
          (λ answer e. omega arith);
      answered_taken = λ p. at_most_taken (r.state.states p) _ _ (tally_of (processes_of manager) journal r.state t p);
      answered_in_turn = in_turn manager journal some r;
      within_limits = within;
      told_in_range =
          All-from_recursion (λ event. All (λ note. (1 ≤ told_process note) × (told_process note ≤ processes_of manager)) event.notes) journal
          (Each-map (λ event. Each (λ note. (1 ≤ told_process note) × (told_process note ≤ processes_of manager)) event.notes)
          (λ event. All (λ note. (1 ≤ told_process note) × (told_process note ≤ processes_of manager)) event.notes) journal
          (λ event h. All-from_recursion (λ note. (1 ≤ told_process note) × (told_process note ≤ processes_of manager)) event.notes h) t.in_range);
      quiet_before_birth = before_birth manager journal some r;
      quiet_after_end = quiet manager journal some r;
      safe = safe;
      replayed = r;
    }

-- What holds of every run: numbers, answers in turn, and quiet after an end; for `Replay::answered`, `check_journal`, `JournalChecker::manager` and
-- others.
use Rattle.session_core.proofs.Common.{common_steps, ℕ, zero, suc, ◌≡◌, ◌≢◌, ◌+◌, ◌<◌, ◌≤◌, refl, sym, ◌∙◌, ap, subst, arith, eq-eqb, length, length-append, List, [], ◌∷◌, ◌++◌, Some, IfSome, slice_get, get_or, ◌==◌, cases_eq, map-append, All-from_recursion, IfSome_then, Rules, Reply, Note, Answer, Waits, State, opening_state, Event, Leads, events_of, answers_in, answers_from, IsEnded, told_process, EndsProcess}
use Rattle.std.proofs.Common.{map, find}
use Rattle.std.specs.List.{AllByRecursion as Each}
use Rattle.std.specs.List.Sorted.{IsStrictlyIncreasing}
use Rattle.fd_table.specs.Descriptors.{opening_descriptors}
use Rattle.session_core.specs.Headline.{LeavesAlone}
use Rattle.session_core.proofs.tallies.Tally.{numbers_in, AreCountedFrom, AreCountedFrom-append, Tallies, Tallies-along, one_more}
use Rattle.session_core.proofs.tallies.StepLaws.{Step-tells, Step-ends}

-- the numbers of the answers to a process in these events
abbrev pub numbers_of : ℕ → List Event → List ℕ
numbers_of q [] = []
numbers_of q (event ∷ events) = numbers_in q event.notes ++ numbers_of q events

-- each event has the next number of its process, of which so many requests were taken before
abbrev pub AreNext : (ℕ → ℕ) → List Event → Type 0
AreNext taken [] = Unit {0}
AreNext taken (event ∷ events) = (event.n ≡ taken event.p + 1) × AreNext (one_more event.p taken) events

-- the numbers by process behind the first event
numbered_behind : (taken : ℕ → ℕ) (event : Event) (events : List Event)
    → ((q place : ℕ) → IfSome (slice_get (events_of q (event ∷ events)) place) (λ e. e.n ≡ taken q + place + 1)) → (q place : ℕ)
    → IfSome (slice_get (events_of q events) place) (λ e. e.n ≡ one_more event.p taken q + place + 1)
numbered_behind taken event events h q place = grind (arith, common_steps, h q (suc place), h q place, cases_eq)

-- the numbers by process are numbers one after another
pub AreNext-numbered : (taken : ℕ → ℕ) (events : List Event)
    → ((q place : ℕ) → IfSome (slice_get (events_of q events) place) (λ event. event.n ≡ taken q + place + 1)) → AreNext taken events
AreNext-numbered taken [] h = tt
AreNext-numbered taken (event ∷ events) h =
    let here : IfSome (Some event) (λ e. e.n ≡ taken event.p + 0 + 1) =
    let mine : events_of event.p (event ∷ events) ≡ event ∷ events_of event.p events = rw (eq-eqb event.p event.p refl) refl in
    subst (λ l. IfSome (slice_get l 0) (λ e. e.n ≡ taken event.p + 0 + 1)) mine (h event.p 0) in
    (omega arith, AreNext-numbered (one_more event.p taken) events (numbered_behind taken event events h))

-- what events leave: the tallies, the numbers of the answers, and whom they tell
pub record IsTallied (processes : ℕ) (taken counts : ℕ → ℕ) (events : List Event) (T : State) : Type 0 where
  pub tallies : Tallies processes T (λ q. taken q + length (events_of q events)) (λ q. counts q + length (numbers_of q events))
  pub counted : (q : ℕ) → AreCountedFrom (counts q) (numbers_of q events)
  pub in_range : Each (λ event. Each (λ note. (1 ≤ told_process note) × (told_process note ≤ processes)) event.notes) events

taken_more : (event : Event) (events : List Event) (taken : ℕ → ℕ) (q : ℕ)
    → one_more event.p taken q + length (events_of q events) ≡ taken q + length (events_of q (event ∷ events))
taken_more event events taken q = grind (arith, common_steps, cases_eq)

pub Leads-tallied : (rules : Rules) (processes : ℕ) (S : State) (events : List Event) (T : State) (taken counts : ℕ → ℕ)
    → Tallies processes S taken counts → AreNext taken events → Leads rules processes S events T
    → IsTallied processes taken counts events T
Leads-tallied rules processes S [] T taken counts t next leads =
    record {
      tallies =
          Tallies-along processes T taken counts (λ q. taken q + 0) (λ q. counts q + 0) (λ q. omega arith) (λ q. omega arith)
          (subst (λ X. Tallies processes X taken counts) (sym leads) t);
      counted = λ q. tt;
      in_range = tt;
    }
Leads-tallied rules processes S (event ∷ events) T taken counts t next leads =
    let told = Step-tells rules processes S taken counts event.p event.n event.request event.notes leads.0 t next.0 leads.1 in
    let counts' : ℕ → ℕ = λ q. counts q + length (numbers_in q event.notes) in
    let rest = Leads-tallied rules processes leads.0 events T (one_more event.p taken) counts' told.tallies next.1 leads.2 in
    record {
      tallies =
          Tallies-along processes T (λ q. one_more event.p taken q + length (events_of q events)) (λ q. counts' q + length (numbers_of q events))
          (λ q. taken q + length (events_of q (event ∷ events))) (λ q. counts q + length (numbers_of q (event ∷ events)))
          (λ q. taken_more event events taken q)
          (λ q. rw (length-append (numbers_in q event.notes) (numbers_of q events)) (omega arith))
          rest.tallies;
      counted = λ q. AreCountedFrom-append (counts q) (numbers_in q event.notes) (numbers_of q events) (told.counted q) (rest.counted q);
      in_range = (told.in_range, rest.in_range);
    }

-- events after the end of a process leave it alone
Leads-quiet : (rules : Rules) (processes : ℕ) (S : State) (events : List Event) (T : State) (taken counts : ℕ → ℕ)
    → Tallies processes S taken counts → AreNext taken events → Leads rules processes S events T → (q : ℕ) → IsEnded (S.states q)
    → Each (LeavesAlone q) events
Leads-quiet rules processes S [] T taken counts t next leads q ended = tt
Leads-quiet rules processes S (event ∷ events) T taken counts t next leads q ended =
    let told = Step-tells rules processes S taken counts event.p event.n event.request event.notes leads.0 t next.0 leads.1 in
    let counts' : ℕ → ℕ = λ q. counts q + length (numbers_in q event.notes) in
    let stays = told.ended q ended in
    let other : event.p ≢ q = λ same. subst IsEnded (ap S.states (sym same) ∙ leads.1.live) ended in (
      (other, All-from_recursion (λ note. told_process note ≢ q) event.notes stays.1),
      Leads-quiet rules processes leads.0 events T (one_more event.p taken) counts' told.tallies next.1 leads.2 q stays.0,
    )

-- after the event that ends a process all leave it alone
pub Leads-quiet_after : (rules : Rules) (processes : ℕ) (S : State) (before : List Event) (event : Event) (after : List Event) (T : State)
    (taken counts : ℕ → ℕ) → Tallies processes S taken counts → AreNext taken (before ++ event ∷ after)
    → Leads rules processes S (before ++ event ∷ after) T → (q : ℕ) → EndsProcess event q → Each (LeavesAlone q) after
Leads-quiet_after rules processes S [] event after T taken counts t next leads q ends =
    let told = Step-tells rules processes S taken counts event.p event.n event.request event.notes leads.0 t next.0 leads.1 in
    let counts' : ℕ → ℕ = λ q. counts q + length (numbers_in q event.notes) in
    Leads-quiet rules processes leads.0 after T (one_more event.p taken) counts' told.tallies next.1 leads.2 q
    (Step-ends rules processes S taken counts event leads.0 t next.0 leads.1 q ends)
Leads-quiet_after rules processes S (e ∷ before) event after T taken counts t next leads q ends =
    let told = Step-tells rules processes S taken counts e.p e.n e.request e.notes leads.0 t next.0 leads.1 in
    let counts' : ℕ → ℕ = λ q. counts q + length (numbers_in q e.notes) in
    Leads-quiet_after rules processes leads.0 before event after T (one_more e.p taken) counts' told.tallies next.1 leads.2 q ends

-- at the opening nothing was taken or answered
pub opening_tallies : (processes : ℕ) → 1 ≤ processes → Tallies processes opening_state (λ q. 0) (λ q. 0)
unfolding opening_state opening_descriptors
opening_tallies processes some = grind (arith, common_steps, cases_eq, eq-eqb)

-- the numbers of the answers are those of the notes
answers_in-numbers : (p place : ℕ) (notes : List Note) → map (λ answer. answer.0) (answers_in p place notes) ≡ numbers_in p notes
answers_in-numbers p place [] = refl
answers_in-numbers p place (Answer q n reply ∷ notes) = grind (arith, common_steps, answers_in-numbers p place notes)
answers_in-numbers p place (Waits q n ∷ notes) = answers_in-numbers p place notes

pub answers_from-numbers : (p place : ℕ) (events : List Event) → map (λ answer. answer.0) (answers_from p place events) ≡ numbers_of p events
answers_from-numbers p place [] = refl
answers_from-numbers p place (event ∷ events) =
    map-append (λ answer. answer.0) (answers_in p place event.notes) (answers_from p (place + 1) events)
    ∙ ap (λ l. l ++ map (λ answer. answer.0) (answers_from p (place + 1) events)) (answers_in-numbers p place event.notes)
    ∙ ap (λ l. numbers_in p event.notes ++ l) (answers_from-numbers p (place + 1) events)

-- counted numbers by place
counted_at : (last : ℕ) (numbers : List ℕ) → AreCountedFrom last numbers → (k : ℕ) → k < length numbers → get_or numbers k 0 ≡ last + k + 1
counted_at last [] h k within = absurd (omega arith)
counted_at last (n ∷ numbers) h zero within = omega (arith, h.0)
counted_at last (n ∷ numbers) h (suc k) within = let here = counted_at (last + 1) numbers h.1 k (omega arith) in omega arith

pub IsStrictlyIncreasing-counted : (last : ℕ) (numbers : List ℕ) → AreCountedFrom last numbers → IsStrictlyIncreasing numbers
IsStrictlyIncreasing-counted last numbers h k within = grind (arith, common_steps, counted_at)

pub counted_answers : (last : ℕ) (answers : List (ℕ × Reply × ℕ)) → AreCountedFrom last (map (λ answer. answer.0) answers) → (place : ℕ)
    → IfSome (slice_get answers place) (λ answer. answer.0 ≡ last + place + 1)
counted_answers last [] h place = tt
counted_answers last (a ∷ answers) h zero = omega (arith, h.0)
counted_answers last (a ∷ answers) h (suc place) =
    IfSome_then (slice_get answers place) (counted_answers (last + 1) answers h.1 place) (λ answer e. omega arith)

-- whoever's number was answered is found
pub found_answer : (last : ℕ) (answers : List (ℕ × Reply × ℕ)) (place n : ℕ) → AreCountedFrom last (map (λ answer. answer.0) answers)
    → n ≡ last + place + 1 → place < length answers → (answer : ℕ × Reply × ℕ) × (find (λ answer. answer.0 == n) answers ≡ Some answer)
found_answer last [] place n h is within = absurd (omega arith)
found_answer last (a ∷ answers) zero n h is within =
    let same : a.0 ≡ n = omega (arith, h.0) in (a, rw (eq-eqb a.0 n same) refl)
found_answer last (a ∷ answers) (suc place) n h is within = grind (arith, common_steps, found_answer (last + 1) answers place n)

-- A line of a journal has one answer: one meaning, and one text of what is there in its place; for `lines_have_one_answer`.
use Rattle.script_core.proofs.Common.{common_steps, rules, ◌≡◌, ℕ, ◌+◌, ◌≤◌, ◌==◌, List, [], ◌∷◌, ◌++◌, All, length, drop, inl, inr, codes, Some, IfSome, slice_get, refl, sym, ap, ◌∙◌, subst, arith, eq-eqb, filter-append, recursion_from_All}
use Rattle.script_core.proofs.Common.{LocksHaveOneReport, Rules, Note, State, StepHasOneOutcome, Event, Leads, IsStep, IsRun, events_of, Place, ReportLine, entry_text, AreTextsOf, HasFewTaken, first_due, rules_at, processes_at, AreLeft}
use Rattle.std.proofs.lemmas.List.{length-drop}
use Rattle.session_core.specs.declared.check.Expected.{Expected}
use Rattle.session_core.specs.declared.check.Expected.TheVariants.{NoRequest, NumberAfter, Notes}
use Rattle.session_core.specs.Legality.{IsIllegal, WouldHave}
use Rattle.script_core.specs.declared.place.JournalLine.TheVariants as lines
use Rattle.script_core.specs.ExpectedText.{expected_text, due_text}
use Rattle.script_core.specs.JournalReading.{LinesHaveOneMeaning}
use Rattle.script_core.specs.JournalView.{OneIsTold}
use Rattle.script_core.proofs.JournalLemmas.{one_meaning}
use Rattle.script_core.proofs.JournalReportLemmas.{some_texts, one_report}

pub one_meaning_each : LinesHaveOneMeaning
one_meaning_each place line = one_meaning place line

-- ---- what is expected in place of an entry

-- events lead to one state
one_state : StepHasOneOutcome → (rules : Rules) (processes : ℕ) (S : State) (events : List Event) (T U : State)
    → Leads rules processes S events T → Leads rules processes S events U → T ≡ U
one_state one rules processes S [] T U h k = h ∙ sym k
one_state one rules processes S (event ∷ events) T U h k =
    let outcome : (event.notes ≡ event.notes) × (h.0 ≡ k.0) =
    one rules processes S event.p event.n event.request event.notes event.notes h.0 k.0 h.1 k.1 in
    one_state one rules processes k.0 events T U (subst (λ X. Leads rules processes X events T) outcome.1 h.2) k.2

-- the last of the events is a step from the state that the others lead to
last_step : (rules : Rules) (processes : ℕ) (S : State) (events : List Event) (event : Event) (T : State) → Leads rules processes S (events ++ event ∷ []) T
    → (U : State) × Leads rules processes S events U × (V : State) × IsStep rules processes U event V
last_step rules processes S [] event T h = (S, refl, h.0, h.1)
last_step rules processes S (first ∷ events) event T h = grind (arith, common_steps, last_step rules processes h.0 events)

-- which is that state
last_step_at : StepHasOneOutcome → (rules : Rules) (processes : ℕ) (events : List Event) (event : Event) (S T : State)
    → IsRun rules processes events S → IsRun rules processes (events ++ event ∷ []) T → (V : State) × IsStep rules processes S event V
last_step_at one rules processes events event S T run more = grind (arith, common_steps, last_step, one_state)

at_end : {X : Type 0} (xs : List X) (x : X) → slice_get (xs ++ x ∷ []) (length xs) ≡ Some x
at_end [] x = refl
at_end (first ∷ xs) x = at_end xs x

-- and its number is the one behind those of its process
last_number : (rules : Rules) (processes : ℕ) (events : List Event) (event : Event) (T : State) → IsRun rules processes (events ++ event ∷ []) T
    → event.n ≡ length (events_of event.p events) + 1
last_number rules processes events event T run =
    let own = events_of event.p events in
    let all : events_of event.p (events ++ event ∷ []) ≡ own ++ event ∷ [] =
    filter-append (λ (other : Event). other.p == event.p) events (event ∷ []) ∙ rw (eq-eqb event.p event.p refl) refl in
    let here : slice_get (events_of event.p (events ++ event ∷ [])) (length own) ≡ Some event = ap (λ l. slice_get l (length own)) all ∙ at_end own event in
    subst (λ found. IfSome found (λ (other : Event). other.n ≡ length own + 1)) here (run.numbered event.p (length own))

-- what would be there is told in one way
expected_as : StepHasOneOutcome → (rules : Rules) (processes : ℕ) (events : List Event) (event : Event) (S : State) (a b : Expected)
    → IsRun rules processes events S → WouldHave rules processes events S event a → WouldHave rules processes events S event b
    → expected_text event a ≡ expected_text event b
expected_as one rules processes events event S (NoRequest state) (NoRequest other) run h k = grind (arith, common_steps)
expected_as one rules processes events event S (NoRequest state) (NumberAfter taken) run h k = absurd (h.1 (sym h.0 ∙ k.0))
expected_as one rules processes events event S (NoRequest state) (Notes notes) run h k = grind (arith, common_steps, last_step_at)
expected_as one rules processes events event S (NumberAfter taken) (NoRequest state) run h k = absurd (k.1 (sym k.0 ∙ h.0))
expected_as one rules processes events event S (NumberAfter taken) (NumberAfter other) run h k = grind (arith, common_steps)
expected_as one rules processes events event S (NumberAfter taken) (Notes notes) run h k = grind (arith, common_steps, last_number)
expected_as one rules processes events event S (Notes notes) (NoRequest state) run h k = grind (arith, common_steps, last_step_at)
expected_as one rules processes events event S (Notes notes) (NumberAfter taken) run h k = grind (arith, common_steps, last_number)
expected_as one rules processes events event S (Notes notes) (Notes others) run h k =
    let first = last_step_at one rules processes events (record event { notes = notes.items }) S h.1.0 run h.1.1 in
    let second = last_step_at one rules processes events (record event { notes = others.items }) S k.1.0 run k.1.1 in
    let same = one rules processes S event.p event.n event.request notes.items others.items first.0 second.0 first.1 second.1 in
    ap (λ (l : List Note). entry_text (record event { notes = l }) ++ codes " expected") same.0

one_expected : StepHasOneOutcome → (rules : Rules) (processes : ℕ) (events : List Event) (event : Event) (a b : Expected)
    → IsIllegal rules processes events event a → IsIllegal rules processes events event b → expected_text event a ≡ expected_text event b
one_expected one rules processes events event a b h k = grind (arith, common_steps, one_state, expected_as)

-- ---- which lines of a report are to come

fewer : {X : Type 0} (xs : List X) (n : ℕ) → length (drop n xs) ≤ length xs
fewer xs n = let less = length-drop n xs in omega (arith, less)

-- last lines that are as many are the same
as_many : {X : Type 0} (xs : List X) (a b : ℕ) → length (drop a xs) ≡ length (drop b xs) → drop a xs ≡ drop b xs
as_many xs a b h = grind (arith, common_steps, fewer)

-- lines have no more texts than there are of them
no_more_texts : (left : List ReportLine) (texts : List (List ℕ)) → AreTextsOf left texts → length texts ≤ length left
no_more_texts [] texts are = let none = ap length are in omega (arith, none)
no_more_texts (line ∷ left) [] are = omega arith
no_more_texts (line ∷ left) (text ∷ texts) (inl here) = let rest = no_more_texts left texts here.1 in omega (arith, rest)
no_more_texts (line ∷ left) (text ∷ texts) (inr out) = let rest = no_more_texts left (text ∷ texts) out.1.1 in omega (arith, rest)

-- and may have as many, so lines whose texts others have are no more than these
no_more_left : (a b : List ReportLine) → All HasFewTaken a → ((texts : List (List ℕ)) → AreTextsOf a texts → AreTextsOf b texts) → length a ≤ length b
no_more_left a b taken has =
    let texts = some_texts a (recursion_from_All HasFewTaken a taken) in
    let few = no_more_texts b texts.0 (has texts.0 texts.1) in
    let all = texts.2 in omega (arith, few, all)

one_left : LocksHaveOneReport → (place : Place) (entries : List Event) (texts : List (List ℕ)) (a b : List ReportLine) → AreLeft place entries texts a
    → AreLeft place entries texts b → a ≡ b
one_left one place entries texts a b h k = search (rules, one_report, no_more_left, as_many)

-- ---- what is told

pub one_told : LocksHaveOneReport → StepHasOneOutcome → OneIsTold
one_told report step reading lines.Skipped a b h k = absurd h
one_told report step reading (lines.Header header) a b h k = absurd h
one_told report step reading (lines.Entry event) a b h k =
    h.2 ∙ one_expected step (rules_at reading.place) (processes_at reading.place) reading.entries event h.0 k.0 h.1 k.1 ∙ sym k.2
one_told report step reading lines.Report a b h k =
    h.2 ∙ ap (λ l. due_text (first_due l)) (one_left report reading.place reading.entries reading.report h.0 k.0 h.1 k.1) ∙ sym k.2

-- Reports are read back, for `reports_are_read_back`: texts are those of the lines of a report just where they are its lines.
use Rattle.script_core.proofs.Common.{common_steps, ◌≡◌, ℕ, zero, suc, ◌+◌, ◌^◌, ◌<◌, ◌≤◌, ◌==◌, Bool, true, false, List, [], ◌∷◌, ◌++◌, length, map, flat_map, inl, inr, ⊎_elim, refl, sym, ap, ap₂, ◌∙◌, subst, arith, eq-eqb, ne_eqb, append_assoc, if◌then◌else◌, cases_eq}
use Rattle.script_core.proofs.Common.{mode_in, flock_mode_in, LocksHaveOneReport, ProcState, Event, ProcessLine, ReportLine, held_text, held_line, wait_text, wait_line, process_text, line_of, is_reported, reported_line, process_lines, IsLineOf, MayBeLeftOut, AreTextsOf, lines_from}
use Rattle.session_core.specs.Mail.{events_of}
use Rattle.script_core.specs.declared.report.ReportLine.TheVariants as lines
use Rattle.script_core.specs.ReportReading.{least_line, joined, ReportsAreReadBack}
use Rattle.script_core.proofs.ReportReadingLemmas.{one_process}

-- ---- lines that are there in any case: of locks and of waits

-- such lines have one text each
record AreFixed {X : Type 0} (line : X → ReportLine) (text_of : X → List ℕ) : Type 0 where
  text : (x : X) (text : List ℕ) → IsLineOf (line x) text → text ≡ text_of x
  is : (x : X) → IsLineOf (line x) (text_of x)
  due : (x : X) → MayBeLeftOut (line x) → ⊥

held_fixed : AreFixed lines.Held held_text
held_fixed = record { text = λ x text is. is; is = λ x. refl; due = λ x out. out }

waits_fixed : AreFixed lines.Waits wait_text
waits_fixed = record { text = λ x text is. is; is = λ x. refl; due = λ x out. out }

-- texts of such lines, and of others behind them
fixed_read : {X : Type 0} (line : X → ReportLine) (text_of : X → List ℕ) → AreFixed line text_of
    → (xs : List X) (rest : List ReportLine) (texts : List (List ℕ))
    → AreTextsOf (map line xs ++ rest) texts
    → (more : List (List ℕ)) × (joined texts ≡ flat_map (λ x. text_of x ++ 10 ∷ []) xs ++ joined more) × AreTextsOf rest more
fixed_read line text_of fixed [] rest texts are = (texts, refl, are)
fixed_read line text_of fixed (x ∷ xs) rest [] are = absurd (fixed.due x are.0)
fixed_read line text_of fixed (x ∷ xs) rest (text ∷ texts) are =
    ⊎_elim
    (λ yes.
    let behind = fixed_read line text_of fixed xs rest texts yes.1 in
    let own = text_of x ++ 10 ∷ [] in
    let here : joined (text ∷ texts) ≡ own ++ joined texts = ap (λ l. l ++ 10 ∷ [] ++ joined texts) (fixed.text x text yes.0) in (
      behind.0,
      here ∙ ap (λ l. own ++ l) behind.1 ∙ sym (append_assoc own (flat_map (λ x. text_of x ++ 10 ∷ []) xs) (joined behind.0)),
      behind.2,
    ))
    (λ no. absurd (fixed.due x no.1.0)) are

fixed_told : {X : Type 0} (line : X → ReportLine) (text_of : X → List ℕ) → AreFixed line text_of → (xs : List X) (rest : List ReportLine) (more : List (List ℕ))
    → AreTextsOf rest more
    → (texts : List (List ℕ)) × (flat_map (λ x. text_of x ++ 10 ∷ []) xs ++ joined more ≡ joined texts) × AreTextsOf (map line xs ++ rest) texts
fixed_told line text_of fixed [] rest more are = (more, refl, are)
fixed_told line text_of fixed (x ∷ xs) rest more are =
    let behind = fixed_told line text_of fixed xs rest more are in
    let own = text_of x ++ 10 ∷ [] in (
      text_of x ∷ behind.0,
      append_assoc own (flat_map (λ x. text_of x ++ 10 ∷ []) xs) (joined more) ∙ ap (λ l. own ++ l) behind.1,
      inl (fixed.is x, behind.2),
    )

-- ---- lines of processes

-- the counts with this one of a process
counts_with : ℕ → ℕ → (ℕ → ℕ) → ℕ → ℕ
counts_with p n sent q = if q == p then n else sent q

counts_own : (p n : ℕ) (sent : ℕ → ℕ) → counts_with p n sent p ≡ n
unfolding counts_with
counts_own p n sent = rw (eq-eqb p p refl) refl

counts_behind : (p n : ℕ) (sent : ℕ → ℕ) (q : ℕ) → p + 1 ≤ q → counts_with p n sent q ≡ sent q
unfolding counts_with
counts_behind p n sent q behind = rw (ne_eqb q p (λ e. omega arith)) refl

-- processes from this one on, so many of them, may have sent these counts
abbrev MayHaveSentFrom : List Event → ℕ → ℕ → (ℕ → ℕ) → Type 0
MayHaveSentFrom events p more sent = (q : ℕ) → p ≤ q → q < p + more → (length (events_of q events) ≤ sent q) × (sent q < 2 ^ 64)

counts_more : (events : List Event) (p more n : ℕ) (sent : ℕ → ℕ) → length (events_of p events) ≤ n → n < 2 ^ 64
    → MayHaveSentFrom events (p + 1) more sent → MayHaveSentFrom events p (suc more) (counts_with p n sent)
counts_more events p more n sent no_less few behind q from before =
    ⊎_elim
    (λ same.
    let own : counts_with p n sent q ≡ n = ap (counts_with p n sent) same ∙ counts_own p n sent in
    let taken : length (events_of q events) ≡ length (events_of p events) = ap (λ r. length (events_of r events)) same in
    (omega (arith, own, taken, no_less), omega (arith, own, few)))
    (λ apart.
    let rest = behind q (omega (arith, apart, from)) (omega (arith, before)) in
    let is = counts_behind p n sent q (omega (arith, apart, from)) in
    let low = rest.0 in
    let high = rest.1 in
    (omega (arith, is, low), omega (arith, is, high)))
    (cases_eq q p)

-- lines of processes tell nothing of the counts of those before
lines_same : (states : ℕ → ProcState) (events : List Event) (sent sent' : ℕ → ℕ) (p more : ℕ) → ((q : ℕ) → p ≤ q → sent q ≡ sent' q)
    → process_lines states events sent p more ≡ process_lines states events sent' p more
unfolding process_lines
lines_same states events sent sent' p zero same = refl
lines_same states events sent sent' p (suc more) same =
    ap₂ (λ n rest. reported_line (line_of states events (λ q. n) p) ++ rest) (same p (omega arith))
    (lines_same states events sent sent' (p + 1) more (λ q behind. same q (omega arith)))

-- the line of a process with this count, and the others behind it
one_more : (states : ℕ → ProcState) (events : List Event) (sent : ℕ → ℕ) (p more n : ℕ)
    → process_lines states events (counts_with p n sent) p (suc more)
    ≡ reported_line (line_of states events (λ q. n) p) ++ process_lines states events sent (p + 1) more
unfolding process_lines
one_more states events sent p more n = grind (arith, common_steps, counts_own, lines_same, counts_with, counts_behind)

-- what was taken of a process that the report needn't tell of
abbrev taken_of : List Event → ℕ → ℕ
taken_of events p = length (events_of p events)

no_line : (states : ℕ → ProcState) (events : List Event) (p : ℕ) → is_reported (states p) (taken_of events p) ≡ false
    → reported_line (line_of states events (λ q. taken_of events p) p) ≡ []
no_line states events p out = rw out refl

none_taken : (state : ProcState) (n : ℕ) → is_reported state n ≡ false → n ≡ 0
none_taken state n h = grind (arith, common_steps)

-- texts of the lines of processes are theirs with some counts
record AreRead (states : ℕ → ProcState) (events : List Event) (p more : ℕ) (texts : List (List ℕ)) : Type 0 where
  sent : ℕ → ℕ
  may : MayHaveSentFrom events p more sent
  is : joined texts ≡ process_lines states events sent p more

-- the line of one that is left out
AreRead-out : (states : ℕ → ProcState) (events : List Event) (p more : ℕ) (texts : List (List ℕ))
    → is_reported (states p) (taken_of events p) ≡ false → AreRead states events (p + 1) more texts → AreRead states events p (suc more) texts
AreRead-out states events p more texts out rest =
    let n = taken_of events p in
    let none = none_taken (states p) n out in record {
      sent = counts_with p n rest.sent;
      may = counts_more events p more n rest.sent (omega arith) (omega (arith, none)) rest.may;
      is = rest.is ∙ ap (λ l. l ++ process_lines states events rest.sent (p + 1) more) (sym (no_line states events p out))
          ∙ sym (one_more states events rest.sent p more n);
    }

processes_read : (states : ℕ → ProcState) (events : List Event) (p more : ℕ) (texts : List (List ℕ)) → AreTextsOf (lines_from states events p more) texts
    → AreRead states events p more texts
unfolding lines_from process_lines
processes_read states events p zero texts are =
    record { sent = λ q. 0; may = λ q from before. absurd (omega (arith, from, before)); is = ap joined are }
processes_read states events p (suc more) [] are = AreRead-out states events p more [] are.0 (processes_read states events (p + 1) more [] are.1)
processes_read states events p (suc more) (text ∷ texts) are =
    ⊎_elim
    (λ yes.
    let told = yes.0 in
    let rest = processes_read states events (p + 1) more texts yes.1 in
    let own : reported_line (line_of states events (λ q. told.0) p) ≡ text ++ 10 ∷ [] = rw told.3 (ap (λ l. l ++ 10 ∷ []) (sym told.4)) in record {
      sent = counts_with p told.0 rest.sent;
      may = counts_more events p more told.0 rest.sent told.1 told.2 rest.may;
      is = ap (λ l. text ++ 10 ∷ [] ++ l) rest.is ∙ ap (λ l. l ++ process_lines states events rest.sent (p + 1) more) (sym own)
          ∙ sym (one_more states events rest.sent p more told.0);
    })
    (λ no. AreRead-out states events p more (text ∷ texts) no.1.0 (processes_read states events (p + 1) more (text ∷ texts) no.1.1))
    are

-- the first of the texts, if there is one, is that of a process from this one on
FirstIsFrom : ℕ → List (List ℕ) → Type 0
FirstIsFrom p [] = Unit {0}
FirstIsFrom p (text ∷ texts) = (told : ProcessLine) × (p ≤ told.p) × (told.p < 2 ^ 64) × (text ≡ process_text told)

FirstIsFrom-before : (p : ℕ) (texts : List (List ℕ)) → FirstIsFrom (p + 1) texts → FirstIsFrom p texts
unfolding FirstIsFrom
FirstIsFrom-before p texts first = grind (arith, common_steps)

-- what isn't told with a count isn't with a lesser one
less_is_untold : (state : ProcState) (n less : ℕ) → less ≤ n → is_reported state n ≡ false → is_reported state less ≡ false
less_is_untold state n less h h2 = grind (arith, common_steps)

-- the line of a process that needn't be told is left out before the texts of later ones
left_out : (states : ℕ → ProcState) (events : List Event) (p more : ℕ) (texts : List (List ℕ)) → p < 2 ^ 64
    → is_reported (states p) (taken_of events p) ≡ false → FirstIsFrom (p + 1) texts
    → AreTextsOf (lines_from states events (p + 1) more) texts → AreTextsOf (lines_from states events p (suc more)) texts
unfolding lines_from FirstIsFrom
left_out states events p more [] small out first are = (out, are)
left_out states events p more (text ∷ texts) small out first are =
    inr (
      (λ is.
          let same = one_process (record (least_line states events p) { sent = is.0 }) first.0 small first.2 (sym is.4 ∙ first.3) in
          omega (arith, same, first.1)),
      (out, are),
    )

-- the lines of processes with these counts have these texts
record AreTold (states : ℕ → ProcState) (events : List Event) (sent : ℕ → ℕ) (p more : ℕ) : Type 0 where
  texts : List (List ℕ)
  is : process_lines states events sent p more ≡ joined texts
  are : AreTextsOf (lines_from states events p more) texts
  first : FirstIsFrom p texts

-- one process more, of which the report tells or doesn't
AreTold-more : (states : ℕ → ProcState) (events : List Event) (sent : ℕ → ℕ) (p more : ℕ) → taken_of events p ≤ sent p → sent p < 2 ^ 64 → p < 2 ^ 64
    → (reported : Bool) → is_reported (states p) (sent p) ≡ reported → AreTold states events sent (p + 1) more → AreTold states events sent p (suc more)
unfolding lines_from process_lines FirstIsFrom
AreTold-more states events sent p more no_less small few true reported rest =
    let told = line_of states events sent p in
    let own : reported_line told ≡ process_text told ++ 10 ∷ [] = rw reported refl in
    record {
      texts = process_text told ∷ rest.texts;
      is = ap₂ (λ l m. l ++ m) own rest.is;
      are = inl ((sent p, no_less, small, reported, refl), rest.are);
      first = (told, omega arith, few, refl);
    }
AreTold-more states events sent p more no_less small few false unreported rest =
    grind (arith, common_steps, left_out, less_is_untold, FirstIsFrom-before)

processes_told : (states : ℕ → ProcState) (events : List Event) (sent : ℕ → ℕ) (p more : ℕ) → MayHaveSentFrom events p more sent → p + more ≤ 2 ^ 64
    → AreTold states events sent p more
unfolding lines_from process_lines FirstIsFrom
processes_told states events sent p zero may few = record { texts = []; is = refl; are = refl; first = tt }
processes_told states events sent p (suc more) may few =
    let own = may p (omega arith) (omega arith) in
    let rest = processes_told states events sent (p + 1) more (λ q from before. may q (omega (arith, from)) (omega (arith, before))) (omega (arith, few)) in
    AreTold-more states events sent p more own.0 own.1 (omega (arith, few)) (is_reported (states p) (sent p)) refl rest

-- ---- reports

pub reports_read_back : LocksHaveOneReport → ReportsAreReadBack
reports_read_back one = record {
  read = λ processes S events sent text reported few may report are.
      let own = processes_told S.states events sent 1 processes (λ p from before. may p from (omega (arith, before))) (omega (arith, few)) in
      let waits = fixed_told lines.Waits wait_text waits_fixed S.waits (lines_from S.states events 1 processes) own.texts own.are in
      let held = fixed_told lines.Held held_text held_fixed are.held (map lines.Waits S.waits ++ lines_from S.states events 1 processes) waits.0 waits.2 in
      let same = one (mode_in S.changes) (flock_mode_in S.flock_changes) report.held are.held report.is_held are.is_held in
      let locks = flat_map held_line are.held in
      let waiting = flat_map wait_line S.waits in
      let these = are.is ∙ append_assoc (map lines.Held are.held) (map lines.Waits S.waits) (lines_from S.states events 1 processes) in (
        held.0,
        report.is ∙ ap (λ l. flat_map held_line l ++ waiting ++ process_lines S.states events sent 1 processes) same
            ∙ append_assoc locks waiting (process_lines S.states events sent 1 processes)
            ∙ ap (λ l. locks ++ (waiting ++ l)) own.is ∙ ap (λ l. locks ++ l) waits.1 ∙ held.1,
        subst (λ l. AreTextsOf l held.0) (sym these) held.2,
      );
  is_report = λ processes S events reported texts are told.
      let these = are.is ∙ append_assoc (map lines.Held are.held) (map lines.Waits S.waits) (lines_from S.states events 1 processes) in
      let held = fixed_read lines.Held held_text held_fixed are.held (map lines.Waits S.waits ++ lines_from S.states events 1 processes) texts
      (subst (λ l. AreTextsOf l texts) these told) in
      let waits = fixed_read lines.Waits wait_text waits_fixed S.waits (lines_from S.states events 1 processes) held.0 held.2 in
      let own = processes_read S.states events 1 processes waits.0 waits.2 in
      let locks = flat_map held_line are.held in
      let waiting = flat_map wait_line S.waits in (
        own.sent,
        (λ p from until. own.may p from (omega (arith, until))),
        record {
          held = are.held;
          is_held = are.is_held;
          is = held.1 ∙ ap (λ l. locks ++ l) (waits.1 ∙ ap (λ l. waiting ++ l) own.is)
              ∙ sym (append_assoc locks waiting (process_lines S.states events own.sent 1 processes));
        },
      );
}

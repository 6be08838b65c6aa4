-- Largest ranges of one mode, by bytes: for the index of all owners.
use Rattle.lock_book.proofs.Common.{◌≡◌, ◌≢◌, ℕ, ◌+◌, ◌-◌, ◌<◌, ◌≤◌, ◌⊎◌, inl, inr, zero, suc, true, false, cond, cases_Bool, Option, Some, None, List, [], ◌∷◌, refl, sym, ap, ◌∙◌, subst, arith, cases_lt, cond-false, nat_tests, Mode, Read, Write, Span, OwnerRuns, Modes, Covers, IsRun, is_covered, modes_of, OwnersStandForRuns, touches}
use Rattle.range_core.specs.Ranges.{IsConstant}
use Rattle.lock_book.specs.Indexing.{HasJust}
use Rattle.range_core.specs.Changes.{mode_in}

-- modes that are the same have the same largest ranges
pub IsRun-same : (old new : Modes) → ((byte : ℕ) → new byte ≡ old byte) → (byte : ℕ) (mode : Mode) (span : Span) → IsRun old byte mode span → IsRun new byte mode span
IsRun-same old new same byte mode span run = record {
  covered = run.covered;
  constant = λ b covers. same b ∙ run.constant b covers;
  largest = λ other covers constant. run.largest other covers (λ b within. sym (same b) ∙ constant b within);
}

-- two that begin at one byte are one
pub same_run : (modes : Modes) (one other : Span) (m n : Mode) → one.first ≡ other.first → IsRun modes one.first m one → IsRun modes other.first n other
    → (m ≡ n) × (one.last ≡ other.last)
same_run modes one other m n at a b =
    let here : Covers other one.first = (omega arith, let c = b.covered in omega arith) in
    let there : Covers one other.first = (omega arith, let c = a.covered in omega arith) in
    let both : Some m ≡ Some n = sym (a.constant one.first a.covered) ∙ b.constant one.first here in
    let same : m ≡ n = cc in
    let longer = a.largest other here (subst (λ (mode : Mode). IsConstant modes other mode) (sym same) b.constant) in
    let shorter = b.largest one there (subst (λ (mode : Mode). IsConstant modes one mode) same a.constant) in
    (same, omega arith)

-- a range that doesn't touch another one lies before or behind it, with a byte between them
pub apart : (span other : Span) → touches span other ≡ false → (span.last + 1 < other.first) ⊎ (other.last + 1 < span.first)
apart span other test = grind (arith, nat_tests)

module _ (old new : Modes) (changed : Span) (kept : (byte : ℕ) → ¬ Covers changed byte → new byte ≡ old byte) where
  same_round : (span : Span) → touches changed span ≡ false → (byte : ℕ) → span.first ≤ byte + 1 → byte ≤ span.last + 1 → new byte ≡ old byte
  same_round span test byte low high =
      kept byte (λ covers. let from = covers.0 in let to = covers.1 in elim (apart changed span test) [ inl h ↦ omega arith | inr h ↦ omega arith ])

  -- where modes change in another range alone, a largest one that doesn't touch it stays
  pub IsRun-apart : (mode : Mode) (span : Span) → touches changed span ≡ false → IsRun old span.first mode span → IsRun new span.first mode span
  IsRun-apart mode span test run =
      let size = run.covered.1 in
      record {
        covered = run.covered;
        constant = λ byte within.
            let from = within.0 in let to = within.1 in
            same_round span test byte (omega arith) (omega arith) ∙ run.constant byte within;
        largest = λ other covers constant.
            let from = covers.0 in let to = covers.1 in (
              elim (cases_lt other.first span.first) [
                | inl less ↦
                    (let wider : Span = record { first = span.first - 1; last = span.first } in
                    let as_wide = run.largest wider (omega arith, omega arith)
                    (λ byte within. let low = within.0 in let high = within.1 in
                    sym (same_round span test byte (omega arith) (omega arith)) ∙ constant byte (omega arith, omega arith)) in
                    let more = as_wide.0 in absurd (omega arith))
                | inr h ↦ h
              ],
              elim (cases_lt span.last other.last) [
                | inl less ↦
                    (let wider : Span = record { first = span.first; last = span.last + 1 } in
                    let as_wide = run.largest wider (omega arith, omega arith)
                    (λ byte within. let low = within.0 in let high = within.1 in
                    sym (same_round span test byte (omega arith) (omega arith)) ∙ constant byte (omega arith, omega arith)) in
                    let more = as_wide.1 in absurd (omega arith))
                | inr h ↦ h
              ],
            );
      }

mode_known : (held : Option Mode) (mode : Mode) → (held ≡ Some mode) ⊎ (held ≢ Some mode)
mode_known None mode = inr (λ e. let h : None ≡ Some mode = e in cc)
mode_known (Some Read) Read = inl refl
mode_known (Some Read) Write = inr (λ e. let h : Some Read ≡ Some Write = e in cc)
mode_known (Some Write) Read = inr (λ e. let h : Some Write ≡ Some Read = e in cc)
mode_known (Some Write) Write = inl refl

at_byte : (modes : Modes) (mode : Mode) (here byte : ℕ) → modes here ≡ Some mode → byte ≡ here → modes byte ≡ Some mode
at_byte modes mode here byte at same = ap modes same ∙ at

module _ (modes : Modes) (mode : Mode) where
  -- how far the mode goes on
  right : (fuel from : ℕ) → modes from ≡ Some mode → ((byte : ℕ) → from + fuel < byte → modes byte ≡ None)
      → (last : ℕ) × (from ≤ last) × ((byte : ℕ) → from ≤ byte → byte ≤ last → modes byte ≡ Some mode) × (modes (last + 1) ≢ Some mode)
  right zero from at end =
      (from, omega arith, λ byte low high. at_byte modes mode from byte at (omega arith), λ e. let h : None ≡ Some mode = sym (end (from + 1) (omega arith)) ∙ e in cc)
  right (suc fuel) from at end = elim (mode_known (modes (from + 1)) mode) [
    | inl more ↦
        (let rest = right fuel (from + 1) more (λ byte far. end byte (omega arith)) in
        let longer = rest.1 in (
          rest.0,
          omega arith,
          λ byte low high. elim (cases_lt from byte) [ inl h ↦ rest.2 byte (omega arith) high | inr h ↦ at_byte modes mode from byte at (omega arith) ],
          rest.3,
        ))
    | inr stop ↦ (from, omega arith, λ byte low high. at_byte modes mode from byte at (omega arith), stop)
  ]

  -- and from where
  left : (from : ℕ) → modes from ≡ Some mode
      → (first : ℕ) × (first ≤ from) × ((byte : ℕ) → first ≤ byte → byte ≤ from → modes byte ≡ Some mode) × ((before : ℕ) → before + 1 ≡ first → modes before ≢ Some mode)
  left zero at = (zero, omega arith, λ byte low high. at_byte modes mode zero byte at (omega arith), λ before e. absurd (omega arith))
  left (suc from) at = elim (mode_known (modes from) mode) [
    | inl more ↦
        (let rest = left from more in
        let longer = rest.1 in (
          rest.0,
          omega arith,
          λ byte low high. elim (cases_lt from byte) [ inl h ↦ at_byte modes mode (suc from) byte at (omega arith) | inr h ↦ rest.2 byte low h ],
          rest.3,
        ))
    | inr stop ↦ (suc from, omega arith, λ byte low high. at_byte modes mode (suc from) byte at (omega arith), λ before e has. stop (at_byte modes mode before from has (omega arith)))
  ]

  -- so a byte lies in a largest range, where no byte behind some end has a mode
  pub run_round : (end : ℕ) → ((byte : ℕ) → end < byte → modes byte ≡ None) → (byte : ℕ) → modes byte ≡ Some mode
      → (span : Span) × Covers span byte × IsRun modes span.first mode span
  run_round end none byte at =
      let l = left byte at in
      let r = right end byte at (λ b far. none b (omega arith)) in
      let before = l.1 in
      let behind = r.1 in
      let span : Span = record { first = l.0; last = r.0 } in (
        span,
        (before, behind),
        record {
          covered = (omega arith, omega arith);
          constant = λ b within. let low = within.0 in let high = within.1 in
              elim (cases_lt byte b) [ inl h ↦ r.2 b (omega arith) high | inr h ↦ l.2 b low h ];
          largest = λ other covers constant. let from = covers.0 in let to = covers.1 in (
            elim (cases_lt other.first l.0) [ inl less ↦ absurd (l.3 (l.0 - 1) (omega arith) (constant (l.0 - 1) (omega arith, omega arith))) | inr h ↦ h ],
            elim (cases_lt r.0 other.last) [ inl less ↦ absurd (r.3 (constant (r.0 + 1) (omega arith, omega arith))) | inr h ↦ h ],
          );
        },
      )

not_covered : (span : Span) (byte : ℕ) → span.last < byte → is_covered span byte ≡ false
not_covered span byte far = grind (arith, nat_tests)

-- finitely many runs end somewhere
ends : (runs : List (Mode × Span)) → (end : ℕ) × ((byte : ℕ) → end < byte → mode_in runs byte ≡ None)
ends [] = (0, λ byte far. refl)
ends (run ∷ runs) =
    let rest = ends runs in
    (run.1.last + rest.0, λ byte far. cond-false (is_covered run.1 byte) (Some run.0) (mode_in runs byte) (not_covered run.1 byte (omega arith)) ∙ rest.1 byte (omega arith))

-- each byte of a list that has a mode lies in a largest range
pub list_run : OwnersStandForRuns → (list : OwnerRuns) (byte : ℕ) (mode : Mode) → modes_of list byte ≡ Some mode
    → (span : Span) × Covers span byte × IsRun (modes_of list) span.first mode span
list_run stand list byte mode at =
    let runs = stand list in
    let end = ends runs.0 in
    run_round (modes_of list) mode end.0 (λ b far. runs.1 b ∙ end.1 b far) byte at

-- a byte of the range passes its test
pub covers_by : (span : Span) (byte : ℕ) → span.first ≤ byte → byte ≤ span.last → is_covered span byte ≡ true
covers_by span byte from upto = grind (arith, nat_tests)

-- of modes that are one on a range alone
module _ (modes : Modes) (mode : Mode) (span : Span) (some : span.first ≤ span.last) (just : HasJust modes mode span) where
  on_it : (byte : ℕ) → span.first ≤ byte → byte ≤ span.last → modes byte ≡ Some mode
  on_it byte from upto = just byte ∙ ap (λ b. cond b (Some mode) None) (covers_by span byte from upto)

  only_there : (byte : ℕ) (other : Mode) → modes byte ≡ Some other → Covers span byte
  only_there byte other has = elim (cases_Bool (is_covered span byte)) [
    | inl there ↦ (grind (arith, nat_tests, there), grind (arith, nat_tests, there))
    | inr apart ↦ absurd (let no : None ≡ Some other = sym (just byte ∙ ap (λ b. cond b (Some mode) None) apart) ∙ has in cc)
  ]

  -- it is the only largest range
  pub only_run : IsRun modes span.first mode span
  only_run = record {
    covered = (omega arith, some);
    constant = λ byte within. on_it byte within.0 within.1;
    largest = λ other covers constant.
        let from = covers.0 in let upto = covers.1 in
        let low = only_there other.first mode (constant other.first (omega arith, omega arith)) in
        let high = only_there other.last mode (constant other.last (omega arith, omega arith)) in
        (low.0, high.1);
  }

  pub only_begins : (other : Mode) (run : Span) → IsRun modes run.first other run → span.first ≡ run.first
  only_begins other run is =
      let covers = only_there run.first other (is.constant run.first is.covered) in
      let both : Some mode ≡ Some other = sym (on_it run.first covers.0 covers.1) ∙ is.constant run.first is.covered in
      let same : mode ≡ other = cc in
      let wide = is.largest span covers (λ byte within. on_it byte within.0 within.1 ∙ ap Some same) in
      let from = covers.0 in
      let low = wide.0 in
      omega arith

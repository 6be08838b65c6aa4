-- The first run from a byte on: for `run_from`.
use Rattle.lock_server.proofs.Common.{ℕ, zero, suc, ◌≡◌, ◌+◌, ◌<◌, ◌≤◌, ◌∙◌, inl, inr, cases_lt, ap, sym, subst, arith, Option, Some, None, List, [], ◌∷◌, All, Any, length, get_or, Mode, Span, AreRuns, IsByteRange, IsRun, Modes}
use Rattle.std.specs.Prelude.{IfNone, IfSome}
use Rattle.std.specs.Map.Iter.{TakesFirst}
use Rattle.range_core.specs.declared.TheConstants.{OFFMAX}
use Rattle.owner_runs.specs.Trees.{AreRunsTouching}
use Rattle.lock_server.specs.Listing.{BeginBefore, IsFirstRunFrom}

-- no byte behind the last of a file has a mode, where all runs lie within one
pub ends_in_file : (modes : Modes) (runs : List (Mode × Span)) → AreRuns modes runs → All (λ run. IsByteRange run.1) runs → (mode : Mode) (span : Span)
    → IsRun modes span.first mode span → span.first ≤ OFFMAX
ends_in_file modes runs are ranges mode span is =
    let any = are.every span.first mode (is.constant span.first is.covered) in
    let range : IsByteRange any.1.1 = subst (λ (r : Mode × Span). IsByteRange r.1) any.3 (ranges any.0 any.1 any.2) in
    let ends = range.1 in
    let covers = any.4.1.1 in
    omega arith

-- of the runs that touch the bytes from this one on
module _ (modes : Modes) (byte : ℕ) (within : (mode : Mode) (span : Span) → IsRun modes span.first mode span → span.first ≤ OFFMAX) where
  abbrev pub Touch : List (Mode × Span) → Type 0
  Touch runs = AreRunsTouching modes (record { first = byte; last = OFFMAX }) runs

  -- each that begins there is one
  there : (runs : List (Mode × Span)) → Touch runs → (mode : Mode) (span : Span) → IsRun modes span.first mode span → byte ≤ span.first → Any (λ r. (r.0 ≡ mode) × (r.1 ≡ span)) runs
  there runs touch mode span is from =
      let upto = within mode span is in
      let some = is.covered.1 in
      touch.every mode span is (omega arith, omega arith)

  pub nothing_there : Touch [] → BeginBefore modes byte
  nothing_there touch = record { before = λ mode span is. at mode span is }
    where
      at : (mode : Mode) (span : Span) → IsRun modes span.first mode span → span.first < byte
      at mode span is = elim (cases_lt span.first byte) [
        | inl h ↦ h
        | inr from ↦ absurd (let any = there [] touch mode span is from in let inside : any.0 < 0 = any.2 in omega arith)
      ]

  module _ (run : Mode × Span) (rest : List (Mode × Span)) (touch : Touch (run ∷ rest)) where
    -- the first is the first that begins there, if it does
    pub first_there : byte ≤ run.1.first → IsFirstRunFrom modes byte run
    first_there from = record {
      is_run = touch.each 0 run (omega arith);
      from_there = from;
      first = λ mode span is begins. at mode span (there (run ∷ rest) touch mode span is begins);
    }
      where
        at : (mode : Mode) (span : Span) → Any (λ r. (r.0 ≡ mode) × (r.1 ≡ span)) (run ∷ rest) → run.1.first ≤ span.first
        at mode span (zero, r, inside, at_place, same) =
            let e : r.1.first ≡ run.1.first = ap (λ (x : Mode × Span). x.1.first) (sym at_place) in
            let f : r.1.first ≡ span.first = ap (λ (s : Span). s.first) same.1 in
            omega arith
        at mode span (suc k, r, inside, at_place, same) =
            let e : (get_or rest k r).1.first ≡ r.1.first = ap (λ (x : Mode × Span). x.1.first) at_place in
            let f : r.1.first ≡ span.first = ap (λ (s : Span). s.first) same.1 in
            let rises : run.1.last < (get_or rest k r).1.first = touch.rising 0 (suc k) r (omega arith) inside in
            let some = (touch.each 0 run (omega arith)).covered.1 in
            omega arith

    -- and where it begins before, it is the only one that does
    pub only_before : rest ≡ [] → run.1.first < byte → BeginBefore modes byte
    only_before none before = record { before = λ mode span is. at mode span is }
      where
        at : (mode : Mode) (span : Span) → IsRun modes span.first mode span → span.first < byte
        at mode span is = elim (cases_lt span.first byte) [
          | inl h ↦ h
          | inr from ↦ absurd (
              let any = there (run ∷ rest) touch mode span is from in
              let count : length rest ≡ 0 = ap length none in
              let inside = any.2 in
              let k : any.0 ≡ 0 = omega arith in
              let e : run ≡ any.1 = ap (λ (i : ℕ). get_or (run ∷ rest) i any.1) (sym k) ∙ any.3 in
              let f : run.1.first ≡ span.first = ap (λ (x : Mode × Span). x.1.first) e ∙ ap (λ (s : Span). s.first) any.4.1 in
              omega arith)
        ]

  pub second_there : (run next : Mode × Span) (rest : List (Mode × Span)) → Touch (run ∷ next ∷ rest) → run.1.first < byte → IsFirstRunFrom modes byte next
  second_there run next rest touch before = record {
    is_run = touch.each 1 next (omega arith);
    from_there = begins;
    first = λ mode span is from. at mode span from (there (run ∷ next ∷ rest) touch mode span is from);
  }
    where
      begins : byte ≤ next.1.first
      begins =
          let rises : run.1.last < next.1.first = touch.rising 0 1 run (omega arith) (omega arith) in
          let reaches : byte ≤ run.1.last + 1 = (touch.touch 0 run (omega arith)).0 in
          omega arith

      at : (mode : Mode) (span : Span) → byte ≤ span.first → Any (λ r. (r.0 ≡ mode) × (r.1 ≡ span)) (run ∷ next ∷ rest) → next.1.first ≤ span.first
      at mode span from (zero, r, inside, at_place, same) =
          let e : r.1.first ≡ run.1.first = ap (λ (x : Mode × Span). x.1.first) (sym at_place) in
          let f : r.1.first ≡ span.first = ap (λ (s : Span). s.first) same.1 in
          omega arith
      at mode span from (suc zero, r, inside, at_place, same) =
          let e : r.1.first ≡ next.1.first = ap (λ (x : Mode × Span). x.1.first) (sym at_place) in
          let f : r.1.first ≡ span.first = ap (λ (s : Span). s.first) same.1 in
          omega arith
      at mode span from (suc (suc k), r, inside, at_place, same) =
          let e : (get_or rest k r).1.first ≡ r.1.first = ap (λ (x : Mode × Span). x.1.first) at_place in
          let f : r.1.first ≡ span.first = ap (λ (s : Span). s.first) same.1 in
          let rises : next.1.last < (get_or rest k r).1.first = touch.rising 1 (suc (suc k)) r (omega arith) inside in
          let some = (touch.each 1 next (omega arith)).covered.1 in
          omega arith

  -- so the call of `next` behind the first, which begins before, tells
  module _ (run : Mode × Span) (rest behind : List (Mode × Span)) (touch : Touch (run ∷ rest)) (before : run.1.first < byte) where
    pub next_there : (next : Option (Mode × Span)) → TakesFirst (λ r. r) rest next behind → IfSome next (IsFirstRunFrom modes byte)
    next_there None step = tt
    next_there (Some next) step = second_there run next behind (subst (λ (l : List (Mode × Span)). Touch (run ∷ l)) step touch) before

    pub none_behind : (next : Option (Mode × Span)) → TakesFirst (λ r. r) rest next behind → IfNone next (BeginBefore modes byte)
    none_behind None step = only_before run rest touch step.0 before
    none_behind (Some next) step = tt

-- where no byte has a mode no run begins anywhere
pub nothing_begins : (modes : Modes) → ((byte : ℕ) → None ≡ modes byte) → (byte : ℕ) → BeginBefore modes byte
nothing_begins modes free byte = record {
  before = λ mode span is. absurd (let h : None ≡ Some mode = free span.first ∙ is.constant span.first is.covered in cc);
}

-- what holds anyhow holds where nothing is told
pub if_none : {X : Type 0} (told : Option X) (Says : Type 0) → Says → IfNone told Says
if_none None Says says = says
if_none (Some x) Says says = tt

-- modes that are the same on each byte are the same
pub first_run_as : (one other : Modes) → ((byte : ℕ) → one byte ≡ other byte) → (byte : ℕ) (run : Mode × Span) → IsFirstRunFrom one byte run
    → IsFirstRunFrom other byte run
first_run_as one other same byte run first = subst (λ (m : Modes). IsFirstRunFrom m byte run) (λ i b. same b i) first

-- Which runs touch a range.
use Rattle.std.proofs.Common.{ℕ, ◌≡◌, ◌+◌, ◌-◌, ◌<◌, ◌≤◌, inl, inr, true, List, length, get_or, sym, ap, ◌∙◌, subst, arith}
use Rattle.std.specs.List.{All, AllPairs, AllWithin, Any, between, filter}
use Rattle.std.specs.List.Sorted.{IsNonDecreasingBy}
use Rattle.std.proofs.lemmas.Bool.{and_from, and_parts, cases_lt, le-leb, leb-true}
use Rattle.std.proofs.lemmas.List.Edits.{get_or-between, length-between}
use Rattle.std.proofs.lemmas.List.Elements.{All-from_recursion, filter_passes, All-weaker}
use Rattle.range_core.specs.declared.Mode.{Mode}
use Rattle.range_core.specs.declared.Mode.TheVariants.{Read}
use Rattle.range_core.specs.declared.Span.{Span}
use Rattle.range_core.specs.Ranges.{AreRuns, Covers, IsByteRange, IsRun, Modes}
use Rattle.range_core.specs.Changes.{mode_in}
use Rattle.range_core.specs.Replacing.{Touches}
use Rattle.owner_runs.specs.Lists.{AreTouched}
use Rattle.owner_runs.specs.Tests.{meets}
use Rattle.owner_runs.specs.Trees.{AreOrdered, AreRunsTouching}
use Rattle.owner_runs.proofs.OrderLemmas.{all_passing, all_ranges, all_rising, ordered_passing}
use Rattle.owner_runs.proofs.RunLemmas.{all_runs, any_like, any_passing, any_with, are_runs, same_run}

-- among runs of modes is each run of theirs
pub run_among : (modes : Modes) (runs : List (Mode × Span)) (mode : Mode) (run : Span) → AreRuns modes runs → IsRun modes run.first mode run → Any (λ r. (r.0 ≡ mode) × (r.1 ≡ run)) runs
run_among modes runs mode run are is =
    let some = is.covered in
    let has = are.every run.first mode (is.constant run.first is.covered) in
    any_like (λ r. ((r.0 ≡ mode) × Covers r.1 run.first) × IsRun modes r.1.first r.0 r.1) (λ r. (r.0 ≡ mode) × (r.1 ≡ run)) runs
    (λ r holds. (holds.0.0, same_run modes r.1 run mode (subst (λ (m : Mode). IsRun modes r.1.first m r.1) holds.0.0 holds.1) is holds.0.1))
    (any_with (λ r. (r.0 ≡ mode) × Covers r.1 run.first) (λ r. IsRun modes r.1.first r.0 r.1) runs are.each has)

-- the runs that end at the byte before a range or behind that and begin at the byte behind it or before that touch it
meets_touches : (span : Span) (from : ℕ) (run : Mode × Span) → from ≡ span.first - 1 → meets from (span.last + 1) run ≡ true → Touches span run
meets_touches span from run is test =
    let tests = and_parts _ _ test in
    let ends = leb-true from run.1.last tests.0 in
    let begins = leb-true run.1.first (span.last + 1) tests.1 in
    (omega arith, begins)

touches_meets : (span : Span) (from : ℕ) (run : Mode × Span) → from ≡ span.first - 1 → Touches span run → meets from (span.last + 1) run ≡ true
touches_meets span from run is touch =
    let ends = touch.0 in
    and_from _ _ (le-leb from run.1.last (omega arith)) (le-leb run.1.first (span.last + 1) touch.1)

-- so these are the runs that touch the range
pub touching_meets : (runs : List (Mode × Span)) (span : Span) (from : ℕ) → AreOrdered runs → from ≡ span.first - 1 → AreRunsTouching (mode_in runs) span (filter (meets from (span.last + 1)) runs)
touching_meets runs span from ordered is =
    let p = meets from (span.last + 1) in
    record {
      rising = all_rising (filter p runs) (ordered_passing p runs ordered);
      each = All-from_recursion (λ (run : Mode × Span). IsRun (mode_in runs) run.1.first run.0 run.1) (filter p runs)
          (all_passing (λ run. IsRun (mode_in runs) run.1.first run.0 run.1) p runs (all_runs runs ordered));
      touch = All-weaker (λ (run : Mode × Span). p run ≡ true) (Touches span) (λ run test. meets_touches span from run is test) (filter p runs) (filter_passes p runs);
      every = λ mode run its touch. any_passing (λ r. (r.0 ≡ mode) × (r.1 ≡ run)) p runs
          (λ r holds. touches_meets span from r is (subst (λ (s : Span). (span.first ≤ s.last + 1) × (s.first ≤ span.last + 1)) (sym holds.1) touch))
          (run_among (mode_in runs) runs mode run (are_runs runs ordered) its);
    }

-- each that passes lies within a file
pub ranges_passing : (runs : List (Mode × Span)) (from last : ℕ) → AreOrdered runs → All (λ run. IsByteRange run.1) (filter (meets from last) runs)
ranges_passing runs from last ordered =
    All-from_recursion (λ (run : Mode × Span). IsByteRange run.1) (filter (meets from last) runs) (all_ranges _ (ordered_passing (meets from last) runs ordered))

module _ (runs : List (Mode × Span)) (rising : AllPairs (λ run other. run.1.last < other.1.first) runs) (ranges : All (λ run. IsByteRange run.1) runs) where
  -- the runs of a list rise by their first bytes, and by their last ones
  pub lasts_rise : IsNonDecreasingBy (λ run. run.1.last) runs
  lasts_rise i j d upto within = elim (cases_lt i j) [
    | inl before ↦ (let less = rising i j d before within in let size = (ranges j d within).0 in omega arith)
    | inr same ↦ (let at : i ≡ j = omega arith in let e : (get_or runs i d).1.last ≡ (get_or runs j d).1.last = ap (λ (k : ℕ). (get_or runs k d).1.last) at in omega arith)
  ]

  pub firsts_rise : IsNonDecreasingBy (λ run. run.1.first) runs
  firsts_rise i j d upto within = elim (cases_lt i j) [
    | inl before ↦ (let less = rising i j d before within in let size = (ranges i d (omega arith)).0 in omega arith)
    | inr same ↦ (let at : i ≡ j = omega arith in let e : (get_or runs i d).1.first ≡ (get_or runs j d).1.first = ap (λ (k : ℕ). (get_or runs k d).1.first) at in omega arith)
  ]

  -- so those that reach the range and begin in time stand in one piece
  pub are_touched : (span : Span) (before start end : ℕ) → before ≡ span.first - 1 → span.first ≤ span.last → end ≤ length runs → start ≤ length runs
      → AllWithin (λ run. run.1.last < before) runs 0 start → AllWithin (λ run. before ≤ run.1.last) runs start (length runs)
      → AllWithin (λ run. run.1.first ≤ span.last + 1) runs 0 end → AllWithin (λ run. span.last + 1 < run.1.first) runs end (length runs)
      → AreTouched runs span start end
  are_touched span before start end from inside end_there start_there low reach begin high = record {
    ordered = elim (cases_lt end start) [
      | inl crossed ↦
          (let blank : Mode × Span = (Read, record { first = 0; last = 0 }) in
          absurd (omega (arith, low end blank (omega arith) crossed, high end blank (omega arith) (omega arith), (ranges end blank (omega arith)).0)))
      | inr h ↦ h
    ];
    within = end_there;
    before = λ k d from_start to_start. let less = low k d from_start to_start in omega arith;
    between = λ k d from_start to_end.
        let begins = begin k d (omega arith) to_end in
        let ends = reach k d from_start (omega arith) in
        (omega arith, begins);
    behind = high;
  }

module _ (runs : List (Mode × Span)) (span : Span) (start end : ℕ) (touched : AreTouched runs span start end) where
  at_between : (k : ℕ) (d : Mode × Span) → k < length (between start end runs) → (start + k < end) × (get_or (between start end runs) k d ≡ get_or runs (start + k) d)
  at_between k d within =
      let there = touched.within in
      let order = touched.ordered in
      let size = length-between runs start end there in
      let inside : start + k < end = omega arith in
      (inside, get_or-between runs start end k d inside)

  -- what holds of all runs holds of those
  pub all_between : (P : Mode × Span → Type 0) → All P runs → All P (between start end runs)
  all_between P all k d within =
      let there = touched.within in
      let at = at_between k d within in
      let inside = at.0 in
      subst P (sym at.1) (all (start + k) d (omega arith))

  -- they rise
  rising_between : AllPairs (λ r s. r.1.last < s.1.first) runs → AllPairs (λ r s. r.1.last < s.1.first) (between start end runs)
  rising_between rising i j d less within =
      let there = touched.within in
      let first = at_between i d (omega arith) in
      let second = at_between j d within in
      let inside = second.0 in
      rw (first.1, second.1) (rising (start + i) (start + j) d (omega arith) (omega arith))

  -- they touch the range
  touch_between : All (Touches span) (between start end runs)
  touch_between k d within =
      let at = at_between k d within in
      subst (Touches span) (sym at.1) (touched.between (start + k) d (omega arith) at.0)

  -- and each that does is among them
  any_between : (P : Mode × Span → Type 0) → ((run : Mode × Span) → P run → Touches span run) → Any P runs → Any P (between start end runs)
  any_between P touch any =
      let k = any.0 in
      let run = any.1 in
      let touches = touch run any.4 in
      let t0 = touches.0 in
      let t1 = touches.1 in
      let from_start : start ≤ k = elim (cases_lt k start) [
        | inl less ↦
            (let ends : run.1.last + 1 < span.first = subst (λ (r : Mode × Span). r.1.last + 1 < span.first) any.3 (touched.before k run (omega arith) less) in
            absurd (omega arith))
        | inr h ↦ h
      ] in
      let to_end : k < end = elim (cases_lt k end) [
        | inl h ↦ h
        | inr beyond ↦
            (let begins : span.last + 1 < run.1.first = subst (λ (r : Mode × Span). span.last + 1 < r.1.first) any.3 (touched.behind k run beyond any.2) in
            absurd (omega arith))
      ] in
      let there = touched.within in
      let size = length-between runs start end there in
      let inside : start + (k - start) < end = omega arith in
      let same : start + (k - start) ≡ k = omega arith in
      let read : get_or (between start end runs) (k - start) run ≡ run =
      get_or-between runs start end (k - start) run inside ∙ ap (λ (j : ℕ). get_or runs j run) same ∙ any.3 in
      (k - start, run, omega arith, read, any.4)

  -- so they are the runs that touch it
  pub touching_between : (modes : Modes) → AreRuns modes runs → AreRunsTouching modes span (between start end runs)
  touching_between modes are = record {
    rising = rising_between are.rising;
    each = all_between (λ run. IsRun modes run.1.first run.0 run.1) are.each;
    touch = touch_between;
    every = λ mode run its touch. any_between (λ r. (r.0 ≡ mode) × (r.1 ≡ run))
        (λ r holds. subst (λ (s : Span). (span.first ≤ s.last + 1) × (s.first ≤ span.last + 1)) (sym holds.1) touch) (run_among modes runs mode run are its);
  }

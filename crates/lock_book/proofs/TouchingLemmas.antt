-- Of the runs that touch a range, what the index asks: for `take_out` and `put_in`.
use Rattle.lock_book.proofs.Common.{◌≡◌, ◌==◌, ◌+◌, ◌≤◌, true, List, All, ap, ◌∙◌, arith, list_any, eq-eqb, nat_tests, All-weaker, Mode, Span, Modes, IsRun, touches}
use Rattle.std.proofs.lemmas.List.Folds.{list_any_at}
use Rattle.range_core.specs.Replacing.{Touches}
use Rattle.owner_runs.specs.Trees.{AreRunsTouching}

-- a run that begins and ends so touches the range
pub touches_by : (span run : Span) → run.first ≤ span.last + 1 → span.first ≤ run.last + 1 → touches span run ≡ true
touches_by span run begins ends = grind (arith, nat_tests)

touches_parts : (span run : Span) → touches span run ≡ true → (span.first ≤ run.last + 1) × (run.first ≤ span.last + 1)
touches_parts span run test = (grind (arith, nat_tests), grind (arith, nat_tests))

module _ (modes : Modes) (span : Span) (runs : List (Mode × Span)) (are : AreRunsTouching modes span runs) where
  -- each does
  pub all_touch : All (λ run. touches span run.1 ≡ true) runs
  all_touch = All-weaker (Touches span) (λ run. touches span run.1 ≡ true) (λ run t. touches_by span run.1 t.1 t.0) runs are.touch

  -- and each that does is among them
  pub each_touching : (mode : Mode) (run : Span) → IsRun modes run.first mode run → touches span run ≡ true
      → list_any (λ listed. listed.1.first == run.first) runs ≡ true
  each_touching mode run is touch =
      let any = are.every mode run is (touches_parts span run touch) in
      let at : any.1.1.first ≡ run.first = ap (λ (s : Span). s.first) any.4.1 in
      list_any_at (λ listed. listed.1.first == run.first) runs any.0 any.1 any.2
      (ap (λ (r : Mode × Span). r.1.first == run.first) any.3 ∙ eq-eqb any.1.1.first run.first at)

-- The lines that tell the runs of an owner: for `push_runs`.
use Rattle.lock_book.proofs.Common.{ℕ, ◌≡◌, ◌<◌, ◌∙◌, ap, refl, arith, false, List, All, length, map, Mode, Span, Modes, IsByteRange, IsRun, AreRuns, Owner, Held}
use Rattle.std.proofs.lemmas.List.{get_or-map, length-map}
use Rattle.std.proofs.lemmas.List.Elements.{All-map}
use Rattle.lock_book.specs.Reports.{AreOwnerLocks}

module _ (file : ℕ) (owner : Owner) where
  -- the line that tells a run
  abbrev pub run_line : Mode × Span → Held
  run_line run = record { file = file; whole = false; owner = owner; mode = run.0; span = run.1 }

  -- the lines of all runs are an owner's locks
  pub lines_of_runs : (modes : Modes) (runs : List (Mode × Span)) → AreRuns modes runs → All (λ run. IsByteRange run.1) runs
      → AreOwnerLocks file owner modes (map run_line runs)
  lines_of_runs modes runs are ranges = record {
    rising = λ i j d before within.
        let e : Mode × Span = (d.mode, d.span) in
        let inside : j < length runs = omega (arith, length-map runs run_line) in
        let inside_first : i < length runs = omega (arith, length-map runs run_line) in
        rw (get_or-map run_line runs i e d inside_first, get_or-map run_line runs j e d inside) (are.rising i j e before inside);
    each = All-map (λ x. (x.file ≡ file) × (x.whole ≡ false) × (x.owner ≡ owner) × IsRun modes x.span.first x.mode x.span) run_line runs
        (λ k d within. (refl, refl, refl, are.each k d within));
    ranges = All-map (λ x. IsByteRange x.span) run_line runs ranges;
    every = λ byte mode has.
        let run = are.every byte mode has in
        (run.0, run_line run.1, omega (arith, length-map runs run_line, run.2), get_or-map run_line runs run.0 run.1 (run_line run.1) run.2 ∙ ap run_line run.3, run.4);
  }

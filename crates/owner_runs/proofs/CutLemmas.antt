-- The place of a byte in the order of the runs, and the first run from there on that conflicts.
use Rattle.std.proofs.Common.{ℕ, ◌≡◌, ◌<◌, ◌≤◌, inl, inr, Bool, true, false, cond, max, refl, subst, Some, None, List, [], ◌∷◌, arith}
use Rattle.std.specs.List.{AllByRecursion, find}
use Rattle.std.proofs.lemmas.Bool.{and_cases, and_parts, le-leb, leb-true, leb-false}
use Rattle.range_core.specs.declared.Mode.{Mode}
use Rattle.range_core.specs.declared.Mode.TheVariants.{Read, Write}
use Rattle.range_core.specs.declared.Span.{Span}
use Rattle.range_core.specs.Ranges.{Conflict, HeldConflicts, IsApart, IsByteRange, IsFirstHit, Modes}
use Rattle.range_core.specs.Changes.{mode_in}
use Rattle.summary_tree.specs.Cuts.{both, IsCutBy}
use Rattle.owner_runs.specs.Tests.{conflicts, ends_from, modes_conflict}
use Rattle.owner_runs.specs.Trees.{AreOrdered, IsWhole}
use Rattle.owner_runs.proofs.ModeLemmas.{below, cases_covers, covered}
use Rattle.owner_runs.proofs.OrderLemmas.{none_upto, whole_behind, whole_first}
use Rattle.owner_runs.proofs.FindLemmas.{found_one}

each_later : (byte : ℕ) (run : Mode × Span) (runs : List (Mode × Span)) → byte ≤ run.1.last → AllByRecursion (IsApart run) runs → AreOrdered runs → AllByRecursion (λ other. ends_from byte other ≡ true) runs
each_later byte run [] reaches apart ordered = tt
each_later byte run (other ∷ runs) reaches apart ordered =
    let less = apart.0.0 in
    let some = ordered.0.0 in
    (le-leb byte other.1.last (omega arith), each_later byte run runs reaches apart.1 ordered.2)

-- runs in order are cut at each byte
pub cut_at : (byte : ℕ) (runs : List (Mode × Span)) → AreOrdered runs → IsCutBy (ends_from byte) runs
cut_at byte [] ordered = tt
cut_at byte (run ∷ runs) ordered =
    (λ passes. each_later byte run runs (leb-true byte run.1.last passes) ordered.1 ordered.2, cut_at byte runs ordered.2)

-- what the test of two modes tells
pub conflict_from_test : (wanted held : Mode) → modes_conflict wanted held ≡ true → Conflict held wanted
conflict_from_test Read Read test = absurd (let no : false ≡ true = test in cc)
conflict_from_test Read Write test = tt
conflict_from_test Write Read test = tt
conflict_from_test Write Write test = tt

pub no_conflict : (wanted held : Mode) → modes_conflict wanted held ≡ false → ¬ (Conflict held wanted)
no_conflict Read Read test conflict = conflict
no_conflict Read Write test conflict = absurd (let no : true ≡ false = test in cc)
no_conflict Write Read test conflict = absurd (let no : true ≡ false = test in cc)
no_conflict Write Write test conflict = absurd (let no : true ≡ false = test in cc)

-- the run is the first that reaches the byte and conflicts
pub record IsFirstConflict (modes : Modes) (byte : ℕ) (wanted : Mode) (run : Mode × Span) : Type 0 where
  pub range : IsByteRange run.1
  pub whole : IsWhole modes run
  pub reaches : byte ≤ run.1.last
  pub conflict : Conflict run.0 wanted
  pub least : (other : ℕ) → byte ≤ other → other < run.1.first → ¬ (HeldConflicts (modes other) wanted)

-- a byte from the first one on that a run in front doesn't block is blocked just as without it
unblocked : (byte other : ℕ) (wanted : Mode) (first : Mode × Span) (runs : List (Mode × Span)) → both (ends_from byte) (conflicts wanted) first ≡ false → byte ≤ other
    → ¬ (HeldConflicts (mode_in runs other) wanted) → ¬ (HeldConflicts (mode_in (first ∷ runs) other) wanted)
unblocked byte other wanted first runs test from rest hit = elim (cases_covers first.1 other) [
  | inl covers ↦
      let here : Conflict first.0 wanted = rw (covered first.1 other covers.0 covers.1) at hit in
      elim (and_cases (ends_from byte first) (conflicts wanted first) test) [
        | inl ends ↦ (let upto = covers.1 in let less = leb-false byte first.1.last ends in omega arith)
        | inr free ↦ no_conflict wanted first.0 free here
      ]
  | inr outside ↦ rest (rw outside at hit)
]

conflict_at : (byte : ℕ) (wanted : Mode) (first run : Mode × Span) (runs : List (Mode × Span)) (b : Bool) → both (ends_from byte) (conflicts wanted) first ≡ b → AreOrdered (first ∷ runs)
    → cond b (Some first) (find (both (ends_from byte) (conflicts wanted)) runs) ≡ Some run
    → (find (both (ends_from byte) (conflicts wanted)) runs ≡ Some run → IsFirstConflict (mode_in runs) byte wanted run) → IsFirstConflict (mode_in (first ∷ runs)) byte wanted run
conflict_at byte wanted first run runs true test ordered found rest =
    let same : first ≡ run = cc in
    let some = ordered.0.0 in
    let tests = and_parts (ends_from byte first) (conflicts wanted first) test in
    subst (λ (r : Mode × Span). IsFirstConflict (mode_in (first ∷ runs)) byte wanted r) same (record {
      range = ordered.0;
      whole = whole_first first runs ordered.0.0 ordered.1;
      reaches = leb-true byte first.1.last tests.0;
      conflict = conflict_from_test wanted first.0 tests.1;
      least = λ other from upto hit.
          let none : mode_in (first ∷ runs) other ≡ None = rw (below first.1 other upto) (none_upto first runs other ordered.1 (omega arith)) in
          rw none at hit;
    })
conflict_at byte wanted first run runs false test ordered found rest =
    let next = rest found in
    let apart = found_one (IsApart first) (both (ends_from byte) (conflicts wanted)) runs run ordered.1 found in
    record {
      range = next.range;
      whole = whole_behind first run runs next.range.0 apart next.whole;
      reaches = next.reaches;
      conflict = next.conflict;
      least = λ other from upto. unblocked byte other wanted first runs test from (next.least other from upto);
    }

-- the run that is found to reach a byte and to conflict is the first
pub conflict_found : (byte : ℕ) (wanted : Mode) (runs : List (Mode × Span)) (run : Mode × Span) → AreOrdered runs → find (both (ends_from byte) (conflicts wanted)) runs ≡ Some run
    → IsFirstConflict (mode_in runs) byte wanted run
conflict_found byte wanted [] run ordered found = absurd (let no : None ≡ Some run = found in cc)
conflict_found byte wanted (first ∷ runs) run ordered found =
    conflict_at byte wanted first run runs (both (ends_from byte) (conflicts wanted) first) refl ordered found (conflict_found byte wanted runs run ordered.2)

free_at : (byte other : ℕ) (wanted : Mode) (first : Mode × Span) (runs : List (Mode × Span)) (b : Bool) → both (ends_from byte) (conflicts wanted) first ≡ b
    → cond b (Some first) (find (both (ends_from byte) (conflicts wanted)) runs) ≡ None → byte ≤ other
    → (find (both (ends_from byte) (conflicts wanted)) runs ≡ None → ¬ (HeldConflicts (mode_in runs other) wanted)) → ¬ (HeldConflicts (mode_in (first ∷ runs) other) wanted)
free_at byte other wanted first runs true test none from rest = absurd (let no : Some first ≡ None = none in cc)
free_at byte other wanted first runs false test none from rest = unblocked byte other wanted first runs test from (rest none)

-- where none is found, no byte from there on conflicts
pub none_conflicts : (byte other : ℕ) (wanted : Mode) (runs : List (Mode × Span)) → find (both (ends_from byte) (conflicts wanted)) runs ≡ None → byte ≤ other → ¬ (HeldConflicts (mode_in runs other) wanted)
none_conflicts byte other wanted [] none from = λ hit. hit
none_conflicts byte other wanted (first ∷ runs) none from =
    free_at byte other wanted first runs (both (ends_from byte) (conflicts wanted) first) refl none from (λ rest. none_conflicts byte other wanted runs rest from)

-- the first byte of that run, or of the range where the run begins before it, conflicts first
pub first_hit_of : (modes : Modes) (span : Span) (wanted : Mode) (run : Mode × Span) → IsFirstConflict modes span.first wanted run → span.first ≤ span.last → run.1.first ≤ span.last
    → IsFirstHit modes span wanted (max run.1.first span.first)
first_hit_of modes span wanted run first some begins =
    let reaches = first.reaches in
    let range = first.range.0 in
    let hit = max run.1.first span.first in
    let has : modes hit ≡ Some run.0 = first.whole.constant hit (omega arith, omega arith) in
    record {
      covered = (omega arith, omega arith);
      hit = rw has first.conflict;
      least = λ other from less. first.least other from (omega arith);
    }

-- Runs in order are the runs of the modes that they give, and the runs of modes are in order.
use Rattle.std.proofs.Common.{ℕ, zero, suc, ◌≡◌, ◌≢◌, ◌+◌, ◌<◌, ◌≤◌, ◌==◌, inl, inr, Bool, true, false, cond, refl, sym, ap, ◌∙◌, subst, Option, Some, None, List, [], ◌∷◌, length, get_or, arith}
use Rattle.std.specs.List.{All, AllByRecursion, AllPairs, Any, filter, find}
use Rattle.std.proofs.lemmas.Bool.{cases_lt}
use Rattle.std.proofs.lemmas.List.Elements.{All-from_recursion, recursion_from_All}
use Rattle.range_core.specs.declared.Mode.{Mode}
use Rattle.range_core.specs.declared.Span.{Span}
use Rattle.range_core.specs.Ranges.{AreRuns, Covers, IsApart, IsByteRange, IsRun, Modes}
use Rattle.range_core.specs.Changes.{mode_in}
use Rattle.owner_runs.specs.Tests.{ends_from}
use Rattle.owner_runs.specs.Trees.{AreOrdered, IsWhole}
use Rattle.owner_runs.proofs.FindLemmas.{next_found, none_found}
use Rattle.owner_runs.proofs.ModeLemmas.{cases_covers, covered}
use Rattle.owner_runs.proofs.OrderLemmas.{all_ranges, all_rising, all_whole}
use Rattle.owner_runs.proofs.PieceLemmas.{not_free, one_mode, run_of_whole}

pub any_here : (P : Mode × Span → Type 0) (run : Mode × Span) (runs : List (Mode × Span)) → P run → Any P (run ∷ runs)
any_here P run runs holds = (0, run, omega arith, refl, holds)

pub any_there : (P : Mode × Span → Type 0) (run : Mode × Span) (runs : List (Mode × Span)) → Any P runs → Any P (run ∷ runs)
any_there P run runs any = let inside = any.2 in (suc any.0, any.1, omega arith, any.3, any.4)

pub any_like : (P Q : Mode × Span → Type 0) (runs : List (Mode × Span)) → ((run : Mode × Span) → P run → Q run) → Any P runs → Any Q runs
any_like P Q runs like any = (any.0, any.1, any.2, any.3, like any.1 any.4)

-- what holds of some run and what holds of each hold of one
pub any_with : (P Q : Mode × Span → Type 0) (runs : List (Mode × Span)) → All Q runs → Any P runs → Any (λ run. P run × Q run) runs
any_with P Q runs all any = (any.0, any.1, any.2, any.3, (any.4, subst Q any.3 (all any.0 any.1 any.2)))

any_passing_at : (P : Mode × Span → Type 0) (p : Mode × Span → Bool) (first : Mode × Span) (runs : List (Mode × Span)) (b : Bool) → Any P (filter p runs) → Any P (cond b (first ∷ filter p runs) (filter p runs))
any_passing_at P p first runs true any = any_there P first (filter p runs) any
any_passing_at P p first runs false any = any

any_passing_from : (P : Mode × Span → Type 0) (p : Mode × Span → Bool) → ((run : Mode × Span) → P run → p run ≡ true) → (runs : List (Mode × Span)) (k : ℕ) (run : Mode × Span) → k < length runs → get_or runs k run ≡ run → P run → Any P (filter p runs)
any_passing_from P p passes [] k run within is holds = absurd (omega arith)
any_passing_from P p passes (first ∷ runs) zero run within is holds =
    let here : P first = subst P (sym is) holds in
    rw (passes first here) (any_here P first (filter p runs) here)
any_passing_from P p passes (first ∷ runs) (suc k) run within is holds =
    any_passing_at P p first runs (p first) (any_passing_from P p passes runs k run (omega arith) is holds)

-- some run that passes is among those that pass
pub any_passing : (P : Mode × Span → Type 0) (p : Mode × Span → Bool) (runs : List (Mode × Span)) → ((run : Mode × Span) → P run → p run ≡ true) → Any P runs → Any P (filter p runs)
any_passing P p runs passes any = any_passing_from P p passes runs any.0 any.1 any.2 any.3 any.4

runs_of_wholes : (modes : Modes) (runs : List (Mode × Span)) → AllByRecursion (λ run. IsByteRange run.1) runs → AllByRecursion (IsWhole modes) runs → AllByRecursion (λ run. IsRun modes run.1.first run.0 run.1) runs
runs_of_wholes modes [] ranges wholes = tt
runs_of_wholes modes (run ∷ runs) ranges wholes =
    let some = ranges.0.0 in
    (run_of_whole modes run run.1.first wholes.0 (omega arith, some), runs_of_wholes modes runs ranges.1 wholes.1)

-- each is a run of the modes
pub all_runs : (runs : List (Mode × Span)) → AreOrdered runs → AllByRecursion (λ run. IsRun (mode_in runs) run.1.first run.0 run.1) runs
all_runs runs ordered = runs_of_wholes (mode_in runs) runs (all_ranges runs ordered) (all_whole runs ordered)

-- where a byte has a mode, a run of the mode covers it
pub run_that_covers : (runs : List (Mode × Span)) (byte : ℕ) (mode : Mode) → mode_in runs byte ≡ Some mode → Any (λ run. (run.0 ≡ mode) × Covers run.1 byte) runs
run_that_covers [] byte mode has = absurd (let no : None ≡ Some mode = has in cc)
run_that_covers (first ∷ runs) byte mode has = elim (cases_covers first.1 byte) [
  | inl covers ↦
      let is : Some first.0 ≡ Some mode = rw (covered first.1 byte covers.0 covers.1) at has in
      let same : first.0 ≡ mode = cc in
      any_here (λ run. (run.0 ≡ mode) × Covers run.1 byte) first runs (same, covers)
  | inr outside ↦ any_there (λ run. (run.0 ≡ mode) × Covers run.1 byte) first runs (run_that_covers runs byte mode (rw outside at has))
]

-- all the runs of the modes that they give
pub are_runs : (runs : List (Mode × Span)) → AreOrdered runs → AreRuns (mode_in runs) runs
are_runs runs ordered = record {
  rising = all_rising runs ordered;
  each = All-from_recursion (λ (run : Mode × Span). IsRun (mode_in runs) run.1.first run.0 run.1) runs (all_runs runs ordered);
  every = run_that_covers runs;
}

-- two runs of one mode don't lie side by side
joined_not : (modes : Modes) (run other : Mode × Span) → IsRun modes run.1.first run.0 run.1 → IsRun modes other.1.first other.0 other.1 → run.1.last + 1 ≡ other.1.first → run.0 ≢ other.0
joined_not modes run other is other_is touch same =
    let some = is.covered.1 in
    let long : Span = record { first = run.1.first; last = run.1.last + 1 } in
    let constant : (byte : ℕ) → Covers long byte → modes byte ≡ Some run.0 = λ byte covers.
    elim (cases_lt run.1.last byte) [
      | inl beyond ↦
          let upto = covers.1 in
          let at : byte ≡ other.1.first = omega arith in
          ap modes at ∙ other_is.constant other.1.first other_is.covered ∙ ap Some (sym same)
      | inr upto ↦ is.constant byte (covers.0, upto)
    ] in
    let widest = is.largest long (omega arith, omega arith) constant in
    let last = widest.1 in
    absurd (omega arith)

runs_apart : (modes : Modes) (run other : Mode × Span) → IsRun modes run.1.first run.0 run.1 → IsRun modes other.1.first other.0 other.1 → run.1.last < other.1.first → IsApart run other
runs_apart modes run other is other_is less = (less, λ touch same. joined_not modes run other is other_is touch same)

-- runs that rise and lie within a file are in order
pub ordered_from : (modes : Modes) (runs : List (Mode × Span)) → AllPairs (λ r s. r.1.last < s.1.first) runs → All (λ r. IsRun modes r.1.first r.0 r.1) runs → All (λ run. IsByteRange run.1) runs → AreOrdered runs
ordered_from modes [] rising each ranges = tt
ordered_from modes (run ∷ runs) rising each ranges = (
  ranges 0 run (omega arith),
  recursion_from_All (IsApart run) runs (λ k d within. runs_apart modes run (get_or runs k d) (each 0 run (omega arith)) (each (suc k) d (omega arith)) (rising 0 (suc k) d (omega arith) (omega arith))),
  ordered_from modes runs (λ i j d less within. rising (suc i) (suc j) d (omega arith) (omega arith)) (λ k d within. each (suc k) d (omega arith)) (λ k d within. ranges (suc k) d (omega arith)),
)

-- a byte has the mode of each run in order that covers it
mode_of_run : (runs : List (Mode × Span)) (byte : ℕ) (mode : Mode) → AreOrdered runs → Any (λ run. (run.0 ≡ mode) × Covers run.1 byte) runs → mode_in runs byte ≡ Some mode
mode_of_run runs byte mode ordered any =
    let whole : IsWhole (mode_in runs) any.1 = subst (IsWhole (mode_in runs)) any.3 (All-from_recursion (IsWhole (mode_in runs)) runs (all_whole runs ordered) any.0 any.1 any.2) in
    whole.constant byte any.4.1 ∙ ap Some any.4.0

modes_at : (modes : Modes) (runs : List (Mode × Span)) (byte : ℕ) (mine theirs : Option Mode) → mode_in runs byte ≡ mine → modes byte ≡ theirs → AreOrdered runs → AreRuns modes runs → mode_in runs byte ≡ modes byte
modes_at modes runs byte None None mine theirs ordered are = mine ∙ sym theirs
modes_at modes runs byte (Some mode) theirs mine is ordered are =
    let any = run_that_covers runs byte mode mine in
    let run : IsRun modes any.1.1.first any.1.0 any.1.1 = subst (λ (r : Mode × Span). IsRun modes r.1.first r.0 r.1) any.3 (are.each any.0 any.1 any.2) in
    mine ∙ sym (run.constant byte any.4.1 ∙ ap Some any.4.0)
modes_at modes runs byte None (Some mode) mine theirs ordered are = mode_of_run runs byte mode ordered (are.every byte mode theirs) ∙ sym theirs

-- the runs of modes give those modes
pub modes_of_runs : (modes : Modes) (runs : List (Mode × Span)) → AreOrdered runs → AreRuns modes runs → (byte : ℕ) → mode_in runs byte ≡ modes byte
modes_of_runs modes runs ordered are byte = modes_at modes runs byte (mode_in runs byte) (modes byte) refl refl ordered are

-- two runs of one mode on one byte are the same range
pub same_run : (modes : Modes) (run other : Span) (mode : Mode) → IsRun modes run.first mode run → IsRun modes other.first mode other → Covers run other.first → run ≡ other
same_run modes run other mode is other_is covers =
    let from = covers.0 in
    let upto = covers.1 in
    let wide = other_is.largest run covers is.constant in
    let wide_first = wide.0 in
    let wide_last = wide.1 in
    let some = is.covered.1 in
    let back = is.largest other (omega arith, omega (arith, other_is.covered.1)) other_is.constant in
    let back_first = back.0 in
    let back_last = back.1 in
    let first : run.first ≡ other.first = omega arith in
    let last : run.last ≡ other.last = omega arith in
    let Made : ℕ → ℕ → Span = λ a b. record { first = a; last = b } in
    ap (λ (a : ℕ). Made a run.last) first ∙ ap (λ (b : ℕ). Made other.first b) last

whole_at : (runs : List (Mode × Span)) (run : Mode × Span) (found : Option (Mode × Span)) → find (ends_from run.1.last) runs ≡ found → AreOrdered runs → run.1.first ≤ run.1.last → IsWhole (mode_in runs) run → found ≡ Some run
whole_at runs run None is ordered some whole =
    absurd (not_free (mode_in runs) run.1.last run.0 (whole.constant run.1.last (some, omega arith)) (none_found run.1.last run.1.last runs is (omega arith)))
whole_at runs run (Some other) is ordered some whole =
    let modes = mode_in runs in
    let next = next_found run.1.last runs other ordered is in
    let reaches = next.reaches in
    let size = next.range.0 in
    let has = whole.constant run.1.last (some, omega arith) in
    let begins : other.1.first ≤ run.1.last = elim (cases_lt run.1.last other.1.first) [
      | inl late ↦ absurd (not_free modes run.1.last run.0 has (next.free run.1.last (omega arith) late))
      | inr upto ↦ upto
    ] in
    let mode : other.0 ≡ run.0 = one_mode modes run.1.last other.0 run.0 (next.whole.constant run.1.last (begins, reaches)) has in
    let first : IsRun modes run.1.first run.0 run.1 = run_of_whole modes run run.1.first whole (omega arith, some) in
    let second : IsRun modes other.1.first run.0 other.1 = subst (λ (m : Mode). IsRun modes other.1.first m other.1) mode (run_of_whole modes other other.1.first next.whole (omega arith, size)) in
    let span : other.1 ≡ run.1 = elim (cases_lt run.1.first other.1.first) [
      | inl lower ↦ sym (same_run modes run.1 other.1 run.0 first second (omega arith, begins))
      | inr from ↦ same_run modes other.1 run.1 run.0 second first (from, omega arith)
    ] in
    let Made : Mode → Span → Mode × Span = λ m s. (m, s) in
    ap Some (ap (λ (m : Mode). Made m other.1) mode ∙ ap (λ (s : Span). Made run.0 s) span)

-- a run of the modes is found at its last byte
pub found_whole : (runs : List (Mode × Span)) (run : Mode × Span) → AreOrdered runs → run.1.first ≤ run.1.last → IsWhole (mode_in runs) run → find (ends_from run.1.last) runs ≡ Some run
found_whole runs run ordered some whole = whole_at runs run (find (ends_from run.1.last) runs) refl ordered some whole

free_at : (modes : Modes) (runs : List (Mode × Span)) (byte : ℕ) (mode : Option Mode) → modes byte ≡ mode → AreRuns modes runs → length runs ≡ 0 → modes byte ≡ None
free_at modes runs byte None is are none = is
free_at modes runs byte (Some mode) is are none = absurd (let within = (are.every byte mode is).2 in omega arith)

-- where there is no run, no byte has a mode
pub free_if_empty : (modes : Modes) (runs : List (Mode × Span)) → AreRuns modes runs → length runs ≡ 0 → (byte : ℕ) → modes byte ≡ None
free_if_empty modes runs are none byte = free_at modes runs byte (modes byte) refl are none

-- and where no byte has one there is none
pub empty_if_free : (modes : Modes) (runs : List (Mode × Span)) → AreRuns modes runs → ((byte : ℕ) → modes byte ≡ None) → length runs ≡ 0
empty_if_free modes [] are free = refl
empty_if_free modes (run ∷ runs) are free =
    let here = are.each 0 run (omega arith) in
    absurd (let no : Some run.0 ≡ None = sym (here.constant run.1.first here.covered) ∙ free run.1.first in cc)

-- and else the first covers a byte that has one
pub held_unless_empty : (modes : Modes) (runs : List (Mode × Span)) → AreRuns modes runs → (length runs == 0) ≡ false → (byte : ℕ) × (mode : Mode) × (modes byte ≡ Some mode)
held_unless_empty modes [] are some = absurd (let wrong : true ≡ false = some in cc)
held_unless_empty modes (run ∷ runs) are some = let first = are.each 0 run (omega arith) in (run.1.first, run.0, first.constant run.1.first first.covered)

-- The run that is found at a byte or behind it, and the last one before it.
use Rattle.std.proofs.Common.{ℕ, ◌≡◌, ◌≢◌, ◌+◌, ◌<◌, ◌≤◌, inl, inr, Bool, true, false, cond, leb, refl, sym, ap, ◌∙◌, subst, Option, Some, None, List, [], ◌∷◌, arith}
use Rattle.std.specs.List.{AllByRecursion, filter, find, last_or}
use Rattle.std.proofs.lemmas.Bool.{and_from, and_left, and_right, cases_lt, le-leb, lt-leb, leb-true, leb-false}
use Rattle.range_core.specs.declared.TheConstants.{OFFMAX}
use Rattle.range_core.specs.declared.Mode.{Mode}
use Rattle.range_core.specs.declared.Span.{Span}
use Rattle.range_core.specs.Ranges.{IsApart}
use Rattle.range_core.specs.Changes.{mode_in}
use Rattle.summary_tree.specs.Cuts.{before}
use Rattle.owner_runs.specs.Tests.{ends_from, meets}
use Rattle.owner_runs.specs.Trees.{AreOrdered, IsNext, IsNextRun, IsPrior}
use Rattle.owner_runs.proofs.ModeLemmas.{above, below, covered}
use Rattle.owner_runs.proofs.OrderLemmas.{none_upto, whole_behind, whole_first}

found_at : (P : Mode × Span → Type 0) (p : Mode × Span → Bool) (first run : Mode × Span) (runs : List (Mode × Span)) (b : Bool) → P first → cond b (Some first) (find p runs) ≡ Some run → (find p runs ≡ Some run → P run) → P run
found_at P p first run runs true holds found rest = let same : first ≡ run = cc in subst P same holds
found_at P p first run runs false holds found rest = rest found

-- what holds of each run holds of the one that is found
pub found_one : (P : Mode × Span → Type 0) (p : Mode × Span → Bool) (runs : List (Mode × Span)) (run : Mode × Span) → AllByRecursion P runs → find p runs ≡ Some run → P run
found_one P p [] run all found = absurd (let no : None ≡ Some run = found in cc)
found_one P p (first ∷ runs) run all found = found_at P p first run runs (p first) all.0 found (found_one P p runs run all.1)

next_at : (byte : ℕ) (first run : Mode × Span) (runs : List (Mode × Span)) (b : Bool) → ends_from byte first ≡ b → AreOrdered (first ∷ runs) → cond b (Some first) (find (ends_from byte) runs) ≡ Some run
    → (find (ends_from byte) runs ≡ Some run → IsNextRun (mode_in runs) byte run) → IsNextRun (mode_in (first ∷ runs)) byte run
next_at byte first run runs true test ordered found rest =
    let same : first ≡ run = cc in
    let some = ordered.0.0 in
    subst (λ (r : Mode × Span). IsNextRun (mode_in (first ∷ runs)) byte r) same (record {
      range = ordered.0;
      whole = whole_first first runs ordered.0.0 ordered.1;
      reaches = leb-true byte first.1.last test;
      free = λ other from upto. rw (below first.1 other upto) (none_upto first runs other ordered.1 (omega arith));
    })
next_at byte first run runs false test ordered found rest =
    let next = rest found in
    let apart = found_one (IsApart first) (ends_from byte) runs run ordered.1 found in
    let ends = leb-false byte first.1.last test in
    record {
      range = next.range;
      whole = whole_behind first run runs next.range.0 apart next.whole;
      reaches = next.reaches;
      free = λ other from upto. rw (above first.1 other (omega arith)) (next.free other from upto);
    }

-- the run that is found at a byte is the next one from there
pub next_found : (byte : ℕ) (runs : List (Mode × Span)) (run : Mode × Span) → AreOrdered runs → find (ends_from byte) runs ≡ Some run → IsNextRun (mode_in runs) byte run
next_found byte [] run ordered found = absurd (let no : None ≡ Some run = found in cc)
next_found byte (first ∷ runs) run ordered found = next_at byte first run runs (ends_from byte first) refl ordered found (next_found byte runs run ordered.2)

none_at : (byte other : ℕ) (first : Mode × Span) (runs : List (Mode × Span)) (b : Bool) → ends_from byte first ≡ b → cond b (Some first) (find (ends_from byte) runs) ≡ None → byte ≤ other
    → (find (ends_from byte) runs ≡ None → mode_in runs other ≡ None) → mode_in (first ∷ runs) other ≡ None
none_at byte other first runs true test none from rest = absurd (let no : Some first ≡ None = none in cc)
none_at byte other first runs false test none from rest =
    let ends = leb-false byte first.1.last test in
    rw (above first.1 other (omega arith)) (rest none)

-- where none is found, no byte from there on has a mode
pub none_found : (byte other : ℕ) (runs : List (Mode × Span)) → find (ends_from byte) runs ≡ None → byte ≤ other → mode_in runs other ≡ None
none_found byte other [] none from = refl
none_found byte other (first ∷ runs) none from = none_at byte other first runs (ends_from byte first) refl none from (λ rest. none_found byte other runs rest from)

-- what is found is the next run from the byte on
pub next_is : (byte : ℕ) (runs : List (Mode × Span)) (next : Option (Mode × Span)) → AreOrdered runs → next ≡ find (ends_from byte) runs → IsNext runs byte next
next_is byte runs None ordered is = record { found = is; run = tt; none = λ other from. none_found byte other runs (sym is) from }
next_is byte runs (Some run) ordered is = record { found = is; run = next_found byte runs run ordered (sym is); none = tt }

-- where there are runs, there is a last one
pub some_last : (run : Mode × Span) (runs : List (Mode × Span)) → last_or (Some run) runs ≢ None
some_last run [] none = absurd (let no : Some run ≡ None = none in cc)
some_last run (other ∷ runs) none = some_last other runs none

-- what holds of each run holds of the last
pub last_one : (P : Mode × Span → Type 0) (runs : List (Mode × Span)) (last : Mode × Span) → AllByRecursion P runs → last_or None runs ≡ Some last → P last
last_one P [] last all is = absurd (let no : None ≡ Some last = is in cc)
last_one P (run ∷ []) last all is = let same : run ≡ last = cc in subst P same all.0
last_one P (run ∷ other ∷ runs) last all is = last_one P (other ∷ runs) last all.1 is

-- and of those before the first that passes
all_before : (P : Mode × Span → Type 0) (p : Mode × Span → Bool) (runs : List (Mode × Span)) → AllByRecursion P runs → AllByRecursion P (before p runs)
all_before P p [] all = tt
all_before P p (run ∷ runs) all =
    elim (p run) as (λ b. AllByRecursion P (cond b [] (run ∷ before p runs))) [ true ↦ tt | false ↦ (all.0, all_before P p runs all.1) ]

-- a run in front is the last before a byte where none behind it is
prior_first : (byte : ℕ) (first : Mode × Span) (runs : List (Mode × Span)) → AreOrdered (first ∷ runs) → first.1.last < byte → IsPrior (mode_in runs) byte None → IsPrior (mode_in (first ∷ runs)) byte (Some first)
prior_first byte first runs ordered ends rest = record {
  run = record {
    range = ordered.0;
    whole = whole_first first runs ordered.0.0 ordered.1;
    ends = ends;
    free = λ free other from upto. rw (above first.1 other from) (rest.none (rw (above first.1 byte ends) at free) other upto);
  };
  none = tt;
}

-- and else leaves that one the last
prior_behind : (byte : ℕ) (first : Mode × Span) (runs : List (Mode × Span)) (prior : Option (Mode × Span)) → prior ≢ None → first.1.last < byte → ((run : Mode × Span) → prior ≡ Some run → IsApart first run)
    → IsPrior (mode_in runs) byte prior → IsPrior (mode_in (first ∷ runs)) byte prior
prior_behind byte first runs None some ends apart rest = absurd (some refl)
prior_behind byte first runs (Some run) some ends apart rest =
    let prior = rest.run in
    let less = (apart run refl).0 in
    let size = prior.range.0 in
    record {
      run = record {
        range = prior.range;
        whole = whole_behind first run runs size (apart run refl) prior.whole;
        ends = prior.ends;
        free = λ free other from upto. rw (above first.1 other (omega arith)) (prior.free (rw (above first.1 byte ends) at free) other from upto);
      };
      none = tt;
    }

prior_with : (byte : ℕ) (first : Mode × Span) (runs low : List (Mode × Span)) → AreOrdered (first ∷ runs) → first.1.last < byte → AllByRecursion (IsApart first) low → IsPrior (mode_in runs) byte (last_or None low)
    → IsPrior (mode_in (first ∷ runs)) byte (last_or (Some first) low)
prior_with byte first runs [] ordered ends apart rest = prior_first byte first runs ordered ends rest
prior_with byte first runs (other ∷ low) ordered ends apart rest =
    prior_behind byte first runs (last_or (Some other) low) (some_last other low) ends (λ run is. last_one (IsApart first) (other ∷ low) run apart is) rest

prior_at : (byte : ℕ) (first : Mode × Span) (runs : List (Mode × Span)) (b : Bool) → ends_from byte first ≡ b → AreOrdered (first ∷ runs) → IsPrior (mode_in runs) byte (last_or None (before (ends_from byte) runs))
    → IsPrior (mode_in (first ∷ runs)) byte (last_or None (cond b [] (first ∷ before (ends_from byte) runs)))
prior_at byte first runs true test ordered rest =
    let reaches = leb-true byte first.1.last test in
    record {
      run = tt;
      none = λ free other low. elim (cases_lt other first.1.first) [
        | inl lower ↦ rw (below first.1 other lower) (none_upto first runs other ordered.1 (omega arith))
        | inr from ↦ absurd (let no : Some first.0 ≡ None = rw (covered first.1 byte (omega arith) reaches) at free in cc)
      ];
    }
prior_at byte first runs false test ordered rest =
    prior_with byte first runs (before (ends_from byte) runs) ordered (leb-false byte first.1.last test) (all_before (IsApart first) (ends_from byte) runs ordered.1) rest

-- the last run before the first that ends at a byte or behind it is the last that ends before that byte
pub prior_is : (byte : ℕ) (runs : List (Mode × Span)) → AreOrdered runs → IsPrior (mode_in runs) byte (last_or None (before (ends_from byte) runs))
prior_is byte [] ordered = record { run = tt; none = λ free other low. refl }
prior_is byte (first ∷ runs) ordered = prior_at byte first runs (ends_from byte first) refl ordered (prior_is byte runs ordered.2)

-- whether runs behind one meet bytes hangs on the last byte alone
meets_behind : (from last : ℕ) (run : Mode × Span) (runs : List (Mode × Span)) → AllByRecursion (IsApart run) runs → AreOrdered runs → from ≤ run.1.last → filter (meets from last) runs ≡ filter (meets (run.1.last + 1) last) runs
meets_behind from last run [] apart ordered upto = refl
meets_behind from last run (other ∷ runs) apart ordered upto =
    let less = apart.0.0 in
    let some = ordered.0.0 in
    let rest = meets_behind from last run runs apart.1 ordered.2 upto in
    rw (le-leb from other.1.last (omega arith), le-leb (run.1.last + 1) other.1.last (omega arith))
    (ap (λ others. cond (leb other.1.first last) (other ∷ others) others) rest)

others_at : (from last : ℕ) (first run : Mode × Span) (runs : List (Mode × Span)) (b : Bool) → ends_from from first ≡ b → AreOrdered (first ∷ runs) → cond b (Some first) (find (ends_from from) runs) ≡ Some run → run.1.first ≤ last → from ≤ run.1.last
    → (find (ends_from from) runs ≡ Some run → filter (meets from last) runs ≡ run ∷ filter (meets (run.1.last + 1) last) runs)
    → filter (meets from last) (first ∷ runs) ≡ run ∷ filter (meets (run.1.last + 1) last) (first ∷ runs)
others_at from last first run runs true test ordered found begins reaches rest =
    let same : run ≡ first = cc in
    let begins_there : first.1.first ≤ last = subst (λ (r : Mode × Span). r.1.first ≤ last) same begins in
    let here : filter (meets from last) (first ∷ runs) ≡ first ∷ filter (meets from last) runs =
    rw (and_from (ends_from from first) (leb first.1.first last) test (le-leb first.1.first last begins_there)) refl in
    let past : filter (meets (first.1.last + 1) last) (first ∷ runs) ≡ filter (meets (first.1.last + 1) last) runs =
    rw (and_left (ends_from (first.1.last + 1) first) (leb first.1.first last) (lt-leb (first.1.last + 1) first.1.last (omega arith))) refl in
    let more = meets_behind from last first runs ordered.1 ordered.2 (leb-true from first.1.last test) in
    subst (λ (r : Mode × Span). filter (meets from last) (first ∷ runs) ≡ r ∷ filter (meets (r.1.last + 1) last) (first ∷ runs)) (sym same)
    (here ∙ ap (λ others. first ∷ others) (more ∙ sym past))
others_at from last first run runs false test ordered found begins reaches rest =
    let ends = leb-false from first.1.last test in
    let here : filter (meets from last) (first ∷ runs) ≡ filter (meets from last) runs =
    rw (and_left (ends_from from first) (leb first.1.first last) test) refl in
    let past : filter (meets (run.1.last + 1) last) (first ∷ runs) ≡ filter (meets (run.1.last + 1) last) runs =
    rw (and_left (ends_from (run.1.last + 1) first) (leb first.1.first last) (lt-leb (run.1.last + 1) first.1.last (omega arith))) refl in
    here ∙ rest found ∙ ap (λ others. run ∷ others) (sym past)

-- of the runs that meet bytes the one that is found is the first
pub others_left : (from last : ℕ) (runs : List (Mode × Span)) (run : Mode × Span) → AreOrdered runs → find (ends_from from) runs ≡ Some run → run.1.first ≤ last → from ≤ run.1.last
    → filter (meets from last) runs ≡ run ∷ filter (meets (run.1.last + 1) last) runs
others_left from last [] run ordered found begins reaches = absurd (let no : None ≡ Some run = found in cc)
others_left from last (first ∷ runs) run ordered found begins reaches =
    others_at from last first run runs (ends_from from first) refl ordered found begins reaches (λ rest. others_left from last runs run ordered.2 rest begins reaches)

-- runs behind one that begins too late begin too late
late_behind : (from last : ℕ) (run : Mode × Span) (runs : List (Mode × Span)) → AllByRecursion (IsApart run) runs → last ≤ run.1.last → filter (meets from last) runs ≡ []
late_behind from last run [] apart late = refl
late_behind from last run (other ∷ runs) apart late =
    let less = apart.0.0 in
    rw (and_right (ends_from from other) (leb other.1.first last) (lt-leb other.1.first last (omega arith))) (late_behind from last run runs apart.1 late)

late_at : (from last : ℕ) (first run : Mode × Span) (runs : List (Mode × Span)) (b : Bool) → ends_from from first ≡ b → AreOrdered (first ∷ runs) → cond b (Some first) (find (ends_from from) runs) ≡ Some run → last < run.1.first
    → (find (ends_from from) runs ≡ Some run → filter (meets from last) runs ≡ []) → filter (meets from last) (first ∷ runs) ≡ []
late_at from last first run runs true test ordered found late rest =
    let same : run ≡ first = cc in
    let late_there : last < first.1.first = subst (λ (r : Mode × Span). last < r.1.first) same late in
    let some = ordered.0.0 in
    rw (and_right (ends_from from first) (leb first.1.first last) (lt-leb first.1.first last late_there)) (late_behind from last first runs ordered.1 (omega arith))
late_at from last first run runs false test ordered found late rest =
    rw (and_left (ends_from from first) (leb first.1.first last) test) (rest found)

-- where it begins too late, no run meets the bytes
pub late_found : (from last : ℕ) (runs : List (Mode × Span)) (run : Mode × Span) → AreOrdered runs → find (ends_from from) runs ≡ Some run → last < run.1.first → filter (meets from last) runs ≡ []
late_found from last [] run ordered found late = refl
late_found from last (first ∷ runs) run ordered found late =
    late_at from last first run runs (ends_from from first) refl ordered found late (λ rest. late_found from last runs run ordered.2 rest late)

no_more_at : (from last : ℕ) (first : Mode × Span) (runs : List (Mode × Span)) (b : Bool) → ends_from from first ≡ b → cond b (Some first) (find (ends_from from) runs) ≡ None
    → (find (ends_from from) runs ≡ None → filter (meets from last) runs ≡ []) → filter (meets from last) (first ∷ runs) ≡ []
no_more_at from last first runs true test none rest = absurd (let no : Some first ≡ None = none in cc)
no_more_at from last first runs false test none rest = rw (and_left (ends_from from first) (leb first.1.first last) test) (rest none)

-- and none does where none is found
pub no_more : (from last : ℕ) (runs : List (Mode × Span)) → find (ends_from from) runs ≡ None → filter (meets from last) runs ≡ []
no_more from last [] none = refl
no_more from last (first ∷ runs) none = no_more_at from last first runs (ends_from from first) refl none (no_more from last runs)

-- all runs meet the bytes of the whole file
pub all_meet : (runs : List (Mode × Span)) → AreOrdered runs → filter (meets 0 OFFMAX) runs ≡ runs
all_meet [] ordered = refl
all_meet (run ∷ runs) ordered =
    let some = ordered.0.0 in
    let upto = ordered.0.1 in
    let begins : run.1.first ≤ OFFMAX = omega arith in
    rw (and_from (ends_from 0 run) (leb run.1.first OFFMAX) (le-leb 0 run.1.last (omega arith)) (le-leb run.1.first OFFMAX begins))
    (ap (λ others. run ∷ others) (all_meet runs ordered.2))

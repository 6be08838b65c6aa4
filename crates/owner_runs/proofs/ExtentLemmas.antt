-- From which byte to which bytes have a mode.
use Rattle.std.proofs.Common.{ℕ, suc, ◌≡◌, ◌-◌, ◌<◌, ◌≤◌, inl, inr, Bool, cond, refl, sym, ap, ◌∙◌, subst, Option, Some, None, List, [], ◌∷◌, length, arith}
use Rattle.std.specs.List.{All, find, last_or, slice_get}
use Rattle.std.proofs.lemmas.Bool.{cases_lt, le-leb}
use Rattle.range_core.specs.declared.Mode.{Mode}
use Rattle.range_core.specs.declared.Span.{Span}
use Rattle.range_core.specs.Changes.{mode_in}
use Rattle.range_core.specs.Ranges.{AreRuns, IsApart, IsByteRange, Modes}
use Rattle.owner_runs.specs.Lists.{IsExtent}
use Rattle.owner_runs.specs.Tests.{ends_from}
use Rattle.owner_runs.specs.Trees.{AreOrdered}
use Rattle.owner_runs.proofs.FindLemmas.{last_one, next_found, some_last}
use Rattle.owner_runs.proofs.ModeLemmas.{above, covered}
use Rattle.owner_runs.proofs.RunLemmas.{modes_of_runs, ordered_from}

-- each run ends at byte 0 or behind it, so the first one is found there
pub first_found : (runs : List (Mode × Span)) → find (ends_from 0) runs ≡ slice_get runs 0
first_found [] = refl
first_found (run ∷ runs) = ap (λ (b : Bool). cond b (Some run) (find (ends_from 0) runs)) (le-leb 0 run.1.last (omega arith))

-- what stands at the end is the last run
last_there : (o : Option (Mode × Span)) (run : Mode × Span) (runs : List (Mode × Span)) → slice_get (run ∷ runs) (length runs) ≡ last_or o (run ∷ runs)
last_there o run [] = refl
last_there o run (other ∷ runs) = last_there (Some run) other runs

pub last_found : (runs : List (Mode × Span)) → last_or None runs ≡ slice_get runs (length runs - 1)
last_found [] = refl
last_found (run ∷ runs) =
    let n : length runs ≡ suc (length runs) - 1 = omega arith in
    sym (last_there None run runs) ∙ ap (slice_get (run ∷ runs)) n

-- where there is no first run, there is none
pub none_first : (runs : List (Mode × Span)) → find (ends_from 0) runs ≡ None → (byte : ℕ) → mode_in runs byte ≡ None
none_first [] none byte = refl
none_first (run ∷ runs) none byte = absurd (let no : Some run ≡ None = sym (first_found (run ∷ runs)) ∙ none in cc)

-- where there is no last run, there is none
pub none_last : (runs : List (Mode × Span)) → last_or None runs ≡ None → (byte : ℕ) → mode_in runs byte ≡ None
none_last [] none byte = refl
none_last (run ∷ runs) none byte = absurd (some_last run runs none)

-- the run lies within a file, and there is nothing behind it
record IsLastRun (modes : Modes) (run : Mode × Span) : Type 0 where
  pub range : IsByteRange run.1
  pub has : modes run.1.last ≡ Some run.0
  pub behind : (byte : ℕ) → run.1.last < byte → modes byte ≡ None

last_run : (runs : List (Mode × Span)) (last : Mode × Span) → AreOrdered runs → last_or None runs ≡ Some last → IsLastRun (mode_in runs) last
last_run [] last ordered is = absurd (let no : None ≡ Some last = is in cc)
last_run (run ∷ []) last ordered is =
    let same : run ≡ last = cc in
    subst (IsLastRun (mode_in (run ∷ []))) same (record {
      range = ordered.0;
      has = rw (covered run.1 run.1.last ordered.0.0 (omega arith)) refl;
      behind = λ byte beyond. rw (above run.1 byte beyond) refl;
    })
last_run (run ∷ other ∷ runs) last ordered is =
    let rest = last_run (other ∷ runs) last ordered.2 is in
    let apart = last_one (IsApart run) (other ∷ runs) last ordered.1 is in
    let less = apart.0 in
    let some = rest.range.0 in
    record {
      range = rest.range;
      has = rw (above run.1 last.1.last (omega arith)) rest.has;
      behind = λ byte beyond. rw (above run.1 byte (omega arith)) (rest.behind byte beyond);
    }

-- it reaches from the first run to the last
pub extent_between : (runs : List (Mode × Span)) (first last : Mode × Span) → AreOrdered runs → find (ends_from 0) runs ≡ Some first → last_or None runs ≡ Some last
    → IsExtent (mode_in runs) (record { first = first.1.first; last = last.1.last })
extent_between runs first last ordered first_is last_is =
    let front = next_found 0 runs first ordered first_is in
    let end = last_run runs last ordered last_is in
    let begins : mode_in runs first.1.first ≡ Some first.0 = front.whole.constant first.1.first (omega arith, front.range.0) in
    let upto : first.1.first ≤ last.1.last = elim (cases_lt last.1.last first.1.first) [
      | inl less ↦ absurd (let no : Some first.0 ≡ None = sym begins ∙ end.behind first.1.first less in cc)
      | inr within ↦ within
    ] in
    record {
      range = (upto, end.range.1);
      first = λ none. absurd (let no : Some first.0 ≡ None = sym begins ∙ none in cc);
      last = λ none. absurd (let no : Some last.0 ≡ None = sym end.has ∙ none in cc);
      outside = λ byte outside. elim (cases_lt byte first.1.first) [
        | inl less ↦ front.free byte (omega arith) less
        | inr from ↦ elim (cases_lt last.1.last byte) [
          | inl beyond ↦ end.behind byte beyond
          | inr within ↦ absurd (outside (from, within))
        ]
      ];
    }

-- it is that of modes that are the same
pub extent_like : (one other : Modes) (span : Span) → ((byte : ℕ) → one byte ≡ other byte) → IsExtent one span → IsExtent other span
extent_like one other span same is = record {
  range = is.range;
  first = λ none. is.first (same span.first ∙ none);
  last = λ none. is.last (same span.last ∙ none);
  outside = λ byte outside. sym (same byte) ∙ is.outside byte outside;
}

-- the runs of modes reach from the one that stands first to the one that stands at the end
pub extent_of_runs : (modes : Modes) (runs : List (Mode × Span)) (first last : Mode × Span) → AreRuns modes runs → All (λ run. IsByteRange run.1) runs → slice_get runs 0 ≡ Some first → slice_get runs (length runs - 1) ≡ Some last
    → IsExtent modes (record { first = first.1.first; last = last.1.last })
extent_of_runs modes runs first last are ranges first_is last_is =
    let ordered = ordered_from modes runs are.rising are.each ranges in
    let between = extent_between runs first last ordered (first_found runs ∙ first_is) (last_found runs ∙ last_is) in
    extent_like (mode_in runs) modes (record { first = first.1.first; last = last.1.last }) (modes_of_runs modes runs ordered are) between

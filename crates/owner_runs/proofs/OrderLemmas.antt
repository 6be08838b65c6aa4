-- The modes that runs in order give: each run is whole.
use Rattle.std.proofs.Common.{ℕ, zero, suc, ◌≡◌, ◌≢◌, ◌+◌, ◌<◌, ◌≤◌, inl, inr, Bool, true, false, cond, refl, sym, ◌∙◌, Some, None, List, [], ◌∷◌, arith}
use Rattle.std.specs.List.{AllByRecursion, AllPairs, filter}
use Rattle.std.proofs.lemmas.List.Elements.{All-from_recursion}
use Rattle.range_core.specs.declared.TheConstants.{OFFMAX}
use Rattle.range_core.specs.declared.Mode.{Mode}
use Rattle.range_core.specs.declared.Span.{Span}
use Rattle.range_core.specs.Ranges.{IsApart, IsByteRange}
use Rattle.range_core.specs.Changes.{mode_in}
use Rattle.owner_runs.specs.Trees.{AreOrdered, IsWhole}
use Rattle.owner_runs.proofs.ModeLemmas.{above, below, cases_covers, covered}

-- bytes up to the last one of a run have no mode from the runs behind it
pub none_upto : (run : Mode × Span) (runs : List (Mode × Span)) (byte : ℕ) → AllByRecursion (IsApart run) runs → byte ≤ run.1.last → mode_in runs byte ≡ None
none_upto run [] byte apart upto = refl
none_upto run (other ∷ runs) byte apart upto =
    let less = apart.0.0 in
    rw (below other.1 byte (omega arith)) (none_upto run runs byte apart.1 upto)

-- the byte right behind a run doesn't get its mode from them
pub next_other : (run : Mode × Span) (runs : List (Mode × Span)) → AllByRecursion (IsApart run) runs → mode_in runs (run.1.last + 1) ≢ Some run.0
next_other run [] apart has = absurd (let none : None ≡ Some run.0 = has in cc)
next_other run (other ∷ runs) apart has =
    let less = apart.0.0 in
    elim (cases_covers other.1 (run.1.last + 1)) [
      | inl covers ↦
          let from = covers.0 in
          let is : Some other.0 ≡ Some run.0 = rw (covered other.1 (run.1.last + 1) covers.0 covers.1) at has in
          let same : run.0 ≡ other.0 = cc in
          apart.0.1 (omega arith) same
      | inr outside ↦ next_other run runs apart.1 (rw outside at has)
    ]

-- the first run is whole
pub whole_first : (run : Mode × Span) (runs : List (Mode × Span)) → run.1.first ≤ run.1.last → AllByRecursion (IsApart run) runs → IsWhole (mode_in (run ∷ runs)) run
whole_first run runs some apart = record {
  constant = λ byte covers. rw (covered run.1 byte covers.0 covers.1) refl;
  before = λ byte is has.
      let none = none_upto run runs byte apart (omega arith) in
      let there : mode_in runs byte ≡ Some run.0 = rw (below run.1 byte (omega arith)) at has in
      absurd (let no : None ≡ Some run.0 = sym none ∙ there in cc);
  behind = λ has. next_other run runs apart (rw (above run.1 (run.1.last + 1) (omega arith)) at has);
}

-- a run before one that is whole leaves it so
pub whole_behind : (run other : Mode × Span) (runs : List (Mode × Span)) → other.1.first ≤ other.1.last → IsApart run other → IsWhole (mode_in runs) other → IsWhole (mode_in (run ∷ runs)) other
whole_behind run other runs some apart whole =
    let less = apart.0 in
    record {
      constant = λ byte covers.
          let from = covers.0 in
          rw (above run.1 byte (omega arith)) (whole.constant byte covers);
      before = λ byte is has. elim (cases_covers run.1 byte) [
        | inl covers ↦
            let upto = covers.1 in
            let there : Some run.0 ≡ Some other.0 = rw (covered run.1 byte covers.0 covers.1) at has in
            let same : run.0 ≡ other.0 = cc in
            apart.1 (omega arith) same
        | inr outside ↦ whole.before byte is (rw outside at has)
      ];
      behind = λ has. whole.behind (rw (above run.1 (other.1.last + 1) (omega arith)) at has);
    }

wholes_behind : (run : Mode × Span) (all runs : List (Mode × Span)) → AllByRecursion (IsApart run) runs → AreOrdered runs → AllByRecursion (IsWhole (mode_in all)) runs → AllByRecursion (IsWhole (mode_in (run ∷ all))) runs
wholes_behind run all [] apart ordered wholes = tt
wholes_behind run all (other ∷ runs) apart ordered wholes =
    (whole_behind run other all ordered.0.0 apart.0 wholes.0, wholes_behind run all runs apart.1 ordered.2 wholes.1)

-- each run is whole
pub all_whole : (runs : List (Mode × Span)) → AreOrdered runs → AllByRecursion (IsWhole (mode_in runs)) runs
all_whole [] ordered = tt
all_whole (run ∷ runs) ordered =
    (whole_first run runs ordered.0.0 ordered.1, wholes_behind run runs runs ordered.1 ordered.2 (all_whole runs ordered.2))

-- each run has a byte and lies within a file
pub all_ranges : (runs : List (Mode × Span)) → AreOrdered runs → AllByRecursion (λ run. IsByteRange run.1) runs
all_ranges [] ordered = tt
all_ranges (run ∷ runs) ordered = (ordered.0, all_ranges runs ordered.2)

-- each run ends before those behind it begin
pub all_rising : (runs : List (Mode × Span)) → AreOrdered runs → AllPairs (λ r s. r.1.last < s.1.first) runs
all_rising [] ordered i j d less within = absurd (omega arith)
all_rising (run ∷ runs) ordered zero zero d less within = absurd (omega arith)
all_rising (run ∷ runs) ordered zero (suc j) d less within = (All-from_recursion (IsApart run) runs ordered.1 j d (omega arith)).0
all_rising (run ∷ runs) ordered (suc i) zero d less within = absurd (omega arith)
all_rising (run ∷ runs) ordered (suc i) (suc j) d less within = all_rising runs ordered.2 i j d (omega arith) (omega arith)

-- what holds of each run holds of those that pass
pub all_passing : (P : Mode × Span → Type 0) (p : Mode × Span → Bool) (runs : List (Mode × Span)) → AllByRecursion P runs → AllByRecursion P (filter p runs)
all_passing P p [] all = tt
all_passing P p (run ∷ runs) all =
    elim (p run) as (λ b. AllByRecursion P (cond b (run ∷ filter p runs) (filter p runs))) [ true ↦ (all.0, all_passing P p runs all.1) | false ↦ all_passing P p runs all.1 ]

-- and those are in order
pub ordered_passing : (p : Mode × Span → Bool) (runs : List (Mode × Span)) → AreOrdered runs → AreOrdered (filter p runs)
ordered_passing p [] ordered = tt
ordered_passing p (run ∷ runs) ordered =
    elim (p run) as (λ b. AreOrdered (cond b (run ∷ filter p runs) (filter p runs))) [
      | true ↦ (ordered.0, all_passing (IsApart run) p runs ordered.1, ordered_passing p runs ordered.2)
      | false ↦ ordered_passing p runs ordered.2
    ]

-- no byte past the largest offset has a mode
pub none_beyond : (runs : List (Mode × Span)) (byte : ℕ) → AreOrdered runs → OFFMAX < byte → mode_in runs byte ≡ None
none_beyond [] byte ordered beyond = refl
none_beyond (run ∷ runs) byte ordered beyond =
    let upto = ordered.0.1 in
    rw (above run.1 byte (omega arith)) (none_beyond runs byte ordered.2 beyond)

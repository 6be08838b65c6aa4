-- The mode that a list of runs gives a byte: for `RangeList::beginning_after`, `RangeList::ending_from`, `RangeList::first_hit` and others.
use Rattle.std.proofs.lemmas.Grind.{common_steps}
use Rattle.std.proofs.Common.{ℕ, zero, suc, ◌≡◌, ◌<◌, true, false, refl, Option, Some, None, List, [], ◌∷◌, ◌++◌, All, AllPairs, length, get_or, subst, arith, ◌⊎◌, inl, inr}
use Rattle.std.specs.Prelude.{if◌then◌else◌}
use Rattle.std.proofs.lemmas.Bool.{cases_lt}
use Rattle.std.proofs.lemmas.Bool.Decides.{nat_tests}
use Rattle.std.proofs.lemmas.List.Elements.{All-tail}
use Rattle.range_core.specs.declared.Mode.{Mode}
use Rattle.range_core.specs.declared.Span.{Span}
use Rattle.range_core.specs.declared.Mode.TheVariants.{Read}
use Rattle.range_core.specs.Ranges.{Covers, Conflict, HeldConflicts, IsApart, AreReads}
use Rattle.range_core.specs.Changes.{is_covered, mode_in}

-- a range covers the byte, or the test says that it doesn't
pub cases_covers : (span : Span) (byte : ℕ) → Covers span byte ⊎ (is_covered span byte ≡ false)
cases_covers span byte = grind (arith, common_steps, cases_lt, nat_tests)

-- what the test says of a byte that the range covers, and of one that it doesn't
pub is_covered-true : (span : Span) (byte : ℕ) → Covers span byte → is_covered span byte ≡ true
is_covered-true span byte covers = grind (arith, common_steps, nat_tests)

pub uncovered : (span : Span) (byte : ℕ) → ¬ (Covers span byte) → is_covered span byte ≡ false
uncovered span byte outside = grind (arith, common_steps, cases_covers)

-- the first of the two that is there
abbrev pub mode_or : Option Mode → Option Mode → Option Mode
mode_or None other = other
mode_or (Some mode) other = Some mode

pub mode_or-None : (mode : Option Mode) → mode_or mode None ≡ mode
mode_or-None None = refl
mode_or-None (Some mode) = refl

pub mode_in-append : (runs more : List (Mode × Span)) (byte : ℕ) → mode_in (runs ++ more) byte ≡ mode_or (mode_in runs byte) (mode_in more byte)
mode_in-append [] more byte = refl
mode_in-append (run ∷ runs) more byte =
    elim (is_covered run.1 byte) as (λ b. (if b then Some run.0 else mode_in (runs ++ more) byte) ≡ mode_or (if b then Some run.0 else mode_in runs byte) (mode_in more byte)) [
      | true ↦ refl
      | false ↦ mode_in-append runs more byte
    ]

-- a byte that no run covers has no mode
pub mode_in-none : (runs : List (Mode × Span)) (byte : ℕ) → All (λ run. ¬ (Covers run.1 byte)) runs → mode_in runs byte ≡ None
mode_in-none [] byte none = refl
mode_in-none (run ∷ runs) byte none =
    let rest = mode_in-none runs byte (All-tail (λ (r : Mode × Span). ¬ (Covers r.1 byte)) run runs none) in
    elim (cases_covers run.1 byte) [
      | inl covers ↦ absurd (none 0 run (omega arith) covers)
      | inr uncovered ↦ rw uncovered rest
    ]

-- a byte has the mode of the run that covers it
pub mode_in-at : (runs : List (Mode × Span)) (k : ℕ) (d : Mode × Span) (byte : ℕ) → AllPairs IsApart runs → k < length runs
    → Covers (get_or runs k d).1 byte → mode_in runs byte ≡ Some (get_or runs k d).0
mode_in-at [] k d byte apart within covers = absurd (omega arith)
mode_in-at (run ∷ runs) zero d byte apart within covers = rw (is_covered-true run.1 byte covers) refl
mode_in-at (run ∷ runs) (suc k) d byte apart within covers =
    let before : run.1.last < (get_or runs k d).1.first = (apart 0 (suc k) d (omega arith) within).0 in
    elim (cases_covers run.1 byte) [
      | inl both ↦ absurd (omega (arith, both, covers))
      | inr uncovered ↦
          rw uncovered (mode_in-at runs k d byte (λ i j e less inside. apart (suc i) (suc j) e (omega arith) (omega arith)) (omega arith) covers)
    ]

-- the run at this place has the mode, and covers the byte
pub record IsHeldAt (runs : List (Mode × Span)) (d : Mode × Span) (byte : ℕ) (mode : Mode) (k : ℕ) : Type 0 where
  pub within : k < length runs
  pub mode_is : (get_or runs k d).0 ≡ mode
  pub covers : Covers (get_or runs k d).1 byte

-- where a byte has a mode, some run has that mode and covers it
pub held_at : (runs : List (Mode × Span)) (d : Mode × Span) (byte : ℕ) (mode : Mode) → mode_in runs byte ≡ Some mode → (k : ℕ) × IsHeldAt runs d byte mode k
held_at [] d byte mode has = absurd (cc)
held_at (run ∷ runs) d byte mode has =
    elim (cases_covers run.1 byte) [
      | inl covers ↦
          let here = rw (is_covered-true run.1 byte covers) at has in
          (zero, record { within = omega arith; mode_is = cc; covers = covers })
      | inr uncovered ↦
          let (k, held) = held_at runs d byte mode (rw uncovered at has) in
          (suc k, record { within = omega arith; mode_is = held.mode_is; covers = held.covers })
    ]

-- read locks conflict with nobody who wants to read
pub reads_conflict_not : (runs : List (Mode × Span)) (byte : ℕ) → AreReads runs → ¬ HeldConflicts (mode_in runs byte) Read
reads_conflict_not [] byte reads conflicts = conflicts
reads_conflict_not (run ∷ runs) byte reads conflicts =
    elim (cases_covers run.1 byte) [
      | inl covers ↦ subst (λ mode. Conflict mode Read) (reads 0 run (omega arith)) (rw (is_covered-true run.1 byte covers) at conflicts)
      | inr uncovered ↦ reads_conflict_not runs byte (All-tail (λ (r : Mode × Span). r.0 ≡ Read) run runs reads) (rw uncovered at conflicts)
    ]

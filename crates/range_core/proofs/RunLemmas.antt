-- The runs in a list that is in order are the runs of the modes that it gives, and the least byte that conflicts is found in them: for
-- `RangeList::beginning_after`, `RangeList::ending_from`, `RangeList::first_hit` and others.
use Rattle.std.proofs.lemmas.Grind.{common_steps}
use Rattle.std.proofs.Common.{ℕ, ◌≡◌, ◌≢◌, ◌+◌, ◌-◌, ◌<◌, ◌≤◌, max, sym, refl, Option, Some, None, List, All, AllPairs, length, get_or, arith, ◌⊎◌, inl, inr}
use Rattle.std.specs.List.{AllWithin, between}
use Rattle.std.specs.List.Sorted.{IsNonDecreasingBy}
use Rattle.std.proofs.lemmas.Bool.{cases_lt}
use Rattle.std.proofs.lemmas.List.{get_or_default}
use Rattle.range_core.specs.declared.Mode.{Mode}
use Rattle.range_core.specs.declared.Mode.TheVariants.{Read}
use Rattle.range_core.specs.declared.Span.{Span}
use Rattle.range_core.specs.Ranges.{Modes, Covers, Conflict, HeldConflicts, IsApart, IsByteRange, IsConstant, IsFirstHit, IsRun, AreRuns}
use Rattle.range_core.specs.Changes.{mode_in}
use Rattle.range_core.proofs.ModeLemmas.{held_at, mode_in-at, mode_in-none}

-- a range of one mode round the byte is the largest where the bytes before it and after it have another mode or none
pub IsRun_between : (modes : Modes) (byte : ℕ) (mode : Mode) (span : Span) → Covers span byte → IsConstant modes span mode
    → ((other : ℕ) → other + 1 ≡ span.first → modes other ≢ Some mode) → modes (span.last + 1) ≢ Some mode → IsRun modes byte mode span
IsRun_between modes byte mode span covers constant first last = record {
  covered = covers;
  constant = constant;
  largest = λ other covered same. (
    elim (cases_lt other.first span.first) [
      | inl lower ↦ absurd (first (span.first - 1) (omega arith) (same (span.first - 1) (omega (arith, covers, covered), omega (arith, covers, covered))))
      | inr higher ↦ higher
    ],
    elim (cases_lt span.last other.last) [
      | inl higher ↦ absurd (last (same (span.last + 1) (omega (arith, covers, covered), omega arith)))
      | inr lower ↦ lower
    ],
  );
}

-- a byte right beside a run doesn't have its mode
beside : (runs : List (Mode × Span)) (k : ℕ) (d : Mode × Span) (byte : ℕ) → All (λ run. IsByteRange run.1) runs → AllPairs IsApart runs
    → k < length runs → (byte + 1 ≡ (get_or runs k d).1.first) ⊎ (byte ≡ (get_or runs k d).1.last + 1) → mode_in runs byte ≢ Some (get_or runs k d).0
beside runs k d byte ranges apart within touches has =
    let run = get_or runs k d in
    let range : run.1.first ≤ run.1.last = (ranges k d within).0 in
    let (j, held) = held_at runs d byte run.0 has in
    let other = get_or runs j d in
    let covers = held.covers in
    elim (cases_lt j k) [
      | inl before ↦
          let clear = apart j k d before within in
          elim touches [
            | inl first ↦ clear.1 (omega (arith, clear.0, covers.1)) held.mode_is
            | inr last ↦ omega (arith, clear.0, covers.1)
          ]
      | inr from_k ↦ elim (cases_lt k j) [
        | inl behind ↦
            let clear = apart k j d behind held.within in
            elim touches [
              | inl first ↦ omega (arith, clear.0, covers.0)
              | inr last ↦ clear.1 (omega (arith, clear.0, covers.0)) (sym held.mode_is)
            ]
        | inr upto_k ↦
            let same : j ≡ k = omega arith in
            let inside : Covers run.1 byte = rw same at covers in
            elim touches [
              | inl first ↦ omega (arith, inside.0)
              | inr last ↦ omega (arith, inside.1)
            ]
      ]
    ]

-- the run in the list that covers a byte is the run at the byte
pub IsRun_at : (runs : List (Mode × Span)) (k : ℕ) (d : Mode × Span) (byte : ℕ) → All (λ run. IsByteRange run.1) runs → AllPairs IsApart runs
    → k < length runs → Covers (get_or runs k d).1 byte → IsRun (mode_in runs) byte (get_or runs k d).0 (get_or runs k d).1
IsRun_at runs k d byte ranges apart within covers =
    IsRun_between (mode_in runs) byte (get_or runs k d).0 (get_or runs k d).1 covers
    (λ other covered. mode_in-at runs k d other apart within covered)
    (λ other first. beside runs k d other ranges apart within (inl first))
    (beside runs k d ((get_or runs k d).1.last + 1) ranges apart within (inr refl))

-- the list has all the runs of its modes
pub AreRuns_in_order : (runs : List (Mode × Span)) → All (λ run. IsByteRange run.1) runs → AllPairs IsApart runs → AreRuns (mode_in runs) runs
AreRuns_in_order runs ranges apart = record {
  rising = λ i j d before within. (apart i j d before within).0;
  each = λ k d within. IsRun_at runs k d (get_or runs k d).1.first ranges apart within (omega arith, (ranges k d within).0);
  every = λ byte mode has.
      let blank : Mode × Span = (mode, record { first = 0; last = 0 }) in
      let (k, held) = held_at runs blank byte mode has in
      (k, get_or runs k blank, held.within, get_or_default runs k (get_or runs k blank) blank held.within, (held.mode_is, held.covers));
}

-- what conflicts is a mode
conflicting : (held : Option Mode) (against : Mode) → HeldConflicts held against → (mode : Mode) × (held ≡ Some mode) × Conflict mode against
conflicting None against conflicts = absurd conflicts
conflicting (Some mode) against conflicts = (mode, refl, conflicts)

-- no byte conflicts that lies behind the runs before the one place and before the runs from the other on, where none between does
pub unhit : (runs : List (Mode × Span)) (start end first byte : ℕ) (against : Mode) → AllWithin (λ run. run.1.last < first) runs 0 start
    → AllWithin (λ run. ¬ (Conflict run.0 against)) runs start end → AllWithin (λ run. byte < run.1.first) runs end (length runs) → first ≤ byte
    → ¬ (HeldConflicts (mode_in runs byte) against)
unhit runs start end first byte against before between behind from conflicts =
    let (mode, has, conflict) = conflicting (mode_in runs byte) against conflicts in
    let d : Mode × Span = (mode, record { first = 0; last = 0 }) in
    let (k, held) = held_at runs d byte mode has in
    elim (cases_lt k start) [
      | inl low ↦ omega (arith, before k d (omega arith) low, held.covers.1)
      | inr high ↦ elim (cases_lt k end) [
        | inl low ↦ between k d high low (rw held.mode_is conflict)
        | inr high ↦ omega (arith, behind k d high held.within, held.covers.0)
      ]
    ]

-- the runs from a place on begin behind each byte before the run there
pub begins_from : (runs : List (Mode × Span)) (k : ℕ) (d : Mode × Span) (byte : ℕ) → All (λ run. IsByteRange run.1) runs → AllPairs IsApart runs
    → k < length runs → byte < (get_or runs k d).1.first → AllWithin (λ run. byte < run.1.first) runs k (length runs)
begins_from runs k d byte ranges apart within before j e from inside =
    elim (cases_lt k j) [
      | inl behind ↦
          let clear = (apart k j d behind inside).0 in
          rw (get_or_default runs j e d inside) (omega (arith, (ranges k d within).0, clear))
      | inr upto ↦
          let same : j ≡ k = omega arith in
          rw (same, get_or_default runs k e d within) before
    ]

-- runs in order rise by their first bytes, and by their last ones
pub lasts_rise : (runs : List (Mode × Span)) → All (λ run. IsByteRange run.1) runs → AllPairs IsApart runs → IsNonDecreasingBy (λ run. run.1.last) runs
lasts_rise runs ranges apart i j d upto within = grind (arith, common_steps, cases_lt)

pub firsts_rise : (runs : List (Mode × Span)) → All (λ run. IsByteRange run.1) runs → AllPairs IsApart runs → IsNonDecreasingBy (λ run. run.1.first) runs
firsts_rise runs ranges apart i j d upto within = grind (arith, common_steps, cases_lt)

-- the least byte of the span that one run covers conflicts first, where no run before it that reaches the span does
pub IsFirstHit_at : (runs : List (Mode × Span)) (start k : ℕ) (d : Mode × Span) (span : Span) (against : Mode) → All (λ run. IsByteRange run.1) runs
    → AllPairs IsApart runs → AllWithin (λ run. run.1.last < span.first) runs 0 start → AllWithin (λ run. ¬ (Conflict run.0 against)) runs start k
    → k < length runs → span.first ≤ (get_or runs k d).1.last → (get_or runs k d).1.first ≤ span.last → span.first ≤ span.last
    → Conflict (get_or runs k d).0 against → IsFirstHit (mode_in runs) span against (max (get_or runs k d).1.first span.first)
IsFirstHit_at runs start k d span against ranges apart before between within reaches begins range conflict =
    let run = get_or runs k d in
    let first = max run.1.first span.first in
    let run_range : run.1.first ≤ run.1.last = (ranges k d within).0 in
    let has : mode_in runs first ≡ Some run.0 = mode_in-at runs k d first apart within (omega arith, omega arith) in
    record {
      covered = (omega arith, omega arith);
      hit = rw has conflict;
      least = λ byte from less.
          let lower : byte < run.1.first = omega arith in
          unhit runs start k span.first byte against before between (begins_from runs k d byte ranges apart within lower) from;
    }

-- no run covers a byte behind the runs before a place, where the run there, if there is one, begins behind it
pub mode_in_between : (runs : List (Mode × Span)) (place byte : ℕ) → All (λ run. IsByteRange run.1) runs → AllPairs IsApart runs
    → AllWithin (λ run. run.1.last < byte) runs 0 place → ((d : Mode × Span) → place < length runs → byte < (get_or runs place d).1.first)
    → mode_in runs byte ≡ None
mode_in_between runs place byte ranges apart before behind =
    mode_in-none runs byte (λ k d within covers.
    elim (cases_lt k place) [
      | inl low ↦ omega (arith, before k d (omega arith) low, covers.1)
      | inr high ↦
          let begins = begins_from runs place d byte ranges apart (omega arith) (behind d (omega arith)) in
          omega (arith, begins k d high within, covers.0)
    ])

-- the runs that end before a byte stand before those that begin behind it
pub start_before_end : (runs : List (Mode × Span)) (start end low high : ℕ) → All (λ run. IsByteRange run.1) runs → start ≤ length runs → low ≤ high
    → AllWithin (λ run. run.1.last < low) runs 0 start → AllWithin (λ run. high < run.1.first) runs end (length runs) → start ≤ end
start_before_end runs start end low high ranges within less ends begins =
    elim (cases_lt end start) [
      | inl crossed ↦
          let blank : Mode × Span = (Read, record { first = 0; last = 0 }) in
          absurd (omega (arith, ends end blank (omega arith) crossed, begins end blank (omega arith) (omega arith), (ranges end blank (omega arith)).0))
      | inr upto ↦ upto
    ]

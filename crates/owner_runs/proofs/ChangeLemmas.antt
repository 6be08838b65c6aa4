-- What a run that is taken out, shortened or put in makes of the runs and of their modes.
use Rattle.std.proofs.Common.{ℕ, zero, suc, ◌≡◌, ◌≢◌, ◌+◌, ◌<◌, ◌≤◌, ◌⊎◌, inl, inr, Bool, true, false, cond, refl, sym, ap, ◌∙◌, subst, Option, Some, None, List, [], ◌∷◌, length, get_or, take, arith}
use Rattle.std.specs.List.{AllByRecursion, find}
use Rattle.std.specs.Option.{IfSome}
use Rattle.std.proofs.lemmas.Bool.{cases_lt, le-leb, lt-leb, leb-true, leb-false}
use Rattle.std.proofs.lemmas.List.Elements.{All-from_recursion}
use Rattle.range_core.specs.declared.TheConstants.{OFFMAX}
use Rattle.range_core.specs.declared.Mode.{Mode}
use Rattle.range_core.specs.declared.Span.{Span}
use Rattle.range_core.specs.Ranges.{IsApart, IsByteRange, Modes}
use Rattle.range_core.specs.Changes.{is_covered, mode_in}
use Rattle.summary_tree.specs.Cuts.{put_before, with_first, without_first}
use Rattle.owner_runs.specs.Tests.{ends_from}
use Rattle.owner_runs.specs.Trees.{AreOrdered, IsGapFor, IsPieceOf, IsSetOn, IsShortened, IsWhole}
use Rattle.owner_runs.proofs.ModeLemmas.{above, below, cases_covers, covered}
use Rattle.owner_runs.proofs.OrderLemmas.{all_ranges, all_whole, none_upto}
use Rattle.owner_runs.proofs.FindLemmas.{found_one}

-- a run in front changes nothing of what happens to two lists on the same side of a byte
same_behind : (first : Mode × Span) (old new : List (Mode × Span)) (byte : ℕ) → mode_in new byte ≡ mode_in old byte → mode_in (first ∷ new) byte ≡ mode_in (first ∷ old) byte
same_behind first old new byte same = ap (λ rest. cond (is_covered first.1 byte) (Some first.0) rest) same

-- nor of a set behind it
set_behind : (first : Mode × Span) (span : Span) (old new : List (Mode × Span)) (mode : Option Mode) → first.1.last < span.first → IsSetOn (mode_in old) (mode_in new) span mode
    → IsSetOn (mode_in (first ∷ old)) (mode_in (first ∷ new)) span mode
set_behind first span old new mode less set = record {
  inside = λ byte from upto. rw (above first.1 byte (omega arith)) (set.inside byte from upto);
  below = λ byte low. same_behind first old new byte (set.below byte low);
  above = λ byte high. same_behind first old new byte (set.above byte high);
}

-- the first run goes
set_first : (first : Mode × Span) (runs : List (Mode × Span)) → AllByRecursion (IsApart first) runs → IsSetOn (mode_in (first ∷ runs)) (mode_in runs) first.1 None
set_first first runs apart = record {
  inside = λ byte from upto. none_upto first runs byte apart upto;
  below = λ byte low. rw (below first.1 byte low) refl;
  above = λ byte high. rw (above first.1 byte high) refl;
}

taken_at : (p : Mode × Span → Bool) (first run : Mode × Span) (runs : List (Mode × Span)) (b : Bool) → AreOrdered (first ∷ runs) → cond b (Some first) (find p runs) ≡ Some run
    → (find p runs ≡ Some run → IsSetOn (mode_in runs) (mode_in (without_first p runs)) run.1 None)
    → IsSetOn (mode_in (first ∷ runs)) (mode_in (cond b runs (first ∷ without_first p runs))) run.1 None
taken_at p first run runs true ordered found rest =
    let same : first ≡ run = cc in
    subst (λ (r : Mode × Span). IsSetOn (mode_in (first ∷ runs)) (mode_in runs) r.1 None) same (set_first first runs ordered.1)
taken_at p first run runs false ordered found rest =
    let apart = found_one (IsApart first) p runs run ordered.1 found in
    set_behind first run.1 runs (without_first p runs) None apart.0 (rest found)

-- where a run is taken out, just its bytes have no mode any more
pub taken_modes : (p : Mode × Span → Bool) (runs : List (Mode × Span)) (run : Mode × Span) → AreOrdered runs → find p runs ≡ Some run → IsSetOn (mode_in runs) (mode_in (without_first p runs)) run.1 None
taken_modes p [] run ordered found = absurd (let no : None ≡ Some run = found in cc)
taken_modes p (first ∷ runs) run ordered found = taken_at p first run runs (p first) ordered found (taken_modes p runs run ordered.2)

all_without : (P : Mode × Span → Type 0) (p : Mode × Span → Bool) (runs : List (Mode × Span)) → AllByRecursion P runs → AllByRecursion P (without_first p runs)
all_without P p [] all = tt
all_without P p (run ∷ runs) all =
    elim (p run) as (λ b. AllByRecursion P (cond b runs (run ∷ without_first p runs))) [ true ↦ all.1 | false ↦ (all.0, all_without P p runs all.1) ]

-- and the others are in order
pub taken_ordered : (p : Mode × Span → Bool) (runs : List (Mode × Span)) → AreOrdered runs → AreOrdered (without_first p runs)
taken_ordered p [] ordered = tt
taken_ordered p (run ∷ runs) ordered =
    elim (p run) as (λ b. AreOrdered (cond b runs (run ∷ without_first p runs))) [
      | true ↦ ordered.2
      | false ↦ (ordered.0, all_without (IsApart run) p runs ordered.1, taken_ordered p runs ordered.2)
    ]

-- a piece stands where its run stood: as far apart from those before it, and from those behind it
apart_before : (first run piece : Mode × Span) → IsPieceOf run piece → IsApart first run → IsApart first piece
apart_before first run piece part apart =
    let less = apart.0 in
    let from = part.first in
    (omega arith, λ touch same. apart.1 (omega arith) (same ∙ part.mode))

apart_behind : (run piece other : Mode × Span) → IsPieceOf run piece → IsApart run other → IsApart piece other
apart_behind run piece other part apart =
    let less = apart.0 in
    let upto = part.last in
    (omega arith, λ touch same. apart.1 (omega arith) (sym part.mode ∙ same))

all_apart_behind : (run piece : Mode × Span) (runs : List (Mode × Span)) → IsPieceOf run piece → AllByRecursion (IsApart run) runs → AllByRecursion (IsApart piece) runs
all_apart_behind run piece [] part apart = tt
all_apart_behind run piece (other ∷ runs) part apart = (apart_behind run piece other part apart.0, all_apart_behind run piece runs part apart.1)

-- of the first run a piece stays
shorten_first : (first piece : Mode × Span) (runs : List (Mode × Span)) → IsPieceOf first piece → AllByRecursion (IsApart first) runs → IsShortened (mode_in (first ∷ runs)) (mode_in (piece ∷ runs)) first.1 piece.1
shorten_first first piece runs part apart =
    let from_first = part.first in
    let upto_last = part.last in
    let some = part.some in
    record {
      before = λ byte from low. rw (below piece.1 byte low) (none_upto first runs byte apart (omega arith));
      within = λ byte from upto. rw (covered piece.1 byte from upto, covered first.1 byte (omega arith) (omega arith)) (ap Some part.mode);
      behind = λ byte high upto. rw (above piece.1 byte high) (none_upto first runs byte apart upto);
      below = λ byte low. rw (below piece.1 byte (omega arith), below first.1 byte low) refl;
      above = λ byte high. rw (above piece.1 byte (omega arith), above first.1 byte high) refl;
    }

shortened_behind : (first : Mode × Span) (run piece : Span) (old new : List (Mode × Span)) → first.1.last < run.first → run.first ≤ piece.first → piece.first ≤ piece.last → IsShortened (mode_in old) (mode_in new) run piece
    → IsShortened (mode_in (first ∷ old)) (mode_in (first ∷ new)) run piece
shortened_behind first run piece old new less from_first some short = record {
  before = λ byte from low. rw (above first.1 byte (omega arith)) (short.before byte from low);
  within = λ byte from upto. same_behind first old new byte (short.within byte from upto);
  behind = λ byte high upto. rw (above first.1 byte (omega arith)) (short.behind byte high upto);
  below = λ byte low. same_behind first old new byte (short.below byte low);
  above = λ byte high. same_behind first old new byte (short.above byte high);
}

shortened_at : (p : Mode × Span → Bool) (first run piece : Mode × Span) (runs : List (Mode × Span)) (b : Bool) → IsPieceOf run piece → AreOrdered (first ∷ runs) → cond b (Some first) (find p runs) ≡ Some run
    → (find p runs ≡ Some run → IsShortened (mode_in runs) (mode_in (with_first p piece runs)) run.1 piece.1)
    → IsShortened (mode_in (first ∷ runs)) (mode_in (cond b (piece ∷ runs) (first ∷ with_first p piece runs))) run.1 piece.1
shortened_at p first run piece runs true part ordered found rest =
    let same : run ≡ first = cc in
    subst (λ (r : Mode × Span). IsShortened (mode_in (first ∷ runs)) (mode_in (piece ∷ runs)) r.1 piece.1) (sym same)
    (shorten_first first piece runs (subst (λ (r : Mode × Span). IsPieceOf r piece) same part) ordered.1)
shortened_at p first run piece runs false part ordered found rest =
    let apart = found_one (IsApart first) p runs run ordered.1 found in
    shortened_behind first run.1 piece.1 runs (with_first p piece runs) apart.0 part.first part.some (rest found)

-- where a piece is put in place of its run, just the other bytes of the run have no mode any more
pub shortened_modes : (p : Mode × Span → Bool) (runs : List (Mode × Span)) (run piece : Mode × Span) → IsPieceOf run piece → AreOrdered runs → find p runs ≡ Some run
    → IsShortened (mode_in runs) (mode_in (with_first p piece runs)) run.1 piece.1
shortened_modes p [] run piece part ordered found = absurd (let no : None ≡ Some run = found in cc)
shortened_modes p (first ∷ runs) run piece part ordered found = shortened_at p first run piece runs (p first) part ordered found (shortened_modes p runs run piece part ordered.2)

all_shortened_at : (p : Mode × Span → Bool) (before first piece : Mode × Span) (runs : List (Mode × Span)) (b : Bool) → IfSome (cond b (Some first) (find p runs)) (λ run. IsPieceOf run piece) → IsApart before first → AllByRecursion (IsApart before) runs
    → (IfSome (find p runs) (λ run. IsPieceOf run piece) → AllByRecursion (IsApart before) (with_first p piece runs))
    → AllByRecursion (IsApart before) (cond b (piece ∷ runs) (first ∷ with_first p piece runs))
all_shortened_at p before first piece runs true part apart all rest = (apart_before before first piece part apart, all)
all_shortened_at p before first piece runs false part apart all rest = (apart, rest part)

all_shortened : (p : Mode × Span → Bool) (before piece : Mode × Span) (runs : List (Mode × Span)) → IfSome (find p runs) (λ run. IsPieceOf run piece) → AllByRecursion (IsApart before) runs → AllByRecursion (IsApart before) (with_first p piece runs)
all_shortened p before piece [] part all = tt
all_shortened p before piece (first ∷ runs) part all = all_shortened_at p before first piece runs (p first) part all.0 all.1 (λ rest. all_shortened p before piece runs rest all.1)

shortened_ordered_at : (p : Mode × Span → Bool) (first piece : Mode × Span) (runs : List (Mode × Span)) (b : Bool) → IfSome (cond b (Some first) (find p runs)) (λ run. IsPieceOf run piece) → AreOrdered (first ∷ runs)
    → (IfSome (find p runs) (λ run. IsPieceOf run piece) → AreOrdered (with_first p piece runs)) → AreOrdered (cond b (piece ∷ runs) (first ∷ with_first p piece runs))
shortened_ordered_at p first piece runs true part ordered rest =
    let upto = part.last in
    let upto_end = ordered.0.1 in
    ((part.some, omega arith), all_apart_behind first piece runs part ordered.1, ordered.2)
shortened_ordered_at p first piece runs false part ordered rest = (ordered.0, all_shortened p first piece runs part ordered.1, rest part)

-- and the runs are in order
pub shortened_ordered : (p : Mode × Span → Bool) (runs : List (Mode × Span)) (piece : Mode × Span) → IfSome (find p runs) (λ run. IsPieceOf run piece) → AreOrdered runs → AreOrdered (with_first p piece runs)
shortened_ordered p [] piece part ordered = tt
shortened_ordered p (first ∷ runs) piece part ordered = shortened_ordered_at p first piece runs (p first) part ordered (λ rest. shortened_ordered p runs piece rest ordered.2)

-- a run lies on either side of a gap, and is apart from what is put there
pub gap_side : (modes : Modes) (run put : Mode × Span) → run.1.first ≤ run.1.last → put.1.first ≤ put.1.last → IsWhole modes run → IsGapFor modes put.0 put.1 → IsApart run put ⊎ IsApart put run
gap_side modes run put some put_some whole gap = elim (cases_lt run.1.last put.1.first) [
  | inl before ↦ inl (
    before,
    λ touch same.
        gap.before run.1.last touch (whole.constant run.1.last (some, omega arith) ∙ ap Some same),
  )
  | inr reaches ↦ elim (cases_lt put.1.last run.1.first) [
    | inl behind ↦ inr (
      behind,
      λ touch same.
          let has : modes (put.1.last + 1) ≡ Some run.0 = whole.constant (put.1.last + 1) (omega arith, omega arith) in
          gap.behind (has ∙ ap Some (sym same)),
    )
    | inr begins ↦ absurd (
        elim (cases_lt run.1.first put.1.first) [
          | inl lower ↦
              let has = whole.constant put.1.first (omega arith, reaches) in
              let no : None ≡ Some run.0 = sym (gap.free put.1.first (omega arith) put_some) ∙ has in
              cc
          | inr from ↦
              let has = whole.constant run.1.first (omega arith, some) in
              let no : None ≡ Some run.0 = sym (gap.free run.1.first from begins) ∙ has in
              cc
        ])
  ]
]

gap_sides : (modes : Modes) (put : Mode × Span) (runs : List (Mode × Span)) → put.1.first ≤ put.1.last → IsGapFor modes put.0 put.1 → AllByRecursion (λ run. IsByteRange run.1) runs → AllByRecursion (IsWhole modes) runs
    → AllByRecursion (λ run. IsApart run put ⊎ IsApart put run) runs
gap_sides modes put [] some gap ranges wholes = tt
gap_sides modes put (run ∷ runs) some gap ranges wholes =
    (gap_side modes run put ranges.0.0 some wholes.0 gap, gap_sides modes put runs some gap ranges.1 wholes.1)

-- so does each of the runs in order
pub sides : (put : Mode × Span) (runs : List (Mode × Span)) → put.1.first ≤ put.1.last → AreOrdered runs → IsGapFor (mode_in runs) put.0 put.1 → AllByRecursion (λ run. IsApart run put ⊎ IsApart put run) runs
sides put runs some ordered gap = gap_sides (mode_in runs) put runs some gap (all_ranges runs ordered) (all_whole runs ordered)

-- the one that ends at its first byte or behind it lies behind, and the others before
is_behind : (run put : Mode × Span) → put.1.first ≤ run.1.last → IsApart run put ⊎ IsApart put run → IsApart put run
is_behind run put reaches side = elim side [
  | inl before ↦ absurd (let less = before.0 in omega arith)
  | inr behind ↦ behind
]

is_before : (run put : Mode × Span) → run.1.first ≤ run.1.last → put.1.first ≤ put.1.last → run.1.last < put.1.first → IsApart run put ⊎ IsApart put run → IsApart run put
is_before run put some put_some ends side = elim side [
  | inl before ↦ before
  | inr behind ↦ absurd (let less = behind.0 in omega arith)
]

all_behind : (run put : Mode × Span) (runs : List (Mode × Span)) → put.1.first ≤ run.1.last → AllByRecursion (IsApart run) runs → AreOrdered runs → AllByRecursion (λ other. IsApart other put ⊎ IsApart put other) runs → AllByRecursion (IsApart put) runs
all_behind run put [] reaches apart ordered side = tt
all_behind run put (other ∷ runs) reaches apart ordered side =
    let less = apart.0.0 in
    let some = ordered.0.0 in
    (is_behind other put (omega arith) side.0, all_behind run put runs reaches apart.1 ordered.2 side.1)

all_with : (P : Mode × Span → Type 0) (p : Mode × Span → Bool) (put : Mode × Span) (runs : List (Mode × Span)) → P put → AllByRecursion P runs → AllByRecursion P (put_before p put runs)
all_with P p put [] holds all = (holds, tt)
all_with P p put (run ∷ runs) holds all =
    elim (p run) as (λ b. AllByRecursion P (cond b (put ∷ run ∷ runs) (run ∷ put_before p put runs))) [ true ↦ (holds, all) | false ↦ (all.0, all_with P p put runs holds all.1) ]

put_ordered_at : (put run : Mode × Span) (runs : List (Mode × Span)) (b : Bool) → ends_from put.1.first run ≡ b → IsByteRange put.1 → AreOrdered (run ∷ runs) → AllByRecursion (λ other. IsApart other put ⊎ IsApart put other) (run ∷ runs)
    → AreOrdered (put_before (ends_from put.1.first) put runs) → AreOrdered (cond b (put ∷ run ∷ runs) (run ∷ put_before (ends_from put.1.first) put runs))
put_ordered_at put run runs true test range ordered side rest =
    let reaches = leb-true put.1.first run.1.last test in
    (range, (is_behind run put reaches side.0, all_behind run put runs reaches ordered.1 ordered.2 side.1), ordered)
put_ordered_at put run runs false test range ordered side rest =
    let ends = leb-false put.1.first run.1.last test in
    (ordered.0, all_with (IsApart run) (ends_from put.1.first) put runs (is_before run put ordered.0.0 range.0 ends side.0) ordered.1, rest)

-- with a run more, which has such a gap, the runs are in order
pub put_ordered : (put : Mode × Span) (runs : List (Mode × Span)) → IsByteRange put.1 → AreOrdered runs → AllByRecursion (λ other. IsApart other put ⊎ IsApart put other) runs → AreOrdered (put_before (ends_from put.1.first) put runs)
put_ordered put [] range ordered side = (range, tt, tt)
put_ordered put (run ∷ runs) range ordered side =
    put_ordered_at put run runs (ends_from put.1.first run) refl range ordered side (put_ordered put runs range ordered.2 side.1)

-- a run that is put in front gives its bytes its mode
put_first : (put : Mode × Span) (runs : List (Mode × Span)) → IsSetOn (mode_in runs) (mode_in (put ∷ runs)) put.1 (Some put.0)
put_first put runs = record {
  inside = λ byte from upto. rw (covered put.1 byte from upto) refl;
  below = λ byte low. rw (below put.1 byte low) refl;
  above = λ byte high. rw (above put.1 byte high) refl;
}

put_at : (put run : Mode × Span) (runs : List (Mode × Span)) (b : Bool) → ends_from put.1.first run ≡ b → IsSetOn (mode_in runs) (mode_in (put_before (ends_from put.1.first) put runs)) put.1 (Some put.0)
    → IsSetOn (mode_in (run ∷ runs)) (mode_in (cond b (put ∷ run ∷ runs) (run ∷ put_before (ends_from put.1.first) put runs))) put.1 (Some put.0)
put_at put run runs true test rest = put_first put (run ∷ runs)
put_at put run runs false test rest = set_behind run put.1 runs (put_before (ends_from put.1.first) put runs) (Some put.0) (leb-false put.1.first run.1.last test) rest

-- and so does one that is put in at its place
pub put_modes : (put : Mode × Span) (runs : List (Mode × Span)) → IsSetOn (mode_in runs) (mode_in (put_before (ends_from put.1.first) put runs)) put.1 (Some put.0)
put_modes put [] = put_first put []
put_modes put (run ∷ runs) = put_at put run runs (ends_from put.1.first run) refl (put_modes put runs)

-- what begins where a run did that was in front goes in there again
put_in_front : (first put : Mode × Span) (runs : List (Mode × Span)) → put.1.first ≤ first.1.last → AllByRecursion (IsApart first) runs → AreOrdered runs
    → put ∷ runs ≡ put_before (ends_from put.1.first) put runs
put_in_front first put [] begins apart ordered = refl
put_in_front first put (run ∷ runs) begins apart ordered =
    let less = apart.0.0 in
    let some = ordered.0.0 in
    rw (le-leb put.1.first run.1.last (omega arith)) refl

replaced_at : (p : Mode × Span → Bool) (first run put : Mode × Span) (runs : List (Mode × Span)) (b : Bool) → AreOrdered (first ∷ runs) → cond b (Some first) (find p runs) ≡ Some run
    → put.1.first ≡ run.1.first → (find p runs ≡ Some run → with_first p put runs ≡ put_before (ends_from put.1.first) put (without_first p runs))
    → cond b (put ∷ runs) (first ∷ with_first p put runs) ≡ put_before (ends_from put.1.first) put (cond b runs (first ∷ without_first p runs))
replaced_at p first run put runs true ordered found begins rest =
    let same : first.1.first ≡ run.1.first = ap (λ (r : Mode × Span). r.1.first) (let is : first ≡ run = cc in is) in
    let some = ordered.0.0 in
    put_in_front first put runs (omega arith) ordered.1 ordered.2
replaced_at p first run put runs false ordered found begins rest =
    let apart = found_one (IsApart first) p runs run ordered.1 found in
    let less = apart.0 in
    rw (lt-leb put.1.first first.1.last (omega arith)) (ap (λ others. first ∷ others) (rest found))

-- a run that is put in place of one that begins where it does stands where it would if that one were taken out first
pub replaced : (p : Mode × Span → Bool) (runs : List (Mode × Span)) (run put : Mode × Span) → AreOrdered runs → find p runs ≡ Some run → put.1.first ≡ run.1.first
    → with_first p put runs ≡ put_before (ends_from put.1.first) put (without_first p runs)
replaced p [] run put ordered found begins = absurd (let no : None ≡ Some run = found in cc)
replaced p (first ∷ runs) run put ordered found begins = replaced_at p first run put runs (p first) ordered found begins (λ rest. replaced p runs run put ordered.2 rest begins)

-- a longer run in its place gives its bytes its mode
pub longer_modes : (p : Mode × Span → Bool) (runs : List (Mode × Span)) (run longer : Mode × Span) → AreOrdered runs → find p runs ≡ Some run → longer.1.first ≡ run.1.first → run.1.last ≤ longer.1.last
    → IsSetOn (mode_in runs) (mode_in (with_first p longer runs)) longer.1 (Some longer.0)
longer_modes p runs run longer ordered found begins ends =
    let taken = taken_modes p runs run ordered found in
    let set = put_modes longer (without_first p runs) in
    let modes : IsSetOn (mode_in runs) (mode_in (put_before (ends_from longer.1.first) longer (without_first p runs))) longer.1 (Some longer.0) = record {
      inside = set.inside;
      below = λ byte low. set.below byte low ∙ taken.below byte (omega arith);
      above = λ byte high. set.above byte high ∙ taken.above byte (omega arith);
    } in
    subst (λ (new : List (Mode × Span)). IsSetOn (mode_in runs) (mode_in new) longer.1 (Some longer.0)) (sym (replaced p runs run longer ordered found begins)) modes

-- once a run that is lengthened is taken out, it leaves a gap for the longer one
gap_for_longer : (old mid : Modes) (run longer : Mode × Span) → IsWhole old run → IsSetOn old mid run.1 None → longer.0 ≡ run.0 → longer.1.first ≡ run.1.first → run.1.last ≤ longer.1.last
    → ((byte : ℕ) → run.1.last < byte → byte ≤ longer.1.last → old byte ≡ None) → old (longer.1.last + 1) ≢ Some run.0 → IsGapFor mid longer.0 longer.1
gap_for_longer old mid run longer whole taken is begins ends free next = record {
  free = λ byte from upto. elim (cases_lt run.1.last byte) [
    | inl behind ↦ taken.above byte behind ∙ free byte behind upto
    | inr inside ↦ taken.inside byte (omega arith) inside
  ];
  before = λ byte at has. whole.before byte (at ∙ begins) (sym (taken.below byte (omega arith)) ∙ has ∙ ap Some is);
  behind = λ has. next (sym (taken.above (longer.1.last + 1) (omega arith)) ∙ has ∙ ap Some is);
}

-- and where no byte that it gains has a mode, and the one behind them another one, the runs are in order
pub longer_ordered : (p : Mode × Span → Bool) (runs : List (Mode × Span)) (run longer : Mode × Span) → AreOrdered runs → find p runs ≡ Some run → longer.0 ≡ run.0 → longer.1.first ≡ run.1.first
    → run.1.last ≤ longer.1.last → longer.1.last ≤ OFFMAX → ((byte : ℕ) → run.1.last < byte → byte ≤ longer.1.last → mode_in runs byte ≡ None) → mode_in runs (longer.1.last + 1) ≢ Some run.0
    → AreOrdered (with_first p longer runs)
longer_ordered p runs run longer ordered found mode begins ends upto free behind =
    let rest = taken_ordered p runs ordered in
    let whole = found_one (IsWhole (mode_in runs)) p runs run (all_whole runs ordered) found in
    let range = found_one (λ (r : Mode × Span). IsByteRange r.1) p runs run (all_ranges runs ordered) found in
    let some = range.0 in
    let wide : IsByteRange longer.1 = (omega arith, upto) in
    let gap = gap_for_longer (mode_in runs) (mode_in (without_first p runs)) run longer whole (taken_modes p runs run ordered found) mode begins ends free behind in
    subst AreOrdered (sym (replaced p runs run longer ordered found begins)) (put_ordered longer (without_first p runs) wide rest (sides longer (without_first p runs) wide.0 rest gap))

-- behind a run the gap for one that is apart from it stays
gap_behind : (first put : Mode × Span) (runs : List (Mode × Span)) → put.1.first ≤ put.1.last → IsApart first put → IsGapFor (mode_in runs) put.0 put.1 → IsGapFor (mode_in (first ∷ runs)) put.0 put.1
gap_behind first put runs some apart gap =
    let less = apart.0 in
    record {
      free = λ byte from upto. rw (above first.1 byte (omega arith)) (gap.free byte from upto);
      before = λ byte is has. elim (cases_covers first.1 byte) [
        | inl covers ↦
            let upto = covers.1 in
            let there : Some first.0 ≡ Some put.0 = rw (covered first.1 byte covers.0 covers.1) at has in
            let same : first.0 ≡ put.0 = cc in
            apart.1 (omega arith) same
        | inr outside ↦ gap.before byte is (rw outside at has)
      ];
      behind = λ has. gap.behind (rw (above first.1 (put.1.last + 1) (omega arith)) at has);
    }

-- of runs in order those before one leave a gap for it
pub gap_for_next : (runs : List (Mode × Span)) (n : ℕ) (d : Mode × Span) → AreOrdered runs → n < length runs → IsGapFor (mode_in (take n runs)) (get_or runs n d).0 (get_or runs n d).1
gap_for_next [] n d ordered within = absurd (omega arith)
gap_for_next (first ∷ runs) zero d ordered within = record {
  free = λ byte from upto. refl;
  before = λ byte is has. absurd (let no : None ≡ Some first.0 = has in cc);
  behind = λ has. absurd (let no : None ≡ Some first.0 = has in cc);
}
gap_for_next (first ∷ runs) (suc n) d ordered within =
    let inside : n < length runs = omega arith in
    let apart = All-from_recursion (IsApart first) runs ordered.1 n d inside in
    let range = All-from_recursion (λ (run : Mode × Span). IsByteRange run.1) runs (all_ranges runs ordered.2) n d inside in
    gap_behind first (get_or runs n d) (take n runs) range.0 apart (gap_for_next runs n d ordered.2 inside)

-- and with it they give its bytes its mode
pub modes_with_next : (runs : List (Mode × Span)) (n : ℕ) (d : Mode × Span) → AreOrdered runs → n < length runs
    → IsSetOn (mode_in (take n runs)) (mode_in (take (suc n) runs)) (get_or runs n d).1 (Some (get_or runs n d).0)
modes_with_next [] n d ordered within = absurd (omega arith)
modes_with_next (first ∷ runs) zero d ordered within = put_first first []
modes_with_next (first ∷ runs) (suc n) d ordered within =
    let inside : n < length runs = omega arith in
    let apart = All-from_recursion (IsApart first) runs ordered.1 n d inside in
    set_behind first (get_or runs n d).1 (take n runs) (take (suc n) runs) (Some (get_or runs n d).0) apart.0 (modes_with_next runs n d ordered.2 inside)

-- two sets of one range with one mode make the same of the same modes
pub same_sets : (old other new more : Modes) (span : Span) (mode : Option Mode) → ((byte : ℕ) → old byte ≡ other byte) → IsSetOn old new span mode → IsSetOn other more span mode → (byte : ℕ) → new byte ≡ more byte
same_sets old other new more span mode same first second byte = elim (cases_lt byte span.first) [
  | inl low ↦ first.below byte low ∙ same byte ∙ sym (second.below byte low)
  | inr from ↦ elim (cases_lt span.last byte) [
    | inl high ↦ first.above byte high ∙ same byte ∙ sym (second.above byte high)
    | inr upto ↦ first.inside byte from upto ∙ sym (second.inside byte from upto)
  ]
]

-- a gap is one as well by modes that are the same
pub same_gap : (old new : Modes) (mode : Mode) (span : Span) → ((byte : ℕ) → new byte ≡ old byte) → IsGapFor old mode span → IsGapFor new mode span
same_gap old new mode span same gap = record {
  free = λ byte from upto. same byte ∙ gap.free byte from upto;
  before = λ byte is has. gap.before byte is (sym (same byte) ∙ has);
  behind = λ has. gap.behind (sym (same (span.last + 1)) ∙ has);
}

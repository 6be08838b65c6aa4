-- Where a set's own run begins and ends, and what stays beside it, in the three cases at each end: no touched run sticks out of the range there; one
-- of the mode that is set, which becomes part of the own run; or one of another mode, of which a piece stays; for `left_end` and `right_end`.
use Rattle.std.proofs.Common.{rules, ℕ, ◌≡◌, ◌≢◌, ◌+◌, ◌-◌, ◌<◌, ◌≤◌, refl, Option, Some, None, List, [], ◌∷◌, All, length, get_or, arith}
use Rattle.std.proofs.lemmas.Grind.{common_steps}
use Rattle.std.proofs.lemmas.Bool.{cases_lt}
use Rattle.std.proofs.lemmas.List.{get_or_default}
use Rattle.std.proofs.lemmas.List.Elements.{All-nil, All-cons}
use Rattle.range_core.specs.declared.Mode.{Mode}
use Rattle.range_core.specs.declared.Span.{Span}
use Rattle.range_core.specs.Ranges.{Covers, IsApart, IsByteRange}
use Rattle.range_core.specs.Changes.{mode_in}
use Rattle.range_core.specs.Replacing.{AreInOrder, Touches, own_run, IsLeftEnd, IsRightEnd}
use Rattle.range_core.proofs.ListLemmas.{AllPairs-few}
use Rattle.range_core.proofs.ModeLemmas.{mode_in-none, mode_in-at}
use Rattle.range_core.proofs.RunLemmas.{firsts_rise, lasts_rise}

-- what holds of the one run of a list
All-one : (P : Mode × Span → Type 0) (run : Mode × Span) → P run → All P (run ∷ [])
All-one P run holds = All-cons P run [] holds (All-nil P)

-- what holds of the own run, where there is one
pub All-own_run : (P : Mode × Span → Type 0) (mode : Option Mode) (first last : ℕ)
    → ((own : Mode) → mode ≡ Some own → P (own, record { first = first; last = last })) → All P (own_run mode first last)
All-own_run P None first last holds = All-nil P
All-own_run P (Some own) first last holds = All-one P (own, record { first = first; last = last }) (holds own refl)

-- a run alone gives its mode to the bytes that it covers
mode_in-one : (run : Mode × Span) (byte : ℕ) → Covers run.1 byte → mode_in (run ∷ []) byte ≡ Some run.0
mode_in-one run byte covers = mode_in-at (run ∷ []) 0 run byte (AllPairs-few IsApart (run ∷ []) (omega arith)) (omega arith) covers

-- before the first run no run covers a byte, and behind the last one none does
before_first : (runs : List (Mode × Span)) (d : Mode × Span) (byte : ℕ) → AreInOrder runs → (0 < length runs → byte < (get_or runs 0 d).1.first)
    → mode_in runs byte ≡ None
before_first runs d byte in_order lower =
    mode_in-none runs byte (λ k e within covers.
    let rise = firsts_rise runs in_order.ranges in_order.apart 0 k d (omega arith) within in
    let same = get_or_default runs k e d within in
    let less = lower (omega arith) in
    omega (arith, rise, less, (rw same at covers).0))

behind_last : (runs : List (Mode × Span)) (d : Mode × Span) (byte : ℕ) → AreInOrder runs
    → (0 < length runs → (get_or runs (length runs - 1) d).1.last < byte) → mode_in runs byte ≡ None
behind_last runs d byte in_order higher =
    mode_in-none runs byte (λ k e within covers.
    let rise = lasts_rise runs in_order.ranges in_order.apart k (length runs - 1) d (omega arith) (omega arith) in
    let same = get_or_default runs k e d within in
    let more = higher (omega arith) in
    omega (arith, rise, more, (rw same at covers).1))

-- nothing sticks out before the range
pub left_clear : (touched : List (Mode × Span)) (span : Span) (mode : Option Mode) (d : Mode × Span) → AreInOrder touched
    → (0 < length touched → span.first ≤ (get_or touched 0 d).1.first) → IsLeftEnd touched span mode span.first []
left_clear touched span mode d in_order clear = grind (arith, common_steps, before_first, All-nil, All-own_run)

-- the first touched run sticks out, and has the mode that is set
pub left_joined : (touched : List (Mode × Span)) (span : Span) (mode : Option Mode) (d : Mode × Span) → AreInOrder touched
    → All (Touches span) touched → 0 < length touched → (get_or touched 0 d).1.first < span.first → mode ≡ Some (get_or touched 0 d).0
    → IsLeftEnd touched span mode (get_or touched 0 d).1.first []
left_joined touched span mode d in_order touches some out mode_is = grind (arith, common_steps, mode_in-at, before_first, All-nil, All-own_run)

-- the first touched run sticks out, and has another mode or stays beside an unlock
pub left_piece : (touched : List (Mode × Span)) (span : Span) (mode : Option Mode) (d : Mode × Span) → AreInOrder touched
    → All (Touches span) touched → 0 < length touched → (get_or touched 0 d).1.first < span.first → mode ≢ Some (get_or touched 0 d).0
    → IsLeftEnd touched span mode span.first (((get_or touched 0 d).0, record { first = (get_or touched 0 d).1.first; last = span.first - 1 }) ∷ [])
left_piece touched span mode d in_order touches some out mode_is =
    grind (arith, common_steps, cases_lt, before_first, mode_in-none, All-one, mode_in-at, mode_in-one, All-own_run)

-- nothing sticks out behind the range
pub right_clear : (touched : List (Mode × Span)) (span : Span) (mode : Option Mode) (d : Mode × Span) → IsByteRange span → AreInOrder touched
    → (0 < length touched → (get_or touched (length touched - 1) d).1.last ≤ span.last) → IsRightEnd touched span mode span.last []
right_clear touched span mode d range in_order clear = grind (arith, common_steps, behind_last, All-nil, All-own_run)

-- the last touched run sticks out, and has the mode that is set
pub right_joined : (touched : List (Mode × Span)) (span : Span) (mode : Option Mode) (d : Mode × Span) → AreInOrder touched
    → All (Touches span) touched → 0 < length touched → span.last < (get_or touched (length touched - 1) d).1.last
    → mode ≡ Some (get_or touched (length touched - 1) d).0 → IsRightEnd touched span mode (get_or touched (length touched - 1) d).1.last []
right_joined touched span mode d in_order touches some out mode_is = grind (arith, common_steps, mode_in-at, behind_last, All-nil, All-own_run)

-- the last touched run sticks out, and has another mode or stays beside an unlock
pub right_piece : (touched : List (Mode × Span)) (span : Span) (mode : Option Mode) (d : Mode × Span) → IsByteRange span → AreInOrder touched
    → All (Touches span) touched → 0 < length touched → span.last < (get_or touched (length touched - 1) d).1.last
    → mode ≢ Some (get_or touched (length touched - 1) d).0
    → IsRightEnd touched span mode span.last
    (((get_or touched (length touched - 1) d).0, record { first = span.last + 1; last = (get_or touched (length touched - 1) d).1.last }) ∷ [])
right_piece touched span mode d range in_order touches some out mode_is =
    search (rules, cases_lt, behind_last, mode_in-none, All-one, mode_in-at, mode_in-one, All-own_run)

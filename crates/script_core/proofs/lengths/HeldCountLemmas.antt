-- The locks of a report are no more than the starts of the changes, since no two begin at one start: for `outputs_are_short`.
use Rattle.script_core.proofs.Common.{common_steps, ◌≡◌, ◌≢◌, ℕ, zero, suc, ◌+◌, ◌<◌, ◌≤◌, ◌⊎◌, Bool, true, false, List, [], ◌∷◌, ◌++◌, length, flat_map, None, inl, inr, ⊎_elim, refl, sym, ap, ◌∙◌, subst, arith, ⊤, recursion_from_All, Owner, Process, Description, Held, Change, FlockChange, mode_in, flock_mode_in, AreFlockLocks, AreFileReports, IsFileReport, IsFlockLine, IsHeldReport}
use Rattle.std.proofs.Common.{AllPairs, suc-le-suc}
use Rattle.std.specs.Prelude.{IsFalse}
use Rattle.std.specs.List.{AllByRecursion as Each}
use Rattle.range_core.specs.Ranges.{IsRun}
use Rattle.lock_book.specs.Owners.{IsBefore}
use Rattle.lock_book.specs.Reports.{AreByteLocks}
use Rattle.script_core.proofs.FitLemmas.{FitsChange, each_append, each_both, each_map}
use Rattle.script_core.proofs.OutcomeFitLemmas.{mode_fits}
use Rattle.script_core.proofs.lengths.StartLemmas.{Start, IsOneOf, byte_start, flock_start, starts_of, flock_starts_of, starts_in, in_front, in_back, run_start, flock_has_start}

-- ---- no more than what they begin at

-- where the lock of the line begins
abbrev pub start_of : Held → Start
start_of held = record { file = held.file; whole = held.whole; owner = held.owner; byte = held.span.first }

-- no two of the lines begin at one start
abbrev BeginApart : List Held → Type 0
BeginApart [] = ⊤
BeginApart (line ∷ lines) = Each (λ other. start_of other ≢ start_of line) lines × BeginApart lines

-- the list without x has one fewer, and all others
record IsWithout {X : Type 0} (xs : List X) (x : X) (rest : List X) : Type 0 where
  fewer : suc (length rest) ≡ length xs
  others : (other : X) → other ≢ x → IsOneOf other xs → IsOneOf other rest

without : {X : Type 0} (xs : List X) (x : X) → IsOneOf x xs → (rest : List X) × IsWithout xs x rest
without [] x among = absurd among
without (first ∷ xs) x (inl same) =
    (xs, record { fewer = refl; others = λ other differs among. ⊎_elim (λ is. absurd (differs (sym is ∙ same))) (λ later. later) among })
without (first ∷ xs) x (inr later) =
    let rest = without xs x later in (
      first ∷ rest.0,
      record {
        fewer = ap suc rest.1.fewer;
        others = λ other differs among. ⊎_elim (λ here. inl here) (λ behind. inr (rest.1.others other differs behind)) among;
      },
    )

-- lines that begin apart, each at one of these starts, are no more than these
no_more : (lines : List Held) (starts : List Start) → BeginApart lines → Each (λ line. IsOneOf (start_of line) starts) lines → length lines ≤ length starts
no_more [] starts apart among = omega arith
no_more (line ∷ lines) starts apart among = grind (arith, common_steps, without, each_both, no_more lines)

-- ---- lines that begin apart

-- these lines begin apart, each at one of these starts, and are such lines
record AreBegun (starts : List Start) (Is : Held → Type 0) (lines : List Held) : Type 0 where
  apart : BeginApart lines
  among : Each (λ line. IsOneOf (start_of line) starts) lines
  each : Each Is lines

apart_append : (First Second : Held → Type 0) (xs ys : List Held) → ((x y : Held) → First x → Second y → start_of y ≢ start_of x)
    → Each First xs → Each Second ys → BeginApart xs → BeginApart ys → BeginApart (xs ++ ys)
apart_append First Second [] ys differ firsts seconds apart later = later
apart_append First Second (x ∷ xs) ys differ firsts seconds apart later = grind (arith, common_steps, each_append, each_map, apart_append First Second xs)

begun_append : (starts : List Start) (First Second Is : Held → Type 0) (xs ys : List Held) → ((x y : Held) → First x → Second y → start_of y ≢ start_of x)
    → ((x : Held) → First x → Is x) → ((y : Held) → Second y → Is y) → AreBegun starts First xs → AreBegun starts Second ys → AreBegun starts Is (xs ++ ys)
begun_append starts First Second Is xs ys differ of_first of_second first second = grind (arith, common_steps, apart_append, each_append, each_map)

-- lines in such an order begin apart
ordered_apart : (Is : Held → Type 0) (Ordered : Held → Held → Type 0) (lines : List Held) → ((x y : Held) → Is x → Ordered x y → start_of y ≢ start_of x)
    → Each Is lines → AllPairs Ordered lines → BeginApart lines
ordered_apart Is Ordered [] differ each ordered = tt
ordered_apart Is Ordered (x ∷ xs) differ each ordered = (
  each_map (Ordered x) (λ (other : Held). start_of other ≢ start_of x) xs (λ y before. differ x y each.0 before)
      (recursion_from_All (Ordered x) xs (λ k d low. ordered 0 (suc k) d (omega arith) (suc-le-suc low))),
  ordered_apart Is Ordered xs differ each.1 (λ i j d below low. ordered (suc i) (suc j) d (suc-le-suc below) (suc-le-suc low)),
)

-- ---- the lines of one file

-- the line is a byte lock on the file, by these changes
abbrev IsByteLine : List Change → ℕ → Held → Type 0
IsByteLine changes file line = (line.file ≡ file) × IsFalse line.whole × IsRun (mode_in changes file line.owner) line.span.first line.mode line.span

-- the line is a byte lock on the file, or a flock lock
abbrev IsKindOn : ℕ → Bool → Held → Type 0
IsKindOn file whole line = (line.file ≡ file) × (line.whole ≡ whole)

not_before_itself : (owner : Owner) → ¬ IsBefore owner owner
not_before_itself (Process p) before = omega (arith, before)
not_before_itself (Description d) before = omega (arith, before)

-- another owner
owners_differ : (x y : Held) → IsBefore x.owner y.owner → start_of y ≢ start_of x
owners_differ x y before same = grind (arith, common_steps, not_before_itself)

byte_begun : (changes : List Change) (flocks : List FlockChange) (file : ℕ) (lines : List Held) → Each FitsChange changes
    → AreByteLocks file (mode_in changes file) lines → AreBegun (starts_in changes flocks) (IsKindOn file false) lines
byte_begun changes flocks file lines fits are =
    let each = recursion_from_All (IsByteLine changes file) lines are.each in
    record {
      apart = ordered_apart (IsByteLine changes file) _ lines differ each are.in_order;
      among = each_map (IsByteLine changes file) _ lines at_start each;
      each = each_map (IsByteLine changes file) (IsKindOn file false) lines (λ line is. (is.0, is.1)) each;
    }
  where
    differ : (x y : Held) → IsByteLine changes file x → IsBefore x.owner y.owner ⊎ ((x.owner ≡ y.owner) × (x.span.last < y.span.first))
        → start_of y ≢ start_of x
    differ x y is (inl before) same = owners_differ x y before same
    differ x y is (inr behind) same = grind (arith, common_steps)

    at_start : (line : Held) → IsByteLine changes file line → IsOneOf (start_of line) (starts_in changes flocks)
    at_start line is =
        let within = mode_fits changes None file line.owner line.span.first line.mode fits (is.2.constant line.span.first is.2.covered) (λ e. absurd cc) in
        let same : byte_start file line.owner line.span.first ≡ start_of line = rw (is.0, is.1) refl in
        in_front (start_of line) (flat_map starts_of changes) (flat_map flock_starts_of flocks)
        (subst (λ (start : Start). IsOneOf start (flat_map starts_of changes)) same
        (run_start changes file line.owner line.mode line.span within.1 is.2))

flock_begun : (changes : List Change) (flocks : List FlockChange) (file : ℕ) (lines : List Held) → AreFlockLocks file (flock_mode_in flocks file) lines
    → AreBegun (starts_in changes flocks) (IsKindOn file true) lines
flock_begun changes flocks file lines are =
    let each = recursion_from_All (IsFlockLine file (flock_mode_in flocks file)) lines are.each in
    record {
      apart = ordered_apart (IsFlockLine file (flock_mode_in flocks file)) _ lines (λ x y is before. owners_differ x y before) each are.in_order;
      among = each_map (IsFlockLine file (flock_mode_in flocks file)) _ lines at_start each;
      each = each_map (IsFlockLine file (flock_mode_in flocks file)) (IsKindOn file true) lines (λ line is. (is.same_file, is.whole)) each;
    }
  where
    at_start : (line : Held) → IsFlockLine file (flock_mode_in flocks file) line
        → IsOneOf (start_of line) (starts_in changes flocks)
    at_start line is = grind (arith, common_steps, flock_start, in_back, starts_of, flock_starts_of, flock_has_start)

file_begun : (changes : List Change) (flocks : List FlockChange) (file : ℕ) (report : List Held) → Each FitsChange changes
    → IsFileReport file (mode_in changes file) (flock_mode_in flocks file) report
    → AreBegun (starts_in changes flocks) (λ line. line.file ≡ file) report
file_begun changes flocks file report fits is =
    subst (AreBegun (starts_in changes flocks) (λ (line : Held). line.file ≡ file)) (sym is.is)
    (begun_append (starts_in changes flocks) (IsKindOn file false) (IsKindOn file true) (λ (line : Held). line.file ≡ file) is.byte_locks is.flock_locks
    (λ x y byte flock same. let bad : true ≡ false = sym flock.1 ∙ ap (λ (start : Start). start.whole) same ∙ byte.1 in cc)
    (λ line of. of.0) (λ line of. of.0)
    (byte_begun changes flocks file is.byte_locks fits is.are_bytes) (flock_begun changes flocks file is.flock_locks is.are_flocks))

-- ---- the lines of all files

files_begun : (changes : List Change) (flocks : List FlockChange) (file more : ℕ) (report : List Held) → Each FitsChange changes
    → AreFileReports file more (mode_in changes) (flock_mode_in flocks) report
    → AreBegun (starts_in changes flocks) (λ line. file ≤ line.file) report
files_begun changes flocks file zero report fits is = grind (arith, common_steps, starts_in)
files_begun changes flocks file (suc more) report fits (first, rest, is, one, others) =
    subst (AreBegun (starts_in changes flocks) (λ (line : Held). file ≤ line.file)) (sym is)
    (begun_append (starts_in changes flocks) (λ (line : Held). line.file ≡ file) (λ (line : Held). file + 1 ≤ line.file)
    (λ (line : Held). file ≤ line.file) first rest
    (λ x y here behind same. let at : y.file ≡ x.file = ap (λ (start : Start). start.file) same in omega (arith, here, behind, at))
    (λ line here. omega (arith, here)) (λ line behind. omega (arith, behind))
    (file_begun changes flocks file first fits one) (files_begun changes flocks (file + 1) more rest fits others))

-- the locks of a report are no more than the starts
pub no_more_than_starts : (changes : List Change) (flocks : List FlockChange) (held : List Held) → Each FitsChange changes
    → IsHeldReport (mode_in changes) (flock_mode_in flocks) held → length held ≤ length (starts_in changes flocks)
unfolding IsHeldReport
no_more_than_starts changes flocks held fits is =
    let begun = files_begun changes flocks 0 64 held fits is in
    no_more held (starts_in changes flocks) begun.apart begun.among

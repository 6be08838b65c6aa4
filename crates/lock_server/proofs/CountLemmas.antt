-- Sums of what owners have, file by file, owner by owner and run by run: for the calls named `counts`.
use Rattle.lock_server.proofs.Common.{ℕ, zero, suc, ◌≡◌, ◌≢◌, ◌+◌, ◌-◌, ◌<◌, ◌≤◌, ◌∙◌, add-zero, add-suc, inl, inr, sym, ap, subst, refl, arith, true, Bool, Option, Some, None, List, [], ◌∷◌, All, Any, length, if◌then◌else◌, AllPairs, common_steps, cases_Bool, cases_eq, cases_lt, nat_tests, All-head, All-tail}
use Rattle.lock_server.proofs.Common.{Mode, Read, Write, Span, AreRuns, Covers, IsByteRange, IsRun, Modes, is_within, flock_locks_on, runs_of, runs_on, told, FileState, untouched, State}
use Rattle.std.proofs.Common.{add-one, zero-add}
use Rattle.range_core.specs.declared.TheConstants.{OFFMAX}
use Rattle.range_core.specs.Ranges.{IsConstant}
use Rattle.lock_server.specs.Counting.{IsSum, IsTold, begins, begins_at, sum_below}
use Rattle.lock_server.proofs.ClearedLemmas.{within_ends}
use Rattle.lock_server.proofs.ListLemmas.{Any-cons, Any-weaker}

sum_zero : (count : ℕ → ℕ) → sum_below 0 count ≡ 0
unfolding sum_below
sum_zero count = refl

sum_suc : (number : ℕ) (count : ℕ → ℕ) → sum_below (suc number) count ≡ sum_below number count + count number
unfolding sum_below
sum_suc number count = refl

-- one number more
pub sum_more : (number : ℕ) (count : ℕ → ℕ) → sum_below (number + 1) count ≡ sum_below number count + count number
sum_more number count = ap (λ (n : ℕ). sum_below n count) (add-one number) ∙ sum_suc number count

sum_gap : (from gap : ℕ) (count : ℕ → ℕ) → ((number : ℕ) → from ≤ number → number < from + gap → count number ≡ 0)
    → sum_below (from + gap) count ≡ sum_below from count
sum_gap from zero count none = ap (λ (n : ℕ). sum_below n count) (add-zero from)
sum_gap from (suc gap) count none =
    let here : count (from + gap) ≡ 0 = none (from + gap) (omega arith) (omega arith) in
    ap (λ (n : ℕ). sum_below n count) (add-suc from gap) ∙ sum_suc (from + gap) count ∙ ap (λ (n : ℕ). sum_below (from + gap) count + n) here
    ∙ add-zero (sum_below (from + gap) count) ∙ sum_gap from gap count (λ number first before. none number first (omega (arith, before)))

-- where nothing is counted between two numbers, the sums below both are one
pub sum_to : (from to : ℕ) (count : ℕ → ℕ) → from ≤ to → ((number : ℕ) → from ≤ number → number < to → count number ≡ 0)
    → sum_below to count ≡ sum_below from count
sum_to from to count further none =
    let ends : from + (to - from) ≡ to = omega (arith, further) in
    ap (λ (n : ℕ). sum_below n count) (sym ends) ∙ sum_gap from (to - from) count (λ number first before. none number first (omega (arith, ends, before)))

pub sum_none : (to : ℕ) (count : ℕ → ℕ) → ((number : ℕ) → count number ≡ 0) → sum_below to count ≡ 0
sum_none to count none = sum_to 0 to count (omega arith) (λ number from before. none number) ∙ sum_zero count

-- a sum over all numbers is one
pub sum_one : (count : ℕ → ℕ) (total other : ℕ) → IsSum count total → IsSum count other → other ≡ total
sum_one count total other sum sum' = elim (cases_lt sum.bound sum'.bound) [
  | inl less ↦ sum'.is ∙ sum_to sum.bound sum'.bound count (omega (arith, less)) (λ number from before. sum.beyond number from) ∙ sym sum.is
  | inr more ↦ sum'.is ∙ sym (sum_to sum'.bound sum.bound count more (λ number from before. sum'.beyond number from)) ∙ sym sum.is
]

any_all : {X : Type 0} (P Q : X → Type 0) (xs : List X) → All P xs → Any Q xs → (x : X) × P x × Q x
any_all P Q xs all (k, x, within, is, holds) = (x, subst P is (all k x within), holds)

-- what is told of two counts is what is told of both together
pub told_then : (one more : ℕ) → told (told one + more) ≡ told (one + more)
told_then one more = omega arith

pub told_both : (one more : ℕ) → told (told one + told more) ≡ told (one + more)
told_both one more = omega arith

-- what owners from first to last have, each counted
abbrev pub count_within : ℕ → ℕ → (ℕ → ℕ) → ℕ → ℕ
count_within first last count owner = if is_within first last owner then count owner else 0

counted : (first last : ℕ) (count : ℕ → ℕ) (owner : ℕ) → first ≤ owner → owner ≤ last → count_within first last count owner ≡ count owner
counted first last count owner from within =
    let test : is_within first last owner ≡ true = grind (arith, common_steps, nat_tests) in ap (λ (t : Bool). if t then count owner else 0) test

pub not_counted : (first last : ℕ) (count : ℕ → ℕ) (owner : ℕ) → (is_within first last owner ≡ true → count owner ≡ 0) → count_within first last count owner ≡ 0
not_counted first last count owner none = elim (cases_Bool (is_within first last owner)) [
  | inl test ↦ ap (λ (t : Bool). if t then count owner else 0) test ∙ none test
  | inr test ↦ ap (λ (t : Bool). if t then count owner else 0) test
]

-- the owners below this one are counted
pub record IsCounting (first last : ℕ) (count : ℕ → ℕ) (next number : ℕ) : Type 0 where
  pub behind : first ≤ next
  pub is : number ≡ told (sum_below next (count_within first last count))

pub counting_none : (first last : ℕ) (count : ℕ → ℕ) (next : ℕ) → next ≡ first → IsCounting first last count next 0
counting_none first last count next is = record {
  behind = omega (arith, is);
  is = sym (ap told (sum_to 0 next (count_within first last count) (omega arith)
      (λ owner from before. not_counted first last count owner (λ within. absurd (let ends = within_ends first last owner within in omega (arith, is, before))))
      ∙ sum_zero (count_within first last count)));
}

pub counting_more : (first last : ℕ) (count : ℕ → ℕ) (next number owner more : ℕ) → IsCounting first last count next number → next ≤ owner → owner ≤ last
    → ((other : ℕ) → next ≤ other → other < owner → count other ≡ 0) → more ≡ told (number + count owner)
    → IsCounting first last count (owner + 1) more
counting_more first last count next number owner more so_far from within none is =
    let behind = so_far.behind in record {
      behind = omega arith;
      is = is ∙ ap (λ (n : ℕ). told (n + count owner)) so_far.is ∙ told_then (sum_below next (count_within first last count)) (count owner)
          ∙ sym (ap told (sum_more owner (count_within first last count)
          ∙ ap (λ (n : ℕ). n + count_within first last count owner)
          (sum_to next owner (count_within first last count) from (λ other first_from before. not_counted first last count other (λ test. none other first_from before)))
          ∙ ap (λ (n : ℕ). sum_below next (count_within first last count) + n) (counted first last count owner (omega arith) within)));
    }

-- and then all of them
pub counting_all : (first last : ℕ) (count : ℕ → ℕ) (next number : ℕ) → IsCounting first last count next number
    → ((other : ℕ) → next ≤ other → other ≤ last → count other ≡ 0) → number ≡ told (sum_below (last + 1) (count_within first last count))
counting_all first last count next number so_far none = so_far.is ∙ ap told (elim (cases_lt last next) [
  | inl past ↦
      sum_to (last + 1) next (count_within first last count) (omega (arith, past))
      (λ owner from before. not_counted first last count owner (λ within. absurd (let ends = within_ends first last owner within in omega (arith, from))))
  | inr behind ↦
      sym (sum_to next (last + 1) (count_within first last count) (omega (arith, behind))
      (λ owner from before. not_counted first last count owner (λ within. none owner from (omega (arith, before)))))
])

-- no mode on any byte is no run
none_begins : (before here : Option Mode) → here ≡ None → begins before here ≡ 0
none_begins before here none = ap (λ (h : Option Mode). begins before h) none

no_run_at : (modes : Modes) (byte : ℕ) → modes byte ≡ None → begins_at modes byte ≡ 0
no_run_at modes zero none = none_begins None (modes 0) none
no_run_at modes (suc byte) none = none_begins (modes byte) (modes (suc byte)) none

pub no_runs : (modes : Modes) → ((byte : ℕ) → modes byte ≡ None) → runs_of modes ≡ 0
no_runs modes none = sum_none (OFFMAX + 1) (begins_at modes) (λ byte. no_run_at modes byte (none byte))

-- within a run no other begins, and at its first byte one does
goes_on : (mode : Mode) → begins (Some mode) (Some mode) ≡ 0
goes_on Read = refl
goes_on Write = refl

begins_anew : (before : Option Mode) (mode : Mode) → before ≢ Some mode → begins before (Some mode) ≡ 1
begins_anew None mode differs = refl
begins_anew (Some Read) Read differs = absurd (differs refl)
begins_anew (Some Read) Write differs = refl
begins_anew (Some Write) Read differs = refl
begins_anew (Some Write) Write differs = absurd (differs refl)

module _ (modes : Modes) where
  inside_run : (mode : Mode) (span : Span) → IsConstant modes span mode → (byte : ℕ) → span.first < byte → byte ≤ span.last → begins_at modes byte ≡ 0
  inside_run mode span constant zero past within = absurd (omega (arith, past))
  inside_run mode span constant (suc byte) past within =
      ap (λ (h : Option Mode). begins h (modes (suc byte))) (constant byte (omega (arith, past), omega (arith, within)))
      ∙ ap (λ (h : Option Mode). begins (Some mode) h) (constant (suc byte) (omega (arith, past), within)) ∙ goes_on mode

  at_first : (mode : Mode) (first last : ℕ) → IsRun modes first mode (record { first = first; last = last }) → begins_at modes first ≡ 1
  at_first mode zero last run = ap (λ (h : Option Mode). begins None h) (run.constant zero run.covered)
  at_first mode (suc before) last run =
      ap (λ (h : Option Mode). begins (modes before) h) (run.constant (suc before) run.covered)
      ∙ begins_anew (modes before) mode (λ same. absurd (
      let wider = run.largest (record { first = before; last = last }) (let covered = run.covered in (omega arith, covered.1))
      (λ byte covered. by_byte same byte covered) in omega (arith, wider.0)))
    where
      by_byte : modes before ≡ Some mode → (byte : ℕ) → Covers (record { first = before; last = last }) byte → modes byte ≡ Some mode
      by_byte same byte covered = elim (cases_eq byte before) [
        | inl is ↦ ap modes is ∙ same
        | inr differs ↦ run.constant byte (let low = covered.0 in let high = covered.1 in (omega (arith, low, differs), high))
      ]

  -- these are all runs from a byte on
  record AreLater (from : ℕ) (runs : List (Mode × Span)) : Type 0 where
    rising : AllPairs (λ r s. r.1.last < s.1.first) runs
    each : All (λ r. IsRun modes r.1.first r.0 r.1) runs
    ranges : All (λ r. IsByteRange r.1) runs
    behind : All (λ r. from ≤ r.1.first) runs
    every : (byte : ℕ) (mode : Mode) → from ≤ byte → modes byte ≡ Some mode → Any (λ r. Covers r.1 byte) runs

  no_mode : (byte : ℕ) → ((mode : Mode) → ¬ (modes byte ≡ Some mode)) → modes byte ≡ None
  no_mode byte none = by_mode (modes byte) refl
    where
      by_mode : (found : Option Mode) → modes byte ≡ found → modes byte ≡ None
      by_mode None is = is
      by_mode (Some mode) is = absurd (none mode is)

  count_later : (from : ℕ) (runs : List (Mode × Span)) → from ≤ OFFMAX + 1 → AreLater from runs
      → sum_below (OFFMAX + 1) (begins_at modes) ≡ sum_below from (begins_at modes) + length runs
  count_later from [] within later =
      sum_to from (OFFMAX + 1) (begins_at modes) within
      (λ byte past before. no_run_at modes byte (no_mode byte (λ mode is. (let any = later.every byte mode past is in let inside : any.0 < 0 = any.2 in omega arith))))
      ∙ sym (add-zero (sum_below from (begins_at modes)))
  count_later from (run ∷ runs) within later =
      let start = All-head (λ r. from ≤ r.1.first) run runs later.behind in
      let range = All-head (λ r. IsByteRange r.1) run runs later.ranges in
      let is_run = All-head (λ r. IsRun modes r.1.first r.0 r.1) run runs later.each in
      let to_first : sum_below run.1.first (begins_at modes) ≡ sum_below from (begins_at modes) =
      sum_to from run.1.first (begins_at modes) start (λ byte past before. no_run_at modes byte (none_before byte past before)) in
      let at_start : sum_below (run.1.first + 1) (begins_at modes) ≡ sum_below run.1.first (begins_at modes) + 1 =
      sum_more run.1.first (begins_at modes) ∙ ap (λ (n : ℕ). sum_below run.1.first (begins_at modes) + n) (at_first run.0 run.1.first run.1.last is_run) in
      let to_last : sum_below (run.1.last + 1) (begins_at modes) ≡ sum_below (run.1.first + 1) (begins_at modes) =
      sum_to (run.1.first + 1) (run.1.last + 1) (begins_at modes) (let low = range.0 in omega arith)
      (λ byte past before. inside_run run.0 run.1 is_run.constant byte (omega (arith, past)) (omega (arith, before))) in
      let rest = count_later (run.1.last + 1) runs (let high = range.1 in omega arith) (later_rest start range.0) in
      omega (arith, to_first, at_start, to_last, rest)
    where
      after : All (λ (s : Mode × Span). run.1.last < s.1.first) runs
      after k d inside = later.rising 0 (suc k) d (omega arith) (omega (arith, inside))

      none_before : (byte : ℕ) → from ≤ byte → byte < run.1.first → modes byte ≡ None
      none_before byte past before = no_mode byte (λ mode is. elim (Any-cons (λ (r : Mode × Span). Covers r.1 byte) run runs (later.every byte mode past is)) [
        | inl here ↦ (let low = here.0 in omega (arith, low, before))
        | inr there ↦
            (let both = any_all (λ (s : Mode × Span). run.1.last < s.1.first) (λ (s : Mode × Span). Covers s.1 byte) runs after there in
            let low = both.2.0 in let range = All-head (λ r. IsByteRange r.1) run runs later.ranges in let ends = range.0 in let past_it = both.1 in omega (arith, low, before, ends, past_it))
      ])

      later_rest : from ≤ run.1.first → run.1.first ≤ run.1.last → AreLater (run.1.last + 1) runs
      later_rest start ends = record {
        rising = λ i j d less inside. later.rising (suc i) (suc j) d (omega (arith, less)) (omega (arith, inside));
        each = All-tail (λ r. IsRun modes r.1.first r.0 r.1) run runs later.each;
        ranges = All-tail (λ r. IsByteRange r.1) run runs later.ranges;
        behind = λ k d inside. (let past_it = after k d inside in omega (arith, past_it));
        every = λ byte mode past is. elim (Any-cons (λ (r : Mode × Span). Covers r.1 byte) run runs (later.every byte mode (omega (arith, past, start, ends)) is)) [
          | inl here ↦ absurd (let high = here.1 in omega (arith, high, past))
          | inr there ↦ there
        ];
      }

  -- all runs of a list are counted
  pub count_runs : (runs : List (Mode × Span)) → AreRuns modes runs → All (λ r. IsByteRange r.1) runs → length runs ≡ runs_of modes
  count_runs runs are ranges =
      sym (count_later 0 runs (omega arith) (record {
        rising = are.rising;
        each = are.each;
        ranges = ranges;
        behind = λ k d inside. omega arith;
        every = λ byte mode from is. Any-weaker (λ (r : Mode × Span). (r.0 ≡ mode) × Covers r.1 byte) (λ (r : Mode × Span). Covers r.1 byte) (λ r both. both.1) runs (are.every byte mode is);
      }) ∙ ap (λ (n : ℕ). n + length runs) (sum_zero (begins_at modes)) ∙ zero-add (length runs))

-- one mode of an owner's list, with what its book says of it
pub runs_of_same : (one other : Modes) → ((byte : ℕ) → one byte ≡ other byte) → runs_of one ≡ runs_of other
runs_of_same one other same = ap (λ (modes : Modes). runs_of modes) (λ i byte. same byte i)

-- of an untouched file nothing is counted
pub runs_untouched : (first last : ℕ) → runs_on first last untouched ≡ 0
runs_untouched first last = sum_none (last + 1) (count_within first last (λ owner. runs_of (λ byte. None)))
    (λ owner. not_counted first last (λ other. runs_of (λ byte. None)) owner (λ within. no_runs (λ byte. None) (λ byte. refl)))

pub flock_locks_untouched : (first last : ℕ) → flock_locks_on first last untouched ≡ 0
flock_locks_untouched first last = sum_none (last + 1) (count_within first last (λ owner. 0)) (λ owner. not_counted first last (λ other. 0) owner (λ within. refl))

-- the files below this number are counted
abbrev pub IsCountingFiles : State → (FileState → ℕ) → ℕ → ℕ → Type 0
IsCountingFiles S count next number = number ≡ told (sum_below next (λ file. count (S.files file)))

pub counting_no_file : (S : State) (count : FileState → ℕ) → IsCountingFiles S count 0 0
counting_no_file S count = sym (ap told (sum_zero (λ file. count (S.files file))))

pub counting_file : (S : State) (count : FileState → ℕ) (next number file here more : ℕ) → IsCountingFiles S count next number → next ≤ file
    → ((other : ℕ) → next ≤ other → other < file → count (S.files other) ≡ 0) → here ≡ told (count (S.files file)) → more ≡ told (number + here)
    → IsCountingFiles S count (file + 1) more
counting_file S count next number file here more so_far from between is sum =
    sum ∙ ap (λ (n : ℕ). told (n + here)) so_far ∙ ap (λ (n : ℕ). told (told (sum_below next (λ f. count (S.files f))) + n)) is
    ∙ told_both (sum_below next (λ f. count (S.files f))) (count (S.files file))
    ∙ sym (ap told (sum_more file (λ f. count (S.files f))
    ∙ ap (λ (n : ℕ). n + count (S.files file)) (sum_to next file (λ f. count (S.files f)) from between)))

pub counting_files_end : (S : State) (count : FileState → ℕ) (next number : ℕ) → IsCountingFiles S count next number
    → ((file : ℕ) → next ≤ file → count (S.files file) ≡ 0) → IsTold S count number
counting_files_end S count next number so_far rest = record {
  total = sum_below next (λ file. count (S.files file));
  sum = record { bound = next; beyond = rest; is = refl };
  is = so_far;
}

-- How many runs are write locks.
use Rattle.std.specs.Prelude.{min}
use Rattle.std.proofs.Common.{ℕ, ◌≡◌, ◌+◌, ◌-◌, ◌^◌, nat_lt, Bool, true, false, cond, refl, sym, ◌∙◌, List, [], ◌∷◌, ◌++◌, arith}
use Rattle.std.specs.List.{list_any}
use Rattle.std.proofs.lemmas.Bool.{ltb-false}
use Rattle.std.proofs.lemmas.List.Sums.{sum_by-append}
use Rattle.range_core.specs.declared.Mode.{Mode}
use Rattle.range_core.specs.declared.Mode.TheVariants.{Read}
use Rattle.range_core.specs.declared.Span.{Span}
use Rattle.owner_runs.specs.Tests.{conflicts, count_writes}

-- a write lock counts one
abbrev counts : Mode × Span → ℕ
counts run = cond (conflicts Read run) 1 0

-- those of two lists are counted together
pub both : (runs others : List (Mode × Span)) → count_writes (runs ++ others) ≡ count_writes runs + count_writes others
both runs others = sum_by-append counts runs others

-- a run more counts itself, wherever it stands
pub one_more : (run : Mode × Span) (front back : List (Mode × Span)) → count_writes (front ++ run ∷ back) ≡ cond (conflicts Read run) 1 0 + count_writes (front ++ back)
one_more run front back =
    let all = both front (run ∷ back) in
    let behind = both (run ∷ []) back in
    let rest = both front back in
    omega arith

none_by : (test : Bool) (run : Mode × Span) (runs : List (Mode × Span)) → conflicts Read run ≡ test → cond test 1 0 + count_writes runs ≡ 0
    → (count_writes runs ≡ 0 → list_any (conflicts Read) runs ≡ false) → list_any (conflicts Read) (run ∷ runs) ≡ false
none_by true run runs is none rest = absurd (omega arith)
none_by false run runs is none rest = let others = rest (omega arith) in rw is others

-- where none is counted, no run is a write lock
pub none_counted : (runs : List (Mode × Span)) → count_writes runs ≡ 0 → list_any (conflicts Read) runs ≡ false
none_counted [] none = refl
none_counted (run ∷ runs) none = none_by (conflicts Read run) run runs refl (sym (one_more run [] runs) ∙ none) (none_counted runs)

-- where no number is told, no run is a write lock
pub none_told : (count : ℕ) (runs : List (Mode × Span)) → count ≡ min (count_writes runs) (2 ^ 32 - 1) → nat_lt 0 count ≡ false → list_any (conflicts Read) runs ≡ false
none_told count runs told none =
    let zero = ltb-false 0 count none in
    none_counted runs (omega arith)

-- The set of the processes that wait, as waits join the list and leave it: for `Waits::leave`, `Waits::new` and `Waits::push`.
use Rattle.wait_core.proofs.Common.{common_steps, ℕ, ◌≡◌, ◌≤◌, refl, arith, Bool, true, false, not, List, [], ◌∷◌, ◌++◌, ◌==◌, ◌||◌, if◌then◌else◌, cases_eq, eqb-true, nat_tests, Wait, ProcessSet, AreThoseWaiting, is_member, no_process, without_wait_of}
use Rattle.std.specs.Prelude.{◌&&◌}
use Rattle.std.specs.List.{list_any}
use Rattle.std.proofs.lemmas.List.Folds.{list_any-append}
use Rattle.std.proofs.lemmas.Map.Views.{any-filter_same}
use Rattle.wait_core.proofs.ProcessLemmas.{none_in}

-- at first nobody waits
pub waiting_none : (set : ProcessSet) (waits : List Wait) → set ≡ no_process → waits ≡ [] → AreThoseWaiting set waits
waiting_none set waits no_one no_wait q few = rw (no_one, no_wait) (none_in q)

either_way : (one other : Bool) → (one || other) ≡ (other || (one || false))
either_way one other = grind (arith, common_steps)

same_test : (m n : ℕ) → (m == n) ≡ (n == m)
same_test m n = grind (arith, common_steps, cases_eq, nat_tests)

-- a wait joined
pub waiting_joined : (old new : ProcessSet) (waits : List Wait) (wait : Wait) → ((q : ℕ) → is_member new q ≡ (q == wait.p || is_member old q))
    → AreThoseWaiting old waits → AreThoseWaiting new (waits ++ wait ∷ [])
waiting_joined old new waits wait more known q few = grind (arith, common_steps, same_test, either_way, list_any-append)

without : (b other : Bool) → (if b then false else other) ≡ (not b && other)
without true other = refl
without false other = refl

-- what is left of the waits of a process when those of another one left
waits_left : (waits : List Wait) (p q : ℕ) → list_any (λ w. w.p == q) (without_wait_of waits p) ≡ (not (q == p) && list_any (λ w. w.p == q) waits)
waits_left waits p q = grind (arith, common_steps, any-filter_same, eqb-true)

-- the wait of a process left
pub waiting_left : (old new : ProcessSet) (waits : List Wait) (p : ℕ) → ((q : ℕ) → q ≤ 64 → is_member new q ≡ (if q == p then false else is_member old q))
    → AreThoseWaiting old waits → AreThoseWaiting new (without_wait_of waits p)
waiting_left old new waits p left known = grind (arith, common_steps, without, waits_left)

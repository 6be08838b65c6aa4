-- Waits that stand behind no other one: for `Waits::is_behind` and `Waits::push`.
use Rattle.wait_core.proofs.Common.{common_steps, ℕ, ◌≡◌, ◌≢◌, ◌<◌, ◌≤◌, ◌↔◌, ◌∙◌, sym, subst, arith, Bool, List, [], ◌∷◌, ◌++◌, All, Any, length, get_or, take, ◌==◌, if◌then◌else◌, IsTrue, IsFalse, AllPairs, eq-eqb, nat_tests, get_or_default, Policy, Queue, Wait, ProcessSet, WaitsConflict, is_member, IsWellFormed}
use Rattle.std.proofs.lemmas.List.{get_or-take, length-take-le}
use Rattle.std.proofs.lemmas.List.Quantifiers.{all_pairs_push}
use Rattle.wait_core.specs.Blocking.{IsQueued}
use Rattle.wait_core.specs.Pairs.{IsBehindNone}

-- a wait more, whose process is put into the set where it conflicts with one before it
pub behind_joined : (old new : ProcessSet) (processes : ℕ) (waits : List Wait) (wait : Wait) (is_in : Bool) (policy : Policy) → processes ≤ 64
    → All (IsWellFormed processes) waits
    → wait.p ≤ processes → All (λ w. w.p ≢ wait.p) waits → ((q : ℕ) → q ≤ 64 → is_member new q ≡ (if q == wait.p then is_in else is_member old q))
    → policy ≡ Queue → IsTrue is_in ↔ IsQueued policy waits wait → AllPairs (IsBehindNone old) waits → AllPairs (IsBehindNone new) (waits ++ wait ∷ [])
behind_joined old new processes waits wait is_in policy few well_formed process none members queue queued before =
    grind (arith, common_steps, all_pairs_push, nat_tests, eq-eqb, get_or_default)

-- a wait whose process isn't in the set conflicts with none before it
pub behind_none_at : (set : ProcessSet) (waits : List Wait) (i : ℕ) (wait : Wait) → AllPairs (IsBehindNone set) waits → i < length waits
    → get_or waits i wait ≡ wait
    → IsFalse (is_member set wait.p) → ¬ Any (λ v. WaitsConflict v wait) (take i waits)
behind_none_at set waits i wait pairs within is out (k, v, inside, v_is, conflict) =
    let low : k < i = (let short = length-take-le i waits (omega (arith, within)) in omega (arith, inside, short)) in
    let v_at : get_or waits k v ≡ v = sym (get_or-take i waits k v low) ∙ v_is in
    let wait_at : get_or waits i v ≡ wait = get_or_default waits i v wait within ∙ is in
    subst (λ (w : Wait). IsBehindNone set w wait) v_at (subst (IsBehindNone set (get_or waits k v)) wait_at (pairs k i v low within)) out conflict

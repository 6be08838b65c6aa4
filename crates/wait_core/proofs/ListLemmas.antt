-- The list of waits: its room, what it finds, and which of it are blocked; for `Waits::leave`, `Waits::list`,
-- `Waits::next_ready_among` and `Waits::push`.
use Rattle.wait_core.proofs.Common.{common_steps, ℕ, None, ◌≡◌, ◌≢◌, ◌+◌, ◌<◌, ◌≤◌, ◌∙◌, inl, inr, sym, ap, subst, refl, arith, append_assoc, true, false, Some, None, List, [], ◌∷◌, ◌++◌, All, length, get_or, zero, suc, take, drop, ◌==◌, slice_get, AllPairs, cases_eq, eqb-true, nat_tests, All-nil, All-cons, All-head, All-tail, All-weaker, slice_get-get_or, Policy, Wait, Locks, AllBlocked, IsBlocked, IsWellFormed, without_wait_of}
use Rattle.std.proofs.Common.{append-nil, map}
use Rattle.std.specs.List.{position, remove}
use Rattle.std.proofs.lemmas.Bool.Decides.{Decides-eqb}
use Rattle.std.proofs.lemmas.List.Elements.{All-map}
use Rattle.std.proofs.lemmas.List.Folds.{Any-from_list_any, find_at}
use Rattle.std.proofs.lemmas.List.Kept.{AllPairs-cons}
use Rattle.std.proofs.lemmas.List.Quantifiers.{position-Some}
use Rattle.std.proofs.lemmas.List.{get_or-map, take_more}
use Rattle.std.proofs.lemmas.Map.Made.{IsDistinct-from_AllPairs}
use Rattle.std.proofs.lemmas.Map.Steps.{length-le_from_distinct_below}
use Rattle.std.proofs.lemmas.Option.{slice_get_cases, slice_get_past}
use Rattle.wait_core.specs.Blocking.{IsNextReady}
use Rattle.wait_core.specs.WaitsView.{wait_of}
use Rattle.wait_core.proofs.AnyLemmas.{split_at}

-- where a process has no wait, each wait is another one's
pub none_of : (waits : List Wait) (p : ℕ) → wait_of waits p ≡ None → All (λ v. v.p ≢ p) waits
none_of [] p none = All-nil (λ v. v.p ≢ p)
none_of (w ∷ waits) p none = elim (cases_eq w.p p) [
  | inl same ↦ absurd (let found : (w.p == p) ≡ true = grind (arith, nat_tests) in let some = rw found at none in cc)
  | inr other ↦
      let passed : (w.p == p) ≡ false = grind (arith, nat_tests) in
      All-cons (λ v. v.p ≢ p) w waits other (none_of waits p (rw passed at none))
]

length-numbers_of : (waits : List Wait) → length (map (λ (wait : Wait). wait.p) waits) ≡ length waits
length-numbers_of [] = refl
length-numbers_of (w ∷ waits) = ap (λ n. suc n) (length-numbers_of waits)

apart_numbers : (waits : List Wait) → AllPairs (λ v w. v.p ≢ w.p) waits → AllPairs (λ (x y : ℕ). x ≢ y) (map (λ (wait : Wait). wait.p) waits)
apart_numbers [] apart i j e before within same = omega (arith, within)
apart_numbers (wait ∷ waits) apart i j e before within same =
    let count = length-numbers_of (wait ∷ waits) in
    let j_within : j < length (wait ∷ waits) = omega (arith, within, count) in
    let i_within : i < length (wait ∷ waits) = omega (arith, before, j_within) in
    apart i j wait before j_within
    (sym (get_or-map (λ (w : Wait). w.p) (wait ∷ waits) i wait e i_within) ∙ same ∙ get_or-map (λ (w : Wait). w.p) (wait ∷ waits) j wait e j_within)

-- while a process has no wait, there are fewer waits than processes
pub room_for : (processes : ℕ) (waits : List Wait) (p : ℕ) → All (IsWellFormed processes) waits → AllPairs (λ v w. v.p ≢ w.p) waits → 1 ≤ p
    → p ≤ processes → wait_of waits p ≡ None → length waits < processes
room_for processes waits p each apart from_one within none =
    let numbers : List ℕ = map (λ (v : Wait). v.p) waits in
    let others : All (λ n. p ≢ n) numbers =
    All-map (λ n. p ≢ n) (λ (v : Wait). v.p) waits
    (All-weaker (λ (v : Wait). v.p ≢ p) (λ (v : Wait). p ≢ v.p) (λ v other same. other (sym same)) waits (none_of waits p none)) in
    let positive : All (λ n. 0 ≢ n) (p ∷ numbers) =
    All-cons (λ n. 0 ≢ n) p numbers (λ zero_p. omega arith)
    (All-map (λ n. 0 ≢ n) (λ (v : Wait). v.p) waits
    (All-weaker (IsWellFormed processes) (λ (v : Wait). 0 ≢ v.p) (λ v known zero_p. (let h = known.from_one in omega arith)) waits each)) in
    let distinct = IsDistinct-from_AllPairs Decides-eqb (0 ∷ p ∷ numbers)
    (AllPairs-cons (λ (x y : ℕ). x ≢ y) 0 (p ∷ numbers) positive
    (AllPairs-cons (λ (x y : ℕ). x ≢ y) p numbers others (apart_numbers waits apart))) in
    let small : All (λ n. n < processes + 1) (0 ∷ p ∷ numbers) =
    All-cons (λ n. n < processes + 1) 0 (p ∷ numbers) (omega arith)
    (All-cons (λ n. n < processes + 1) p numbers (omega arith)
    (All-map (λ n. n < processes + 1) (λ (v : Wait). v.p) waits
    (All-weaker (IsWellFormed processes) (λ (v : Wait). v.p < processes + 1) (λ v known. (let h = known.process in omega arith)) waits each))) in
    let most : length (0 ∷ p ∷ numbers) ≤ processes + 1 =
    length-le_from_distinct_below (0 ∷ p ∷ numbers) (processes + 1) distinct
    (λ q among.
    let (k, n, inside, is, test) = Any-from_list_any (λ n. q == n) (0 ∷ p ∷ numbers) among in
    let below : n < processes + 1 = subst (λ (m : ℕ). m < processes + 1) is (small k n inside) in
    let same : q ≡ n = grind (arith, nat_tests) in omega arith) in
    let count = length-numbers_of waits in omega arith

-- one more wait that is blocked
pub AllBlocked-push : (policy : Policy) (locks : Locks) (earlier waits : List Wait) (wait : Wait) → AllBlocked policy locks earlier waits
    → IsBlocked policy locks (earlier ++ waits) wait → AllBlocked policy locks earlier (waits ++ wait ∷ [])
AllBlocked-push policy locks earlier [] wait all blocked = (subst (λ (es : List Wait). IsBlocked policy locks es wait) (append-nil earlier) blocked, tt)
AllBlocked-push policy locks earlier (v ∷ waits) wait all blocked = (
  all.0,
  AllBlocked-push policy locks (earlier ++ v ∷ []) waits wait all.1
      (subst (λ (es : List Wait). IsBlocked policy locks es wait) (sym (append_assoc earlier (v ∷ []) waits)) blocked),
)

-- one more wait that is blocked, in the list as far as it was looked at
pub blocked_so_far : (policy : Policy) (locks : Locks) (waits : List Wait) (i : ℕ) → i < length waits → AllBlocked policy locks [] (take i waits)
    → ((wait : Wait) → slice_get waits i ≡ Some wait → IsBlocked policy locks (take i waits) wait) → AllBlocked policy locks [] (take (i + 1) waits)
blocked_so_far policy locks waits i within all blocked = grind (arith, common_steps, slice_get_cases, take_more, AllBlocked-push)

-- the first wait that isn't blocked
pub first_ready : (policy : Policy) (locks : Locks) (waits : List Wait) (i : ℕ) (wait : Wait) → i < length waits → wait ≡ get_or waits i wait
    → AllBlocked policy locks [] (take i waits) → ((w : Wait) → slice_get waits i ≡ Some w → ¬ IsBlocked policy locks (take i waits) w)
    → IsNextReady policy locks waits wait
first_ready policy locks waits i wait within is all ready = record {
  before = take i waits;
  after = drop (suc i) waits;
  is_next = record {
    place = split_at waits i wait within (sym is);
    ready = ready wait (slice_get-get_or waits i wait within ∙ ap (λ (w : Wait). Some w) (sym is));
    earliest = all;
  };
}

-- no process has two waits, so each wait is the one that is found for its process
pub found_itself : (waits : List Wait) (i : ℕ) (wait : Wait) → i < length waits → get_or waits i wait ≡ wait → AllPairs (λ v w. v.p ≢ w.p) waits
    → wait_of waits wait.p ≡ Some wait
found_itself [] i wait within is apart = absurd (omega (arith, within))
found_itself (v ∷ waits) zero wait within is apart =
    let first : v ≡ wait = is in
    let found : (v.p == wait.p) ≡ true = rw first (let e : wait.p ≡ wait.p = refl in grind (arith, nat_tests)) in
    rw found (ap (λ (w : Wait). Some w) first)
found_itself (v ∷ waits) (suc i) wait within is apart =
    let inside : i < length waits = omega (arith, within) in
    let differs : v.p ≢ wait.p = subst (λ (w : Wait). v.p ≢ w.p) is (apart 0 (suc i) wait (omega arith) within) in
    let passed : (v.p == wait.p) ≡ false = grind (arith, nat_tests) in
    rw passed (found_itself waits i wait inside is
    (λ j k d before last. apart (suc j) (suc k) d (omega (arith, before)) (omega (arith, last))))

-- others than the process' waits all stay where its own goes
pub all_stay : (waits : List Wait) (p : ℕ) → All (λ v. v.p ≢ p) waits → without_wait_of waits p ≡ waits
all_stay [] p others = refl
all_stay (w ∷ waits) p others =
    let passed : (w.p == p) ≡ false = (let other = All-head (λ v. v.p ≢ p) w waits others in grind (arith, nat_tests)) in
    rw passed (ap (λ ws. w ∷ ws) (all_stay waits p (All-tail (λ v. v.p ≢ p) w waits others)))

others_left : (waits : List Wait) (place p : ℕ) (wait : Wait) → place < length waits → (get_or waits place wait).p ≡ p → AllPairs (λ v w. v.p ≢ w.p) waits
    → remove waits place ≡ without_wait_of waits p
others_left [] place p wait within is apart = absurd (omega (arith, within))
others_left (w ∷ waits) zero p wait within is apart =
    let found : (w.p == p) ≡ true = grind (arith, nat_tests) in
    rw found (sym (all_stay waits p (λ k v inside same. apart 0 (suc k) v (omega arith) (omega (arith, inside)) (is ∙ sym same))))
others_left (w ∷ waits) (suc place) p wait within is apart =
    let passed : (w.p == p) ≡ false = (let other : w.p ≢ p = λ same. apart 0 (suc place) wait (omega arith) within (same ∙ sym is) in grind
    (arith, nat_tests)) in
    rw passed (ap (λ ws. w ∷ ws) (others_left waits place p wait (omega (arith, within)) is
    (λ j k d before last. apart (suc j) (suc k) d (omega (arith, before)) (omega (arith, last)))))

-- the wait that is taken out at the place of a process is the process', and the others are left
pub taken_at : (processes : ℕ) (waits rest : List Wait) (p place : ℕ) (wait : Wait) → All (IsWellFormed processes) waits → AllPairs (λ v w. v.p ≢ w.p) waits
    → Some place ≡ position (λ w. w.p == p) waits → wait ≡ get_or waits place wait → rest ≡ remove waits place
    → (wait.p ≡ p) × IsWellFormed processes wait × (wait_of waits p ≡ Some wait) × (rest ≡ without_wait_of waits p)
taken_at processes waits rest p place wait each apart found is left =
    let at = position-Some (λ w. w.p == p) waits place wait (sym found) in
    let same : (get_or waits place wait).p ≡ p = eqb-true _ p at.1 in
    let own : wait.p ≡ p = ap (λ (w : Wait). w.p) is ∙ same in (
      own,
      subst (IsWellFormed processes) (sym is) (each place wait at.0),
      subst (λ (n : ℕ). wait_of waits n ≡ Some wait) own (found_itself waits place wait at.0 (sym is) apart),
      left ∙ others_left waits place p wait at.0 same apart,
    )

-- without a place there is no wait
pub no_wait : (waits : List Wait) (p : ℕ) → None ≡ position (λ w. w.p == p) waits → wait_of waits p ≡ None
no_wait waits p none = grind (arith, common_steps, find_at, slice_get_past)

pub none_taken : (waits : List Wait) (p : ℕ) → None ≡ position (λ w. w.p == p) waits → waits ≡ without_wait_of waits p
none_taken waits p none = sym (all_stay waits p (none_of waits p (no_wait waits p none)))

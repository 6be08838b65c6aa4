-- Sets of processes, by their bits: for `ProcessSet::with`, `Wait::blocking_by_lock`, `Wait::blocking_by_wait` and others.
use Rattle.wait_core.proofs.Common.{common_steps, ℕ, ◌≡◌, ◌≢◌, ◌<◌, ◌≤◌, ◌∙◌, ◌⊎◌, inl, inr, sym, ap, subst, refl, arith, Bool, true, false, zero, suc, ◌==◌, ◌||◌, if◌then◌else◌, IsTrue, IsFalse, cases_eq, eqb-true, eq-eqb, nat_tests, ProcessSet, no_process, is_member}
use Rattle.std.proofs.Common.{◌*◌, ◌%◌, ◌^◌, w64}
use Rattle.std.specs.Prelude.{bit_and, bit_or}
use Rattle.std.specs.Int.{bit_at, bit_not, trailing_zeros}
use Rattle.std.proofs.lemmas.Nat.{le_or_l}
use Rattle.std.proofs.lemmas.Nat.Bits.{bit_at-lt, bit_at-zero, bit_at_and, bit_at_or, bit_at_not, bit_at-trailing_zeros, bit_at_set_same, bit_at_set_other, bit_at_clear_same, bit_at_clear_other}
use Rattle.wait_core.specs.Processes.{lacking, IsFirstBeyond, IsWithin}

-- the set of no process has none
pub none_in : (q : ℕ) → is_member no_process q ≡ false
unfolding is_member
none_in zero = refl
none_in (suc k) = let bit = bit_at-zero k in rw bit refl

-- a set that isn't that of no process has one
pub some_in : (set : ProcessSet) → set.bits < 2 ^ 64 → set.bits ≢ 0 → (k : ℕ) × (k < 64) × IsTrue (is_member set (suc k))
unfolding is_member
some_in set fits some =
    let positive : 0 < set.bits = omega (arith, some) in
    let lowest = bit_at-trailing_zeros w64 set.bits positive fits in
    (trailing_zeros w64 set.bits, lowest.0, eq-eqb _ _ lowest.1)

-- a word is one set
pub same_word : (one other : ProcessSet) → one.bits ≡ other.bits → one ≡ other
same_word one other same = ap (λ (n : ℕ). record { bits = n }) same

-- the members after one more bit is set
pub member_inserted : (old new : ProcessSet) (p k : ℕ) → suc k ≡ p → k < 64 → new.bits ≡ bit_or old.bits (1 * 2 ^ k % 2 ^ 64) → (q : ℕ)
    → is_member new q ≡ (q == p || is_member old q)
unfolding is_member
member_inserted old new p k place few is zero = let no : (0 == p) ≡ false = grind (arith, nat_tests) in rw no refl
member_inserted old new p k place few is (suc j) = elim (cases_eq j k) [
  | inl same ↦
      let bit : bit_at new.bits j ≡ 1 = rw (is, same) (bit_at_set_same w64 old.bits k few) in
      let here : (suc j == p) ≡ true = eq-eqb (suc j) p (ap (λ (n : ℕ). suc n) same ∙ place) in
      rw here (eq-eqb _ _ bit)
  | inr other ↦
      let bit : bit_at new.bits j ≡ bit_at old.bits j = rw is (bit_at_set_other w64 old.bits k few j other) in
      let no : (suc j == p) ≡ false = grind (arith, nat_tests) in
      rw no (ap (λ (b : ℕ). b == 1) bit)
]

-- and after one is cleared
pub member_removed : (old new : ProcessSet) (p k : ℕ) → suc k ≡ p → k < 64 → new.bits ≡ bit_and old.bits (bit_not w64 (1 * 2 ^ k % 2 ^ 64)) → (q : ℕ)
    → q ≤ 64 → is_member new q ≡ (if q == p then false else is_member old q)
unfolding is_member
member_removed old new p k place few is zero within = let no : (0 == p) ≡ false = grind (arith, nat_tests) in rw no refl
member_removed old new p k place few is (suc j) within = elim (cases_eq j k) [
  | inl same ↦
      let bit : bit_at new.bits j ≡ 0 = rw (is, same) (bit_at_clear_same w64 old.bits k few) in
      let here : (suc j == p) ≡ true = eq-eqb (suc j) p (ap (λ (n : ℕ). suc n) same ∙ place) in
      rw (here, bit) refl
  | inr other ↦
      let bit : bit_at new.bits j ≡ bit_at old.bits j = rw is (bit_at_clear_other w64 old.bits k few j (omega (arith, within)) other) in
      let no : (suc j == p) ≡ false = grind (arith, nat_tests) in
      rw no (ap (λ (b : ℕ). b == 1) bit)
]

-- a process more makes a larger word, which lacks less
pub grown : (old new : ProcessSet) (p k : ℕ) → suc k ≡ p → k < 64 → new.bits ≡ bit_or old.bits (1 * 2 ^ k % 2 ^ 64) → old.bits < 2 ^ 64
    → IsFalse (is_member old p) → lacking new < lacking old
unfolding is_member lacking
grown old new p k place few is fits missing =
    let least : old.bits ≤ new.bits = rw is (le_or_l old.bits (1 * 2 ^ k % 2 ^ 64)) in
    let set : bit_at new.bits k ≡ 1 = rw is (bit_at_set_same w64 old.bits k few) in
    let clear : (bit_at old.bits k == 1) ≡ false = subst (λ (n : ℕ). is_member old n ≡ false) (sym place) missing in
    elim (cases_eq old.bits new.bits) [
      | inl same ↦ absurd (let there : (bit_at old.bits k == 1) ≡ true = eq-eqb _ _ (ap (λ (n : ℕ). bit_at n k) same ∙ set) in cc)
      | inr differs ↦ omega (arith, least, differs, fits)
    ]

one_of_two : (a b : ℕ) → a < 2 → b < 2 → (Prim.Native.Nat.max a b == 1) ≡ (a == 1 || b == 1)
one_of_two a b h h2 = grind (arith, common_steps)

-- the members of the one set and of the other
pub member_union : (one other both : ProcessSet) → both.bits ≡ bit_or one.bits other.bits → (q : ℕ) → is_member both q ≡ (is_member one q || is_member other q)
unfolding is_member
member_union one other both h q = grind (arith, common_steps, bit_at_or, one_of_two, bit_at-lt)

-- where a bit isn't left, a member of the one set is one of the other
within_at : (set other : ProcessSet) (k : ℕ) → other.bits < 2 ^ 64 → k < 64 → bit_at (bit_and set.bits (bit_not w64 other.bits)) k ≡ 0
    → IsTrue (is_member set (suc k)) → IsTrue (is_member other (suc k))
unfolding is_member
within_at set other k fits few left known =
    let one : bit_at set.bits k ≡ 1 = eqb-true _ _ known in
    let both = bit_at_and set.bits (bit_not w64 other.bits) k in
    let inverse = bit_at_not w64 other.bits k fits few in
    let small = bit_at-lt other.bits k in
    eq-eqb _ _ (omega (arith, one, left, both, inverse, small))

-- where no bit is left, each is
pub all_within : (set other : ProcessSet) → other.bits < 2 ^ 64 → bit_and set.bits (bit_not w64 other.bits) ≡ 0 → IsWithin set other
unfolding is_member
all_within set other fits none zero few known = known
all_within set other fits none (suc k) few known =
    let left : bit_at (bit_and set.bits (bit_not w64 other.bits)) k ≡ 0 = rw none (bit_at-zero k) in
    within_at set other k fits (omega (arith, few)) left known

-- where none of less number is left, each of less number is
least_at : (set other : ProcessSet) (k : ℕ) → other.bits < 2 ^ 64 → k < 64
    → ((i : ℕ) → i < k → bit_at (bit_and set.bits (bit_not w64 other.bits)) i ≡ 0) → (q : ℕ) → q < suc k → IsTrue (is_member set q) → IsTrue (is_member other q)
unfolding is_member
least_at set other k fits few below zero less known = known
least_at set other k fits few below (suc i) less known = within_at set other i fits (omega (arith, less, few)) (below i (omega (arith, less))) known

-- the lowest bit that is left is the first member of the one set that isn't in the other
pub beyond_at : (set other : ProcessSet) (p k : ℕ) → other.bits < 2 ^ 64 → suc k ≡ p → k < 64 → bit_at (bit_and set.bits (bit_not w64 other.bits)) k ≡ 1
    → ((i : ℕ) → i < k → bit_at (bit_and set.bits (bit_not w64 other.bits)) i ≡ 0) → IsFirstBeyond set other p
unfolding is_member
beyond_at set other p k fits place few left below =
    let both = bit_at_and set.bits (bit_not w64 other.bits) k in
    let inverse = bit_at_not w64 other.bits k fits few in
    let one : bit_at set.bits k ≡ 1 = (let small = bit_at-lt set.bits k in omega (arith, left, both, inverse, small)) in
    let clear : bit_at other.bits k ≡ 0 = (let small = bit_at-lt other.bits k in omega (arith, left, both, inverse, small)) in record {
      from_one = omega (arith, place);
      few = omega (arith, place, few);
      known = subst (λ (n : ℕ). is_member set n ≡ true) place (eq-eqb _ _ one);
      beyond = subst (λ (n : ℕ). is_member other n ≡ false) place (rw clear refl);
      least = (λ q less known. least_at set other k fits few below q (omega (arith, less, place)) known);
    }

pub or_cases : (a b : Bool) → (a || b) ≡ true → (a ≡ true) ⊎ (b ≡ true)
or_cases true b is = inl refl
or_cases false b is = inr is

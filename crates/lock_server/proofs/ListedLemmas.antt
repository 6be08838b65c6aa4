-- The next owner in the lists of a book: for `LockFile::next_listed`.
use Rattle.lock_server.proofs.Common.{ℕ, suc, ◌≡◌, ◌<◌, ◌≤◌, ◌∙◌, ap, sym, refl, arith, subst, true, false, All, List, [], ◌∷◌, Option, Some, None, get_or, IfNone, lookup, Bound, cases_Bool, nat_tests, common_steps, All-cons, All-head, All-tail, OwnerRuns, Owner, Process, Description, ByteModes, modes_in_list, is_same_owner, number_behind}
use Rattle.std.specs.declared.ops.Bound.TheVariants.{Included, Excluded}
use Rattle.lock_book.specs.OwnerLists.{AreRising}
use Rattle.lock_book.specs.Owners.{IsBefore, is_from}

-- from where on the owners are looked through, to find those beyond one
abbrev pub bound_beyond : Option ℕ → Bound Owner
bound_beyond None = Included (Description 0)
bound_beyond (Some number) = Excluded (Description number)

-- just these owners are beyond it
from_bound : (above : Option ℕ) (number : ℕ) → number_behind above ≤ number → is_from (bound_beyond above) (Description number) ≡ true
from_bound None number from = grind (arith, common_steps, nat_tests)
from_bound (Some least) number from = grind (arith, common_steps, nat_tests)

beyond_bound : (above : Option ℕ) (number : ℕ) → is_from (bound_beyond above) (Description number) ≡ true → number_behind above ≤ number
beyond_bound None number from = omega arith
beyond_bound (Some least) number from = grind (arith, common_steps, nat_tests)

process_before : (above : Option ℕ) (process : ℕ) → is_from (bound_beyond above) (Process process) ≡ true → ⊥
process_before None process from = let h : false ≡ true = from in cc
process_before (Some least) process from = let h : false ≡ true = from in cc

pub none_anyhow : {A P : Type 0} (found : Option A) → P → IfNone found P
none_anyhow None holds = holds
none_anyhow (Some x) holds = tt

-- where no list is the owner's, none is found
none_found : (owner : Owner) (lists : List (Owner × OwnerRuns)) → All (λ one. is_same_owner owner one.0 ≡ false) lists
    → lookup (is_same_owner owner) lists ≡ None
none_found owner [] apart = refl
none_found owner (one ∷ lists) apart =
    rw (All-head (λ other. is_same_owner owner other.0 ≡ false) one lists apart)
    (none_found owner lists (All-tail (λ other. is_same_owner owner other.0 ≡ false) one lists apart))

-- a lesser owner is not one that comes behind another
lesser_apart : (number found : ℕ) (other : Owner) → number < found → IsBefore (Description found) other → is_same_owner (Description number) other ≡ false
lesser_apart number found other lesser behind = grind (arith, common_steps, cases_Bool, nat_tests)

lesser_itself : (number found : ℕ) → number < found → is_same_owner (Description number) (Description found) ≡ false
lesser_itself number found lesser = grind (arith, common_steps, cases_Bool, nat_tests)

-- nor is its list among those that rise from there
none_lesser : (number found : ℕ) (one : Owner × OwnerRuns) (rest : List (Owner × OwnerRuns)) → one.0 ≡ Description found → number < found
    → AreRising (one ∷ rest) → lookup (is_same_owner (Description number)) (one ∷ rest) ≡ None
none_lesser number found one rest at lesser rising =
    none_found (Description number) (one ∷ rest)
    (All-cons (λ other. is_same_owner (Description number) other.0 ≡ false) one rest
    (subst (λ (o : Owner). is_same_owner (Description number) o ≡ false) (sym at) (lesser_itself number found lesser))
    (λ k d within.
    let behind : IsBefore one.0 (get_or rest k d).0 = rising 0 (suc k) d (omega arith) (omega arith) in
    lesser_apart number found (get_or rest k d).0 lesser (subst (λ (o : Owner). IsBefore o (get_or rest k d).0) at behind)))

-- lists that stand for these modes from a bound on
module _ (lists : List (Owner × OwnerRuns)) (modes : ByteModes) (above : Option ℕ) (first : Bound Owner) (is : first ≡ bound_beyond above)
    (stand : (owner : Owner) (byte : ℕ) → is_from first owner ≡ true → modes_in_list (lookup (is_same_owner owner) lists) byte ≡ modes owner byte) where
  inside : (number : ℕ) → number_behind above ≤ number → is_from first (Description number) ≡ true
  inside number from = subst (λ (b : Bound Owner). is_from b (Description number) ≡ true) (sym is) (from_bound above number from)

  free : (number byte : ℕ) → number_behind above ≤ number → lookup (is_same_owner (Description number)) lists ≡ None → modes (Description number) byte ≡ None
  free number byte from none = sym (stand (Description number) byte (inside number from)) ∙ ap (λ (l : Option OwnerRuns). modes_in_list l byte) none

  -- without a list there is no lock
  pub none_listed : lists ≡ [] → (number byte : ℕ) → number_behind above ≤ number → modes (Description number) byte ≡ None
  none_listed none number byte from = free number byte from (ap (λ (l : List (Owner × OwnerRuns)). lookup (is_same_owner (Description number)) l) none)

  -- the first list is that of the least owner
  pub least_listed : (one : Owner × OwnerRuns) (rest : List (Owner × OwnerRuns)) → lists ≡ one ∷ rest → AreRising lists → (found : ℕ)
      → one.0 ≡ Description found → (number byte : ℕ) → number_behind above ≤ number → number < found → modes (Description number) byte ≡ None
  least_listed one rest split rising found at number byte from lesser =
      free number byte from
      (ap (λ (l : List (Owner × OwnerRuns)). lookup (is_same_owner (Description number)) l) split
      ∙ none_lesser number found one rest at lesser (subst (λ (l : List (Owner × OwnerRuns)). AreRising l) split rising))

-- the owner of the first list is from the bound on
module _ (lists : List (Owner × OwnerRuns)) (above : Option ℕ) (first : Bound Owner) (is : first ≡ bound_beyond above)
    (from : All (λ one. is_from first one.0 ≡ true) lists) (one : Owner × OwnerRuns) (rest : List (Owner × OwnerRuns)) (split : lists ≡ one ∷ rest) where
  within : is_from (bound_beyond above) one.0 ≡ true
  within =
      subst (λ (b : Bound Owner). is_from b one.0 ≡ true) is
      (All-head (λ other. is_from first other.0 ≡ true) one rest
      (subst (λ (l : List (Owner × OwnerRuns)). All (λ other. is_from first other.0 ≡ true) l) split from))

  pub first_beyond : (found : ℕ) → one.0 ≡ Description found → number_behind above ≤ found
  first_beyond found at = beyond_bound above found (subst (λ (o : Owner). is_from (bound_beyond above) o ≡ true) at within)

  pub first_no_process : (process : ℕ) → one.0 ≡ Process process → ⊥
  first_no_process process at = process_before above process (subst (λ (o : Owner). is_from (bound_beyond above) o ≡ true) at within)

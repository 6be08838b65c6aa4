-- The order and the equality that are derived on owners are those of the definition: for `Book::blocked`,
-- `Book::first_hit` and `Book::process_blocks`.
use Rattle.lock_book.proofs.Common.{ℕ, suc, ◌≡◌, ◌≢◌, ◌<◌, ◌==◌, ◌∙◌, sym, subst, refl, arith, Bool, true, false, List, [], ◌∷◌, All, nat_cmp, is_at, AllByRecursion, AllPairs, IsStrictlySortedBy, keys_of, lookup, All-head, All-tail, Less, common_steps, nat_tests, Owner, Process, Description, is_same_owner, IsBefore}
use Rattle.std.specs.Ordering.{is_eq}
use Rattle.std.specs.declared.cmp.Ordering.{Ordering}
use Rattle.lock_book.specs.contracts.OwnerOrd.TheImpl as order
use Rattle.lock_book.specs.contracts.OwnerPartialEq.TheImpl as equality

-- the order that is derived on owners
abbrev pub owner_cmp : Owner → Owner → Ordering
owner_cmp one other = (order.cmp-value).it one other

pub is_eq-nat_cmp : (a b : ℕ) → is_eq (nat_cmp a b) ≡ (a == b)
is_eq-nat_cmp a b = grind (arith, common_steps)

-- its test for equality is the definition's
pub is_eq-owner_cmp : (one other : Owner) → is_eq (owner_cmp one other) ≡ is_same_owner one other
is_eq-owner_cmp one other = grind (arith, common_steps, is_eq-nat_cmp)

-- the equality that is derived on owners
abbrev pub owner_eq : Owner → Owner → Bool
owner_eq one other = (equality.eq-value).it one other

-- is the definition's
pub owner_eq-same : (one other : Owner) → owner_eq one other ≡ is_same_owner one other
owner_eq-same one other = grind (arith, common_steps)

-- two tests that agree find the same entry
pub lookup_agree : {K X : Type 0} (p q : K → Bool) → ((k : K) → p k ≡ q k) → (es : List (K × X)) → lookup p es ≡ lookup q es
lookup_agree p q agree [] = refl
lookup_agree p q agree (e ∷ es) = rw (agree e.0, lookup_agree p q agree es)

pub lookup-owner_cmp : {X : Type 0} (owner : Owner) (es : List (Owner × X)) → lookup (is_at (owner_cmp owner)) es ≡ lookup (is_same_owner owner) es
lookup-owner_cmp owner es = lookup_agree (is_at (owner_cmp owner)) (is_same_owner owner) (is_eq-owner_cmp owner) es

pub lookup-nat_cmp : {X : Type 0} (n : ℕ) (es : List (ℕ × X)) → lookup (is_at (nat_cmp n)) es ≡ lookup (λ m. n == m) es
lookup-nat_cmp n es = lookup_agree (is_at (nat_cmp n)) (λ m. n == m) (is_eq-nat_cmp n) es

-- owners that the test takes for one are one
pub same_owner : (one other : Owner) → is_same_owner one other ≡ true → one ≡ other
same_owner one other h = grind (arith, common_steps, nat_tests)

pub is_same_owner-self : (owner : Owner) → is_same_owner owner owner ≡ true
is_same_owner-self (Process p) = grind (arith, nat_tests)
is_same_owner-self (Description d) = grind (arith, nat_tests)

-- what the derived equality tells
pub same_from_eq : (one other : Owner) → owner_eq one other ≡ true → one ≡ other
same_from_eq one other same = same_owner one other (sym (owner_eq-same one other) ∙ same)

pub different_from_eq : (one other : Owner) → owner_eq one other ≡ false → one ≢ other
different_from_eq one other different e = grind (arith, common_steps, owner_eq-same, is_same_owner-self)

-- the derived order is the definition's
pub less_from_nat : (a b : ℕ) → nat_cmp a b ≡ Less → a < b
less_from_nat a b less = grind (arith, common_steps)

less_from_lt : (a b : ℕ) → a < b → nat_cmp a b ≡ Less
less_from_lt a b less = grind (arith, common_steps)

pub IsBefore-from_less : (one other : Owner) → owner_cmp one other ≡ Less → IsBefore one other
IsBefore-from_less one other h = grind (arith, common_steps, less_from_nat)

less_from_IsBefore : (one other : Owner) → IsBefore one other → owner_cmp one other ≡ Less
less_from_IsBefore one other h = grind (arith, common_steps, less_from_lt)

less_than_each : {X : Type 0} (owner : Owner) (es : List (Owner × X)) → All (λ e. IsBefore owner e.0) es
    → AllByRecursion (λ other. owner_cmp owner other ≡ Less) (keys_of es)
less_than_each owner [] all = tt
less_than_each owner (e ∷ es) all =
    (less_from_IsBefore owner e.0 (All-head (λ f. IsBefore owner f.0) e es all), less_than_each owner es (All-tail (λ f. IsBefore owner f.0) e es all))

-- so are owners that rise
pub sorted_from_rising : {X : Type 0} (es : List (Owner × X)) → AllPairs (λ one other. IsBefore one.0 other.0) es → IsStrictlySortedBy owner_cmp (keys_of es)
unfolding IsStrictlySortedBy
sorted_from_rising [] rising = tt
sorted_from_rising (e ∷ es) rising = (
  less_than_each e.0 es (λ k d within. rising 0 (suc k) d (omega arith) (omega arith)),
  sorted_from_rising es (λ i j d less within. rising (suc i) (suc j) d (omega arith) (omega arith)),
)

-- two owners can't each come before the other
pub IsBefore-asymmetric : (one other : Owner) → IsBefore one other → IsBefore other one → ⊥
IsBefore-asymmetric one other h h2 = grind (arith, common_steps)

-- the order is of owners that are the same
pub IsBefore-same : (a b c d : Owner) → a ≡ c → d ≡ b → IsBefore a b → IsBefore c d
IsBefore-same a b c d first second before =
    subst (λ (o : Owner). IsBefore o d) first (subst (λ (o : Owner). IsBefore a o) (sym second) before)

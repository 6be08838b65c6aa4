-- Facts on owners.
use Rattle.interval_index.proofs.Common.{◌≡◌, ◌≢◌, ℕ, ◌<◌, ◌⊎◌, Bool, true, false, ◌&&◌, ◌||◌, leb, Option, Some, None, refl, sym, ap, ◌∙◌, arith, nat_tests, Holder, is_same_holder, is_by}
use Rattle.std.proofs.Common.{ltb, eqb}
use Rattle.std.specs.Option.{option_eq}
use Rattle.interval_index.specs.Holders.{IsBeforeHolder}

same_parts : (a b c d : ℕ) → (eqb a b && eqb c d) ≡ true → (a ≡ b) × (c ≡ d)
same_parts a b c d h = (grind (arith, nat_tests), grind (arith, nat_tests))

same_as_itself : (a b : ℕ) → (eqb a a && eqb b b) ≡ true
same_as_itself a b = grind (arith, nat_tests)

-- where the test passes, the owners are one
pub same_holds : (holder other : Holder) → is_same_holder holder other ≡ true → holder ≡ other
same_holds holder other h =
    let e = same_parts holder.class other.class holder.number other.number h in
    ap (λ c. record { class = c; number = holder.number }) e.0 ∙ ap (λ n. record { class = other.class; number = n }) e.1

-- where it fails, they are two
pub another_holds : (holder other : Holder) → is_same_holder holder other ≡ false → other ≢ holder
another_holds holder other h same =
    let t : is_same_holder holder other ≡ true = ap (is_same_holder holder) same ∙ same_as_itself holder.class holder.number in
    absurd (cc)

another_at : (holder other : Holder) (b : Bool) → is_same_holder holder other ≡ b → other ≢ holder → is_same_holder holder other ≡ false
another_at holder other true e n = absurd (n (sym (same_holds holder other e)))
another_at holder other false e n = e

-- and the other way round
pub another_found : (holder other : Holder) → other ≢ holder → is_same_holder holder other ≡ false
another_found holder other n = another_at holder other (is_same_holder holder other) refl n

-- the same of owners that there may be
pub same_option : (holder other : Option Holder) → option_eq is_same_holder holder other ≡ true → holder ≡ other
same_option None None h = refl
same_option None (Some b) h = absurd (cc)
same_option (Some a) None h = absurd (cc)
same_option (Some a) (Some b) h = ap Some (same_holds a b h)

pub another_option : (holder other : Option Holder) → option_eq is_same_holder holder other ≡ false → holder ≢ other
another_option None None h same = absurd (cc)
another_option None (Some b) h same = absurd (cc)
another_option (Some a) None h same = absurd (cc)
another_option (Some a) (Some b) h same = let e : b ≡ a = cc in another_holds a b h e

-- of owners (a, b) and (c, d): the one comes no later
abbrev by : ℕ → ℕ → ℕ → ℕ → Bool
by a b c d = ltb a c || (eqb a c && leb b d)

numbers_by_itself : (a b : ℕ) → by a b a b ≡ true
numbers_by_itself a b = grind (arith, nat_tests)

numbers_by_through : (a b c d e f : ℕ) → by a b c d ≡ true → by c d e f ≡ true → by a b e f ≡ true
numbers_by_through a b c d e f h i = grind (arith, nat_tests)

numbers_by_either : (a b c d : ℕ) → by a b c d ≡ false → by c d a b ≡ true
numbers_by_either a b c d h = grind (arith, nat_tests)

numbers_by_both : (a b c d : ℕ) → by a b c d ≡ true → by c d a b ≡ true → (a ≡ c) × (b ≡ d)
numbers_by_both a b c d h i = (grind (arith, nat_tests), grind (arith, nat_tests))

numbers_not_before : (a b c d : ℕ) → by a b c d ≡ true → (c < a) ⊎ ((c ≡ a) × (d < b)) → ⊥
numbers_not_before a b c d h i = grind (arith, nat_tests)

-- each owner comes no later than itself
pub by_itself : (holder : Holder) → is_by holder holder ≡ true
by_itself holder = numbers_by_itself holder.class holder.number

-- what comes no later than one that comes no later than a third comes no later than that
pub by_through : (holder other bound : Holder) → is_by holder other ≡ true → is_by other bound ≡ true → is_by holder bound ≡ true
by_through holder other bound h i = numbers_by_through holder.class holder.number other.class other.number bound.class bound.number h i

-- of two owners one comes no later than the other
pub by_either : (holder other : Holder) → is_by holder other ≡ false → is_by other holder ≡ true
by_either holder other h = numbers_by_either holder.class holder.number other.class other.number h

-- two that come no later than each other are one
pub by_both : (holder other : Holder) → is_by holder other ≡ true → is_by other holder ≡ true → holder ≡ other
by_both holder other h i =
    let e = numbers_by_both holder.class holder.number other.class other.number h i in
    ap (λ c. record { class = c; number = holder.number }) e.0 ∙ ap (λ n. record { class = other.class; number = n }) e.1

-- what comes no later than another doesn't come behind it
pub by_not_before : (holder other : Holder) → is_by holder other ≡ true → IsBeforeHolder other holder → ⊥
by_not_before holder other h i = numbers_not_before holder.class holder.number other.class other.number h i

numbers_not_both : (a b c d : ℕ) → (a < c) ⊎ ((a ≡ c) × (b < d)) → (c < a) ⊎ ((c ≡ a) × (d < b)) → ⊥
numbers_not_both a b c d h i = grind arith

-- no owner comes before one that comes before it
pub not_both_before : (holder other : Holder) → IsBeforeHolder holder other → IsBeforeHolder other holder → ⊥
not_both_before holder other h i = numbers_not_both holder.class holder.number other.class other.number h i

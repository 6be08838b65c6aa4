-- Lists of numbers that rise: for `Releases::list_files` and `Releases::sort_descriptions`.
use Rattle.fd_table.proofs.Common.{common_steps, ◌≡◌, ℕ, ◌+◌, ◌<◌, false, eqb, List, [], ◌∷◌, ◌++◌, length, get_or, ap, subst, ◌∙◌, inl, inr, arith, Contains, IsStrictlyIncreasing, cases_eq, cases_lt, eq-eqb, ne_eqb, length_push, AreExactly}
use Rattle.std.specs.List.{IsDistinct}
use Rattle.std.proofs.lemmas.List.{get_or_append_left, get_or_push, get_or_default}
use Rattle.std.proofs.lemmas.List.Elements.{Contains-get_or, Contains-append_left, Contains-push, Contains-push_cases}
use Rattle.std.proofs.lemmas.Map.Keys.{apart_from_distinct, IsDistinct-from_apart}

-- equality of numbers is tested both ways
pub eqb-flips : (x y : ℕ) → eqb x y ≡ eqb y x
eqb-flips x y = grind (arith, common_steps, cases_eq, eq-eqb, ne_eqb)

-- a rising list and a number above all of it
pub rising_push : (xs : List ℕ) (y : ℕ) → IsStrictlyIncreasing xs → ((x : ℕ) → Contains xs x → x < y) → IsStrictlyIncreasing (xs ++ y ∷ [])
rising_push xs y rising below k within =
    let len = length_push xs y in
    elim (cases_lt (k + 1) (length xs)) [
      | inl inside ↦
          omega (arith, rising k inside, get_or_append_left xs (y ∷ []) 0 k (omega arith), get_or_append_left xs (y ∷ []) 0 (k + 1) inside)
      | inr last ↦
          omega (arith, below (get_or xs k 0) (Contains-get_or xs k 0 (omega (arith, len))), get_or_append_left xs (y ∷ []) 0 k (omega (arith, len)), get_or_push xs y 0 (k + 1) (omega (arith, len)))
    ]

-- different numbers and another one
pub distinct_push : (xs : List ℕ) (y : ℕ) → IsDistinct eqb xs → (Contains xs y → ⊥) → IsDistinct eqb (xs ++ y ∷ [])
distinct_push xs y distinct absent =
    IsDistinct-from_apart eqb (xs ++ y ∷ [])
    (λ i j d before within.
    let len = length_push xs y in
    elim (cases_lt j (length xs)) as (λ _. eqb (get_or (xs ++ y ∷ []) i d) (get_or (xs ++ y ∷ []) j d) ≡ false) [
      | inl inside ↦
          ap (λ x. eqb x (get_or (xs ++ y ∷ []) j d)) (get_or_append_left xs (y ∷ []) d i (omega arith))
          ∙ ap (eqb (get_or xs i d)) (get_or_append_left xs (y ∷ []) d j inside)
          ∙ apart_from_distinct eqb xs i j d distinct before inside
      | inr last ↦
          ap (λ x. eqb x (get_or (xs ++ y ∷ []) j d)) (get_or_append_left xs (y ∷ []) d i (omega (arith, len)))
          ∙ ap (eqb (get_or xs i d)) (get_or_push xs y d j (omega (arith, len)))
          ∙ ne_eqb (get_or xs i d) y (λ same. absent (i, omega (arith, len), get_or_default xs i y d (omega (arith, len)) ∙ same))
    ])

-- the numbers below the next one of which the fact holds, where it holds of this one
pub AreExactly-more : (numbers : List ℕ) (Fact : ℕ → Type 0) (n : ℕ) → AreExactly numbers (λ x. (x < n) × Fact x) → Fact n
    → AreExactly (numbers ++ n ∷ []) (λ x. (x < n + 1) × Fact x)
AreExactly-more numbers Fact n h holds =
    record {
      rising = rising_push numbers n h.rising (λ x there. ((h.each x).0 there).0);
      each = λ x. (
        λ there.
            elim (Contains-push_cases numbers n x there) [
              | inl before ↦ let at = (h.each x).0 before in (omega (arith, at.0), at.1)
              | inr same ↦ (omega (arith, same), subst Fact same holds)
            ],
        λ fact.
            elim (cases_lt x n) [
              | inl below ↦ Contains-append_left numbers (n ∷ []) x ((h.each x).1 (below, fact.1))
              | inr last ↦ let same : n ≡ x = omega (arith, fact.0) in subst (Contains (numbers ++ n ∷ [])) same (Contains-push numbers n)
            ],
      );
    }

-- and where it doesn't hold of this one
pub AreExactly-skip : (numbers : List ℕ) (Fact : ℕ → Type 0) (n : ℕ) → AreExactly numbers (λ x. (x < n) × Fact x) → ¬ Fact n
    → AreExactly numbers (λ x. (x < n + 1) × Fact x)
AreExactly-skip numbers Fact n h fails =
    record {
      rising = h.rising;
      each = λ x. (
        λ there. let at = (h.each x).0 there in (omega (arith, at.0), at.1),
        λ fact.
            elim (cases_lt x n) [
              | inl below ↦ (h.each x).1 (below, fact.1)
              | inr last ↦ let same : x ≡ n = omega (arith, fact.0) in absurd (fails (subst Fact same fact.1))
            ],
      );
    }

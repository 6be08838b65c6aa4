-- What the closing of descriptors releases is determined.
use Rattle.lock_manager.proofs.Common.{common_steps, ◌≡◌, ℕ, zero, suc, ◌<◌, List, [], ◌∷◌, Contains, refl, sym, subst, ◌⊎◌, inl, inr, Bool, arith, ◌∙◌, Released, ClosesFile, AreReleased, Descriptors, SameDescriptors}
use Rattle.std.proofs.Common.{AllPairs}
use Rattle.std.proofs.lemmas.List.Kept.{AllPairs-from_increasing}
use Rattle.fd_table.specs.Releases.{AreExactly, ClosesDescription}

-- descriptors that say the same at each place are the same
pub same_everywhere : (D E : Descriptors) → SameDescriptors D E → D ≡ E
same_everywhere D E h = grind (arith, common_steps)

-- those that agree with the same ones are the same
pub both_same : (D E old : Descriptors) → SameDescriptors D old → SameDescriptors E old → D ≡ E
both_same D E old h k = same_everywhere D old h ∙ sym (same_everywhere E old k)

-- each number is below all later ones
abbrev Rise : List ℕ → Type 0
Rise numbers = AllPairs (λ a b. a < b) numbers

rest_rises : (x : ℕ) (xs : List ℕ) → Rise (x ∷ xs) → Rise xs
rest_rises x xs rising i j d below within = rising (suc i) (suc j) d (omega arith) (omega arith)

first_below : (x : ℕ) (xs : List ℕ) (z : ℕ) → Rise (x ∷ xs) → Contains xs z → x < z
first_below x xs z rising h = subst (λ m. x < m) h.2 (rising zero (suc h.0) z (omega arith) (omega (arith, h.1)))

contains_first : (x : ℕ) (xs : List ℕ) → Contains (x ∷ xs) x
contains_first x xs = (zero, omega arith, refl)

contains_later : (x : ℕ) (xs : List ℕ) (z : ℕ) → Contains xs z → Contains (x ∷ xs) z
contains_later x xs z h = (suc h.0, omega (arith, h.1), h.2)

first_or_later : (x : ℕ) (xs : List ℕ) (z : ℕ) → Contains (x ∷ xs) z → (x ≡ z) ⊎ Contains xs z
first_or_later x xs z h = grind (arith, common_steps)

-- a member of a rising list is the first number or lies above it
first_or_above : (x : ℕ) (xs : List ℕ) (z : ℕ) → Rise (x ∷ xs) → Contains (x ∷ xs) z → (x ≡ z) ⊎ (x < z)
first_or_above x xs z rising h = grind (arith, common_steps, first_or_later, first_below x xs z rising)

-- where each member of one list is one of the other, and both begin with the same number, so is each member of the rest
rest_within : (x : ℕ) (xs ys : List ℕ) → Rise (x ∷ xs) → ((z : ℕ) → Contains (x ∷ xs) z → Contains (x ∷ ys) z) → (z : ℕ) → Contains xs z → Contains ys z
rest_within x xs ys rising within z h = grind (arith, common_steps, first_below x xs z rising h, within z (contains_later x xs z h), first_or_later x ys z)

-- rising lists with the same members are the same
rising_unique : (xs ys : List ℕ) → Rise xs → Rise ys → ((z : ℕ) → Contains xs z → Contains ys z) → ((z : ℕ) → Contains ys z → Contains xs z) → xs ≡ ys
rising_unique [] [] rising rising' there back = refl
rising_unique [] (y ∷ ys) rising rising' there back = absurd (omega (arith, (back y (contains_first y ys)).1))
rising_unique (x ∷ xs) [] rising rising' there back = absurd (omega (arith, (there x (contains_first x xs)).1))
rising_unique (x ∷ xs) (y ∷ ys) rising rising' there back =
    let first : x ≡ y = firsts (first_or_above y ys x rising' (there x (contains_first x xs))) (first_or_above x xs y rising (back y (contains_first y ys))) in
    let rest : xs ≡ ys =
    rising_unique xs ys (rest_rises x xs rising) (rest_rises y ys rising')
    (rest_within x xs ys rising (subst (λ v. (z : ℕ) → Contains (x ∷ xs) z → Contains (v ∷ ys) z) (sym first) there))
    (rest_within x ys xs (subst (λ v. Rise (v ∷ ys)) (sym first) rising') (subst (λ v. (z : ℕ) → Contains (v ∷ ys) z → Contains (x ∷ xs) z) (sym first) back))
    in cc
  where
    firsts : (y ≡ x) ⊎ (y < x) → (x ≡ y) ⊎ (x < y) → x ≡ y
    firsts (inl same) other = sym same
    firsts (inr below) (inl same) = same
    firsts (inr below) (inr above) = absurd (omega arith)

-- the numbers of which a fact holds are one list
pub AreExactly-unique : (fact : ℕ → Type 0) (xs ys : List ℕ) → AreExactly xs fact → AreExactly ys fact → xs ≡ ys
AreExactly-unique fact xs ys h k =
    rising_unique xs ys (AllPairs-from_increasing xs h.rising) (AllPairs-from_increasing ys k.rising)
    (λ z there. (k.each z).1 ((h.each z).0 there)) (λ z there. (h.each z).1 ((k.each z).0 there))

-- what is released is determined
pub AreReleased-unique : (before after : Descriptors) (p : ℕ) (closed : ℕ → Bool) (released other : Released)
    → AreReleased before after p closed released → AreReleased before after p closed other → released ≡ other
AreReleased-unique before after p closed released other h k =
    λ i. record {
      files = AreExactly-unique (ClosesFile before p closed) released.files other.files h.files k.files i;
      descriptions = AreExactly-unique (ClosesDescription before after) released.descriptions other.descriptions h.descriptions k.descriptions i;
    }

-- what a closing releases and leaves is determined
pub closing-unique : (before base : Descriptors) (p : ℕ) (closed : ℕ → Bool) (released : Released) (D : Descriptors) (other : Released) (E : Descriptors)
    → SameDescriptors D base → AreReleased before D p closed released → SameDescriptors E base → AreReleased before E p closed other
    → (released ≡ other) × (D ≡ E)
closing-unique before base p closed released D other E leaves h leaves' k =
    let same : D ≡ E = both_same D E base leaves leaves' in
    (AreReleased-unique before E p closed released other (subst (λ after. AreReleased before after p closed released) same h) k, same)

-- Lists in rising order that say all that has a property: there is one, and it may be put together of pieces.
use Rattle.lock_server.proofs.Common.{◌≡◌, ◌<◌, ◌∙◌, sym, subst, refl, arith, inl, inr, zero, suc, ℕ, List, [], ◌∷◌, ◌++◌, All, length, map, get_or, common_steps, ◌↔◌, AllPairs, flat_map, cases_lt, get_or_append_left, get_or_default, length-append, All-head, All-tail, Contains-append_left, Contains-append_right, Contains-append_cases, AreJust, IsEarlier}
use Rattle.std.specs.Prelude.{◌⊎◌, Contains}
use Rattle.std.proofs.Math.Seq.{get_or-append_right}

module _ {A : Type 0} where
  pub Contains-nil : (x : A) → ¬ Contains [] x
  Contains-nil x (k, within, is) = omega (arith, within)

  pub Contains-here : (x : A) (xs : List A) → Contains (x ∷ xs) x
  Contains-here x xs = (0, (let n = length xs in omega arith), refl)

  pub Contains-there : (x : A) (xs : List A) (y : A) → Contains xs y → Contains (x ∷ xs) y
  Contains-there x xs y (k, within, is) = (suc k, omega (arith, within), is)

  pub Contains-cons : (x : A) (xs : List A) (y : A) → Contains (x ∷ xs) y → (x ≡ y) ⊎ Contains xs y
  Contains-cons x xs y (zero, within, is) = inl is
  Contains-cons x xs y (suc k, within, is) = inr (k, omega (arith, within), is)

  pub All-at : (P : A → Type 0) (xs : List A) → All P xs → (x : A) → Contains xs x → P x
  All-at P xs all x (k, within, is) = subst P is (all k x within)

  pub All-from : (P : A → Type 0) (xs : List A) → ((x : A) → Contains xs x → P x) → All P xs
  All-from P xs each k d within = each (get_or xs k d) (k, within, get_or_default xs k (get_or xs k d) d within)

  pub AllPairs-head : (R : A → A → Type 0) (x : A) (xs : List A) → AllPairs R (x ∷ xs) → All (R x) xs
  AllPairs-head R x xs pairs k d within = pairs 0 (suc k) d (omega arith) (omega (arith, within))

  pub AllPairs-tail : (R : A → A → Type 0) (x : A) (xs : List A) → AllPairs R (x ∷ xs) → AllPairs R xs
  AllPairs-tail R x xs pairs i j d before within = pairs (suc i) (suc j) d (omega (arith, before)) (omega (arith, within))

  pub AllPairs-nil : (R : A → A → Type 0) → AllPairs R []
  AllPairs-nil R i j d before within = absurd (let none : j < 0 = within in omega arith)

  -- two lists in order, each element of the one before each of the other
  pub AllPairs-append : (R : A → A → Type 0) (xs ys : List A) → AllPairs R xs → AllPairs R ys → All (λ x. All (λ y. R x y) ys) xs
      → AllPairs R (xs ++ ys)
  AllPairs-append R xs ys first second across i j d before within =
      grind (arith, common_steps, cases_lt, get_or_append_left, length-append, get_or-append_right)

  -- with the same first element, what is in the rest of one list is in the rest of the other
  same_rest : (IsBelow : A → A → Type 0) → ((x y : A) → IsBelow x y → IsBelow y x → ⊥) → (x y : A) (xs ys : List A) → x ≡ y
      → AllPairs IsBelow (x ∷ xs) → ((z : A) → Contains (x ∷ xs) z → Contains (y ∷ ys) z) → (z : A) → Contains xs z → Contains ys z
  same_rest IsBelow asymmetric x y xs ys same rising into z inside =
      elim (Contains-cons y ys z (into z (Contains-there x xs z inside))) [
        | inl is ↦
            let above = All-at (IsBelow x) xs (AllPairs-head IsBelow x xs rising) z inside in
            let itself : IsBelow z z = subst (λ (o : A). IsBelow o z) (same ∙ is) above in
            absurd (asymmetric z z itself itself)
        | inr there ↦ there
      ]

  -- two lists in rising order with the same elements are one
  pub rising_same : (IsBelow : A → A → Type 0) → ((x y : A) → IsBelow x y → IsBelow y x → ⊥) → (xs ys : List A)
      → AllPairs IsBelow xs → AllPairs IsBelow ys → ((z : A) → Contains xs z → Contains ys z) → ((z : A) → Contains ys z → Contains xs z) → xs ≡ ys
  rising_same IsBelow asymmetric [] [] first second into back = refl
  rising_same IsBelow asymmetric [] (y ∷ ys) first second into back = absurd (Contains-nil y (back y (Contains-here y ys)))
  rising_same IsBelow asymmetric (x ∷ xs) [] first second into back = absurd (Contains-nil x (into x (Contains-here x xs)))
  rising_same IsBelow asymmetric (x ∷ xs) (y ∷ ys) first second into back =
      let same : x ≡ y =
      elim (Contains-cons y ys x (into x (Contains-here x xs))) [
        | inl is ↦ sym is
        | inr later ↦ elim (Contains-cons x xs y (back y (Contains-here y ys))) [
          | inl is ↦ is
          | inr behind ↦ absurd (asymmetric x y
              (All-at (IsBelow x) xs (AllPairs-head IsBelow x xs first) y behind)
              (All-at (IsBelow y) ys (AllPairs-head IsBelow y ys second) x later))
        ]
      ] in
      let rest : xs ≡ ys =
      rising_same IsBelow asymmetric xs ys (AllPairs-tail IsBelow x xs first) (AllPairs-tail IsBelow y ys second)
      (same_rest IsBelow asymmetric x y xs ys same first into)
      (same_rest IsBelow asymmetric y x ys xs (sym same) second back) in
      cc

-- of two places only one comes before the other
pub IsEarlier-asymmetric : (one other : List ℕ) → IsEarlier one other → IsEarlier other one → ⊥
IsEarlier-asymmetric [] other first second = first
IsEarlier-asymmetric (n ∷ ns) [] first second = first
IsEarlier-asymmetric (n ∷ ns) (m ∷ ms) (inl less) (inl greater) = omega arith
IsEarlier-asymmetric (n ∷ ns) (m ∷ ms) (inl less) (inr (same, rest)) = omega (arith, less, same)
IsEarlier-asymmetric (n ∷ ns) (m ∷ ms) (inr (same, rest)) (inl greater) = omega (arith, greater, same)
IsEarlier-asymmetric (n ∷ ns) (m ∷ ms) (inr (same, rest)) (inr (back, behind)) = IsEarlier-asymmetric ns ms rest behind

-- there is one list of what has a property
pub just_one : {X : Type 0} (place : X → List ℕ) (P Q : X → Type 0) (xs ys : List X)
    → ((x : X) → P x ↔ Q x) → AreJust place P xs → AreJust place Q ys → xs ≡ ys
just_one place P Q xs ys same first second =
    rising_same (λ x y. IsEarlier (place x) (place y)) (λ x y before after. IsEarlier-asymmetric (place x) (place y) before after)
    xs ys first.rising second.rising
    (λ z inside. (second.each z).1 ((same z).0 ((first.each z).0 inside)))
    (λ z inside. (first.each z).1 ((same z).1 ((second.each z).0 inside)))

pub just_alone : {X : Type 0} (place : X → List ℕ) (P : X → Type 0) (xs ys : List X) → AreJust place P xs → AreJust place P ys → xs ≡ ys
just_alone place P xs ys first second = just_one place P P xs ys (λ x. (λ h. h, λ h. h)) first second

-- the list is also that of another property of the same items
pub just_along : {X : Type 0} (place : X → List ℕ) (P Q : X → Type 0) (xs : List X) → ((x : X) → P x ↔ Q x) → AreJust place P xs → AreJust place Q xs
just_along place P Q xs same just = record {
  rising = just.rising;
  each = λ x. (λ inside. (same x).0 ((just.each x).0 inside), λ has. (just.each x).1 ((same x).1 has));
}

-- the list of what nothing has
pub just_none : {X : Type 0} (place : X → List ℕ) (P : X → Type 0) → ((x : X) → ¬ P x) → AreJust place P []
just_none place P none = record {
  rising = AllPairs-nil (λ x y. IsEarlier (place x) (place y));
  each = λ x. (λ inside. absurd (Contains-nil x inside), λ has. absurd (none x has));
}

-- and of what one alone has
pub just_single : {X : Type 0} (place : X → List ℕ) (P : X → Type 0) (x : X) → P x → ((y : X) → P y → x ≡ y) → AreJust place P (x ∷ [])
just_single place P x has alone = record {
  rising = λ i j d before within. absurd (let inside : j < 1 = within in omega arith);
  each = λ y. (
    λ inside. elim (Contains-cons x [] y inside) [
      | inl is ↦ subst P is has
      | inr there ↦ absurd (Contains-nil y there)
    ],
    λ holds. subst (λ z. Contains (x ∷ []) z) (alone y holds) (Contains-here x []),
  );
}

-- a piece of such a list: what has a key, and the items with it
module _ {K A : Type 0} (key : A → K) (place : A → List ℕ) (P : A → Type 0) where
  abbrev IsBelow : A → A → Type 0
  IsBelow x y = IsEarlier (place x) (place y)

  -- the piece has just the items of its key
  abbrev pub IsPiece : K × List A → Type 0
  IsPiece piece = AreJust place (λ item. (key item ≡ piece.0) × P item) piece.1

  -- all pieces, one behind another
  abbrev pub joined : List (K × List A) → List A
  joined pieces = flat_map (λ piece. piece.1) pieces

  abbrev pub keys : List (K × List A) → List K
  keys pieces = map (λ piece. piece.0) pieces

  only : (pieces : List (K × List A)) → All IsPiece pieces → (x : A) → Contains (joined pieces) x → Contains (keys pieces) (key x) × P x
  only [] each x inside = absurd (Contains-nil x inside)
  only (piece ∷ pieces) each x inside =
      elim (Contains-append_cases piece.1 (joined pieces) x inside) [
        | inl here ↦
            let is = ((All-head IsPiece piece pieces each).each x).0 here in
            (subst (λ (k : K). Contains (keys (piece ∷ pieces)) k) (sym is.0) (Contains-here piece.0 (keys pieces)), is.1)
        | inr there ↦
            let is = only pieces (All-tail IsPiece piece pieces each) x there in
            (Contains-there piece.0 (keys pieces) (key x) is.0, is.1)
      ]

  every : (pieces : List (K × List A)) → All IsPiece pieces → (x : A) → Contains (keys pieces) (key x) → P x → Contains (joined pieces) x
  every [] each x known has = absurd (Contains-nil (key x) known)
  every (piece ∷ pieces) each x known has =
      elim (Contains-cons piece.0 (keys pieces) (key x) known) [
        | inl is ↦ Contains-append_left piece.1 (joined pieces) x (((All-head IsPiece piece pieces each).each x).1 (sym is, has))
        | inr there ↦ Contains-append_right piece.1 (joined pieces) x (every pieces (All-tail IsPiece piece pieces each) x there has)
      ]

  rising : (Below : K → K → Type 0) → ((x y : A) → P x → P y → Below (key x) (key y) → IsEarlier (place x) (place y)) → (pieces : List (K × List A)) → AllPairs Below (keys pieces)
      → All IsPiece pieces → AllPairs IsBelow (joined pieces)
  rising Below across [] order each = AllPairs-nil IsBelow
  rising Below across (piece ∷ pieces) order each =
      let first = All-head IsPiece piece pieces each in
      let rest = All-tail IsPiece piece pieces each in
      AllPairs-append IsBelow piece.1 (joined pieces) first.rising
      (rising Below across pieces (AllPairs-tail Below piece.0 (keys pieces) order) rest)
      (All-from (λ x. All (λ y. IsBelow x y) (joined pieces)) piece.1
      (λ x here. All-from (λ y. IsBelow x y) (joined pieces)
      (λ y there.
      let behind = only pieces rest y there in
      let below = All-at (Below piece.0) (keys pieces) (AllPairs-head Below piece.0 (keys pieces) order) (key y) behind.0 in
      across x y ((first.each x).0 here).1 behind.1 (subst (λ (k : K). Below k (key y)) (sym ((first.each x).0 here).0) below))))

  -- pieces with rising keys, among them the key of each item, make the list
  pub just_joined : (Below : K → K → Type 0) → ((x y : A) → P x → P y → Below (key x) (key y) → IsEarlier (place x) (place y)) → (pieces : List (K × List A))
      → AllPairs Below (keys pieces) → All IsPiece pieces → ((x : A) → P x → Contains (keys pieces) (key x)) → AreJust place P (joined pieces)
  just_joined Below across pieces order each complete = record {
    rising = rising Below across pieces order each;
    each = λ x. (
      λ inside. (only pieces each x inside).1,
      λ has. every pieces each x (complete x has) has,
    );
  }

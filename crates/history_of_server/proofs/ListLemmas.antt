-- What holds of each element of a list, and of each two.
use Rattle.history_of_server.proofs.Common.{ℕ, ◌≡◌, ◌≢◌, sym, arith, refl, subst, Bool, true, false, List, [], ◌∷◌, ◌++◌, suc, Contains, filter, if◌then◌else◌}
use Rattle.std.proofs.Common.{length}
use Rattle.std.specs.Prelude.{Any}

-- each of them is so
abbrev pub Each : {X : Type 0} → (X → Type 0) → List X → Type 0
Each P [] = Unit {0}
Each P (x ∷ xs) = P x × Each P xs

-- no two of them have one number
abbrev pub Apart : {X : Type 0} → (X → ℕ) → List X → Type 0
Apart f [] = Unit {0}
Apart f (x ∷ xs) = Each (λ y. f y ≢ f x) xs × Apart f xs

pub each_weaker : {X : Type 0} (P Q : X → Type 0) → ((x : X) → P x → Q x) → (xs : List X) → Each P xs → Each Q xs
each_weaker P Q weaker [] each = tt
each_weaker P Q weaker (x ∷ xs) each = (weaker x each.0, each_weaker P Q weaker xs each.1)

pub each_both : {X : Type 0} (P Q : X → Type 0) (xs : List X) → Each P xs → Each Q xs → Each (λ x. P x × Q x) xs
each_both P Q [] each more = tt
each_both P Q (x ∷ xs) each more = ((each.0, more.0), each_both P Q xs each.1 more.1)

pub each_append : {X : Type 0} (P : X → Type 0) (xs ys : List X) → Each P xs → Each P ys → Each P (xs ++ ys)
each_append P [] ys each more = more
each_append P (x ∷ xs) ys each more = (each.0, each_append P xs ys each.1 more)

-- of the one between them, and of the others
pub each_between : {X : Type 0} (P : X → Type 0) (before : List X) (x : X) (after : List X) → Each P (before ++ x ∷ after) → P x × Each P (before ++ after)
each_between P [] x after each = each
each_between P (y ∷ before) x after each = let rest = each_between P before x after each.1 in (rest.0, (each.0, rest.1))

pub each_filter : {X : Type 0} (P : X → Type 0) (test : X → Bool) (xs : List X) → Each P xs → Each P (filter test xs)
each_filter P test [] each = tt
each_filter P test (x ∷ xs) each = at (test x) (each_filter P test xs each.1)
  where
    at : (b : Bool) → Each P (filter test xs) → Each P (if b then x ∷ filter test xs else filter test xs)
    at true rest = (each.0, rest)
    at false rest = rest

pub each_passes : {X : Type 0} (test : X → Bool) (xs : List X) → Each (λ x. test x ≡ true) (filter test xs)
each_passes test [] = tt
each_passes test (x ∷ xs) = at (test x) refl (each_passes test xs)
  where
    at : (b : Bool) → test x ≡ b → Each (λ y. test y ≡ true) (filter test xs) → Each (λ y. test y ≡ true) (if b then x ∷ filter test xs else filter test xs)
    at true is rest = (is, rest)
    at false is rest = rest

pub apart_between : {X : Type 0} (f : X → ℕ) (before : List X) (x : X) (after : List X) → Apart f (before ++ x ∷ after)
    → Each (λ y. f y ≢ f x) (before ++ after) × Apart f (before ++ after)
apart_between f [] x after apart = apart
apart_between f (y ∷ before) x after apart =
    let rest = apart_between f before x after apart.1 in
    let first = each_between (λ z. f z ≢ f y) before x after apart.0 in
    (((λ same. first.0 (sym same)), rest.0), (first.1, rest.1))

pub apart_push : {X : Type 0} (f : X → ℕ) (xs : List X) (x : X) → Apart f xs → Each (λ y. f y ≢ f x) xs → Apart f (xs ++ x ∷ [])
apart_push f [] x apart each = (tt, tt)
apart_push f (y ∷ xs) x apart each =
    (each_append (λ z. f z ≢ f y) xs (x ∷ []) apart.0 ((λ same. each.0 (sym same)), tt), apart_push f xs x apart.1 each.1)

pub apart_filter : {X : Type 0} (f : X → ℕ) (test : X → Bool) (xs : List X) → Apart f xs → Apart f (filter test xs)
apart_filter f test [] apart = tt
apart_filter f test (x ∷ xs) apart = at (test x) (apart_filter f test xs apart.1)
  where
    at : (b : Bool) → Apart f (filter test xs) → Apart f (if b then x ∷ filter test xs else filter test xs)
    at true rest = (each_filter (λ z. f z ≢ f x) test xs apart.0, rest)
    at false rest = rest

-- by other numbers that are the same for each
pub apart_renamed : {X : Type 0} (f g : X → ℕ) (xs : List X) → Apart f xs → Each (λ x. g x ≡ f x) xs → Apart g xs
apart_renamed f g [] apart same = tt
apart_renamed f g (x ∷ xs) apart same = (
  each_weaker (λ y. (f y ≢ f x) × (g y ≡ f y)) (λ y. g y ≢ g x)
      (λ y both equal. both.0 (subst (λ n. n ≡ f x) both.1 (subst (λ n. g y ≡ n) same.0 equal)))
      xs (each_both (λ y. f y ≢ f x) (λ y. g y ≡ f y) xs apart.0 same.1),
  apart_renamed f g xs apart.1 same.1,
)

-- where not any is so, each isn't
pub each_not : {X : Type 0} (P : X → Type 0) (xs : List X) → ¬ Any P xs → Each (λ x. ¬ P x) xs
each_not P [] none = tt
each_not P (x ∷ xs) none = ((λ holds. none (0, x, (let n = length xs in omega arith), refl, holds)), each_not P xs (λ any. none (later any)))
  where
    later : Any P xs → Any P (x ∷ xs)
    later (k, y, within, is, holds) = (suc k, y, omega (arith, within), is, holds)

pub each_other : {X : Type 0} (xs : List X) (y : X) → ¬ Contains xs y → Each (λ x. x ≢ y) xs
each_other [] y none = tt
each_other (x ∷ xs) y none = ((λ same. none (0, (let n = length xs in omega arith), same)), each_other xs y (λ has. none (later has)))
  where
    later : Contains xs y → Contains (x ∷ xs) y
    later (k, within, is) = (suc k, omega (arith, within), is)

-- Predicates that some value meets, and the choices by a fact and the chains that are made of them. That some value does is said by a double
-- negation: it can't be that none does. So a fact may be asked of which no test is known.
use Rattle.lock_manager.proofs.Common.{ℕ, zero, suc, ◌≡◌, ◌<◌, subst, arith, inl, inr, cases_lt, MatchFact}

-- some value meets the predicate
abbrev pub AtLeastOne : {A : Type 0} → (A → Type 0) → Type 0
AtLeastOne {A} P = ¬ ((x : A) → ¬ P x)

-- some pair of values meets the predicate
abbrev pub SomePair : {A B : Type 0} → (A → B → Type 0) → Type 0
SomePair {A} {B} P = ¬ ((x : A) (y : B) → ¬ P x y)

-- this value does
pub this_value : {A : Type 0} (P : A → Type 0) (x : A) → P x → AtLeastOne P
this_value P x h none = none x h

-- it can't be that a fact neither holds nor doesn't, so a choice of it may be made where nothing but ⊥ is to be shown
pub by_cases : (Fact : Type 0) → (Fact → ⊥) → (¬ Fact → ⊥) → ⊥
by_cases Fact holds fails = fails holds

-- where each case has some value, so has the choice by a fact
pub MatchFact-some : {A : Type 0} (Fact : Type 0) (P Q : A → Type 0) → (Fact → AtLeastOne P) → AtLeastOne Q → AtLeastOne (λ x. MatchFact Fact (P x) (Q x))
MatchFact-some Fact P Q p q none =
    by_cases Fact (λ fact. p fact (λ x h. none x (inl (fact, h)))) (λ fails. q (λ x h. none x (inr (fails, h))))

-- some value comes of one that there is
pub some_by_one : {A X : Type 0} (Gives : A → Type 0) (Comes : A → X → Type 0) → AtLeastOne Gives → ((a : A) → Gives a → AtLeastOne (Comes a))
    → AtLeastOne (λ x. (a : A) × Gives a × Comes a x)
some_by_one Gives Comes given comes none = given (λ a h. comes a h (λ x k. none x (a, h, k)))

-- some value comes of two that there are
pub some_by_two : {A B X : Type 0} (Gives : A → B → Type 0) (Comes : A → B → X → Type 0) → SomePair Gives
    → ((a : A) (b : B) → Gives a b → AtLeastOne (Comes a b)) → AtLeastOne (λ x. (a : A) × (b : B) × Gives a b × Comes a b x)
some_by_two Gives Comes given comes none = given (λ a b h. comes a b h (λ x k. none x (a, b, h, k)))

-- the number is the least that meets the predicate
pub record IsLeast (P : ℕ → Type 0) (n : ℕ) : Type 0 where
  pub holds : P n
  pub least : (k : ℕ) → k < n → ¬ P k

-- where no number is the least that meets the predicate, none does
least_below : (P : ℕ → Type 0) (n : ℕ) → ((m : ℕ) → ¬ IsLeast P m) → (k : ℕ) → k < n → ¬ P k
least_below P zero none k below h = omega arith
least_below P (suc n) none k below h =
    elim (cases_lt k n) [
      | inl before ↦ least_below P n none k before h
      | inr last ↦
          let same : k ≡ n = omega arith in
          none n (record { holds = subst P same h; least = least_below P n none })
    ]

-- where a number meets the predicate, some number is the least that does
pub some_least : (P : ℕ → Type 0) (n : ℕ) → P n → AtLeastOne (IsLeast P)
some_least P n h none = least_below P (suc n) none n (omega arith) h
